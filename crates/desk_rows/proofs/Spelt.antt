-- The digits of a number, one at a time. Assumes nothing.
use Prim.Native.Nat.{ℕ, zero, suc, ◌+◌, ◌-◌, ◌*◌, ◌^◌, ◌<◌, ◌≤◌}
use native.Mathlib.Omega.{arith}
use mathlib.Core.Path.{◌≡◌, refl, sym, ◌∙◌}
use mathlib.Core.Logic.{◌≢◌}
use mathlib.Core.List.{List, [], ◌∷◌}
use mathlib.Core.Option.{none, some}
use native.Mathlib.Numerals.{add-one}
use native.Mathlib.Nat.{pow-le-pow_right, pow-suc}
use lib.ListN.{length, take, drop, get_or}
use lib.Seq.{drop-cons}
use borrow.Author.Tests.{lt-ltb, le-ltb}
use Rattle.model.specs.ReadFrame.{value_of, is_digit}
use Rattle.model.proofs.Lists.{by_test}
use Rattle.desk_lines.specs.Lines.{end_of}
use Rattle.desk_rows.specs.Rows.{digits_from, number}
use Rattle.desk_rows.specs.Numbers.{field_at}
use Rattle.desk_lines.proofs.Finds.{up_to_take}

-- the bytes from i to e
abbrev pub part : List ℕ → ℕ → ℕ → List ℕ
part l i e = take (e - i) (drop i l)

part_cons : (l : List ℕ) (i e : ℕ) → i < e → e ≤ length l → part l i e ≡ get_or l i 0 ∷ part l (i + 1) e
part_cons l i e h k =
    let n : e - i ≡ suc (e - (i + 1)) = omega arith in
    rw (n, drop-cons l i 0 (omega arith), add-one) refl

part_none : (l : List ℕ) (e : ℕ) → part l e e ≡ []
part_none l e = let n : e - e ≡ 0 = omega arith in rw n refl

more : (most v b : ℕ) (bs : List ℕ) → value_of b < 16 → digits_from (suc most) v (b ∷ bs) ≡ digits_from most (v * 16 + value_of b) bs
unfolding digits_from
more most v b bs d = simp (lt-ltb _ _ d) refl

no_digit : (most v b : ℕ) (bs : List ℕ) → (16 ≤ value_of b) → digits_from most v (b ∷ bs) ≡ none
unfolding digits_from
no_digit zero v b bs d = refl
no_digit (suc most) v b bs d = simp (le-ltb _ _ d) refl

too_many : (most v : ℕ) (f : List ℕ) → most < length f → digits_from most v f ≡ none
unfolding digits_from
too_many most v [] h = absurd (omega arith)
too_many zero v (b ∷ bs) h = refl
too_many (suc most) v (b ∷ bs) h = by_test (λ o. o ≡ none) (is_digit b) (λ e. too_many most (v * 16 + value_of b) bs (omega arith)) (λ e. refl)

no_more : (most v : ℕ) → digits_from most v [] ≡ some v
unfolding digits_from
no_more zero v = refl
no_more (suc most) v = refl

-- a number is what its digits make
pub number_is : (most : ℕ) (f : List ℕ) → 0 < length f → number most f ≡ digits_from most 0 f
number_is most [] h = absurd (omega arith)
number_is most (b ∷ bs) h = refl

empty : (most : ℕ) (f : List ℕ) → length f ≡ 0 → number most f ≡ none
empty most [] h = refl
empty most (b ∷ bs) h = absurd (omega arith)

long : (most : ℕ) (f : List ℕ) → most < length f → number most f ≡ none
long most [] h = refl
long most (b ∷ bs) h = too_many most 0 (b ∷ bs) h

pub number_empty : (l : List ℕ) (from most e : ℕ) → e ≡ end_of 32 l from → e ≡ from → number most (field_at l from) ≡ none
number_empty l from most e g h = empty most (field_at l from) (omega arith)

pub number_long : (l : List ℕ) (from most e : ℕ) → e ≡ end_of 32 l from → most < e - from → number most (field_at l from) ≡ none
number_long l from most e g h = long most (field_at l from) (omega arith)

-- the loop begins with the whole field
pub field_part : (l : List ℕ) (from : ℕ) → part l from (end_of 32 l from) ≡ field_at l from
field_part l from =
    let n : end_of 32 l from - from ≡ length (field_at l from) = omega arith in
    rw n (up_to_take 32 (drop from l))

-- the value of n digits is below 16 ^ n, so a digit more does not wrap
pub value_more : (v n d : ℕ) → v < 16 ^ n → d < 16 → v * 16 + d < 16 ^ (n + 1)
value_more v n d h k = let e : n + 1 ≡ suc n = add-one n in rw e (omega (arith, pow-suc 16 n))

pub value_small : (n : ℕ) → n ≤ 16 → 16 ^ n ≤ 18446744073709551616
value_small n h = pow-le-pow_right {n = 16} (omega arith) h

-- THE LOOP: at digit i, v is the value of those before it, and the rest make the number that is looked for
pub record Spelling (l : List ℕ) (from e most i v : ℕ) : Type 0 where
  pub end : e ≡ end_of 32 l from
  pub some : from < e
  pub inside : e ≤ length l
  pub short : e - from ≤ most
  pub begun : from ≤ i
  pub within : i ≤ e
  pub going : digits_from (most - (i - from)) v (part l i e) ≡ number most (field_at l from)
  pub low : v < 16 ^ (i - from)

pub spelling : (l : List ℕ) (from e most : ℕ) → e ≡ end_of 32 l from → from ≤ e → from ≢ e → e ≤ length l → e - from ≤ most → Spelling l from e most from 0
spelling l from e most end le ne inside short =
    let n : most - (from - from) ≡ most = omega arith in
    let z : from - from ≡ 0 = omega arith in
    record {
      end = end;
      some = omega arith;
      inside = inside;
      short = short;
      begun = omega arith;
      within = le;
      going = rw (n, end, field_part l from) (sym (number_is most (field_at l from) (omega arith)));
      low = rw z (omega arith);
    }

module _ {l : List ℕ} {from e most i v : ℕ} (s : Spelling l from e most i v) where
  spelt_next : i < e → value_of (get_or l i 0) < 16 → Spelling l from e most (i + 1) (v * 16 + value_of (get_or l i 0))
  spelt_next h d =
      let n : most - (i - from) ≡ suc (most - (i + 1 - from)) = omega (arith, s.begun, s.short) in
      let m : i + 1 - from ≡ i - from + 1 = omega (arith, s.begun) in
      record {
        end = s.end;
        some = s.some;
        inside = s.inside;
        short = s.short;
        begun = omega (arith, s.begun);
        within = omega arith;
        going = sym (rw (part_cons l i e h s.inside, n) (more (most - (i + 1 - from)) v (get_or l i 0) (part l (i + 1) e) d)) ∙ s.going;
        low = rw m (value_more v (i - from) (value_of (get_or l i 0)) s.low d);
      }

  pub spelt_more : (d : ℕ) → d ≡ value_of (get_or l i 0) → i < e → d < 16 → Spelling l from e most (i + 1) (v * 16 + d)
  spelt_more d is h low = rw is (spelt_next h (rw (sym is) low))

  pub spelt_bad : i < e → 16 ≤ value_of (get_or l i 0) → number most (field_at l from) ≡ none
  spelt_bad h d = sym s.going ∙ rw (part_cons l i e h s.inside) (no_digit (most - (i - from)) v (get_or l i 0) (part l (i + 1) e) d)

  pub spelt_done : e ≤ i → (number most (field_at l from) ≡ some v) × (v < 16 ^ most)
  spelt_done h =
      let n : i ≡ e = omega (arith, s.within) in
      let p : 16 ^ (i - from) ≤ 16 ^ most = pow-le-pow_right {n = 16} (omega arith) (omega (arith, s.short, s.within)) in
      (sym s.going ∙ rw (n, part_none l e) (no_more (most - (e - from)) v), omega (arith, s.low))

  -- so one digit more does not wrap
  pub spelt_small : i < e → most ≤ 16 → v * 16 + 16 ≤ 18446744073709551616
  spelt_small h m =
      let k : i - from + 1 ≤ 16 = omega (arith, s.short, s.begun) in
      omega (arith, value_more v (i - from) 15 s.low (omega arith), value_small (i - from + 1) k)
