-- The numbers of a line are what their types can hold: keys and places of 16 digits, sizes of 8. Assumes nothing.
use Prim.Native.Nat.{ℕ, zero, suc, ◌+◌, ◌*◌, ◌^◌, ◌≤◌, ◌<◌}
use native.Mathlib.Omega.{arith}
use native.Mathlib.Nat.{pow-le-pow_right}
use mathlib.Core.Path.{◌≡◌, refl, subst}
use mathlib.Core.Bool.{Bool, true, false, cond}
use mathlib.Core.List.{List, [], ◌∷◌}
use mathlib.Core.Option.{Option, none, some}
use lib.Dec.{leb}
use lib.ListN.{length, drop}
use borrow.Author.Tests.{ltb-true}
use Rattle.model.specs.declared.Entry.{Entry}
use Rattle.model.specs.Lists.{All}
use Rattle.model.specs.Lists as Every
use Rattle.model.specs.Sound.{Fits}
use Rattle.model.specs.ReadFrame.{value_of, is_digit}
use Rattle.model.proofs.Lists.{all_of, all_map, by_test}
use Rattle.desk_lines.specs.Parts.{longest, whole, too_long}
use Rattle.desk_orders.specs.Orders.{Wanted, set, drops, dump, malformed, begins}
use Rattle.desk_rows.specs.Rows.{fields, digits_from, number, row, and_rows, rows_in}
use Rattle.desk_orders.specs.Orders.{is_word, set_word, drop_word, dump_word, setting, dropping, asked, ordered, wanted}
use Rattle.desk_rows.proofs.Spelt.{value_more}

no_number : {A : Type 0} {x : A} → none ≡ some x → ⊥
no_number h = let z : ◌≡◌ {A = ℕ} 0 1 = cc in omega arith

-- A NUMBER

digits_low : (most n v r : ℕ) (bs : List ℕ) → v < 16 ^ n → digits_from most v bs ≡ some r → r < 16 ^ (n + most)
unfolding digits_from
digits_low most n v r [] h e =
    let same : v ≡ r = cc in
    let more : 16 ^ n ≤ 16 ^ (n + most) = pow-le-pow_right {n = 16} (omega arith) (omega arith) in
    omega (arith, h, same, more)
digits_low zero n v r (b ∷ bs) h e = absurd (no_number e)
digits_low (suc most) n v r (b ∷ bs) h e = by (is_digit b) refl (digits_low most (n + 1) (v * 16 + value_of b) r bs) e
  where
    by : (t : Bool) → is_digit b ≡ t → (v * 16 + value_of b < 16 ^ (n + 1) → digits_from most (v * 16 + value_of b) bs ≡ some r → r < 16 ^ (n + 1 + most))
        → cond t (digits_from most (v * 16 + value_of b) bs) none ≡ some r → r < 16 ^ (n + suc most)
    by true d on e =
        let far : n + 1 + most ≡ n + suc most = omega arith in
        subst (λ k. r < 16 ^ k) far (on (value_more v n (value_of b) h (ltb-true (value_of b) 16 d)) e)
    by false d on e = absurd (no_number e)

number_low : (most r : ℕ) (f : List ℕ) → number most f ≡ some r → r < 16 ^ most
number_low most r [] e = absurd (no_number e)
number_low most r (b ∷ bs) e =
    let same : 0 + most ≡ most = omega arith in
    subst (λ k. r < 16 ^ k) same (digits_low most 0 0 r (b ∷ bs) (omega arith) e)

-- A ROW

row_fits : (k p z : Option ℕ) (e : Entry) → ((v : ℕ) → k ≡ some v → v < 2 ^ 64) → ((v : ℕ) → p ≡ some v → v < 2 ^ 64) → ((v : ℕ) → z ≡ some v → v < 2 ^ 32)
    → row k p z ≡ some e → Fits e
row_fits (some k) (some p) (some z) e a b c h =
    let is : record { key = k; place = p; size = z } ≡ e = same h in
    subst Fits is (record { key = a k refl; place = b p refl; size = c z refl })
  where
    same : some (record { key = k; place = p; size = z }) ≡ some e → record { key = k; place = p; size = z } ≡ e
    same g = cc
row_fits (some k) (some p) none e a b c h = absurd (no_number h)
row_fits (some k) none z e a b c h = absurd (no_number h)
row_fits none p z e a b c h = absurd (no_number h)

-- ROWS

and_fits : (o : Option Entry) (os : Option (List Entry)) (es : List Entry) → ((e : Entry) → o ≡ some e → Fits e)
    → ((fs : List Entry) → os ≡ some fs → All Fits fs)
    → and_rows o os ≡ some es → All Fits es
and_fits (some e) (some fs) es f g h = subst (All Fits) (same h) (Every.one (f e refl) (g fs refl))
  where
    same : some (e ∷ fs) ≡ some es → e ∷ fs ≡ es
    same k = cc
and_fits (some e) none es f g h = absurd (no_number h)
and_fits none os es f g h = absurd (no_number h)

zero_is : (v : ℕ) → some 0 ≡ some v → v ≡ 0
zero_is v h = cc

rows_fit : (triples : Bool) (fs : List (List ℕ)) (es : List Entry) → rows_in triples fs ≡ some es → All Fits es
unfolding rows_in
rows_fit triples [] es e = subst (All Fits) (same e) Every.none
  where
    same : some [] ≡ some es → [] ≡ es
    same h = cc
rows_fit false (k ∷ fs) es e =
    and_fits (row (number 16 k) (some 0) (some 0)) (rows_in false fs) es
    (λ x. row_fits (number 16 k) (some 0) (some 0) x (λ v. number_low 16 v k) (λ v h. omega (arith, zero_is v h)) (λ v h. omega (arith, zero_is v h)))
    (rows_fit false fs) e
rows_fit true (k ∷ []) es e = absurd (no_number e)
rows_fit true (k ∷ (p ∷ [])) es e = absurd (no_number e)
rows_fit true (k ∷ (p ∷ (z ∷ fs))) es e =
    and_fits (row (number 16 k) (number 16 p) (number 8 z)) (rows_in true fs) es
    (λ x. row_fits (number 16 k) (number 16 p) (number 8 z) x (λ v. number_low 16 v k) (λ v. number_low 16 v p) (λ v. number_low 8 v z))
    (rows_fit true fs) e

-- WHAT A LINE ASKS FOR

abbrev pub WantedFits : Wanted → Type 0
WantedFits (set es) = All Fits es
WantedFits (drops ks) = All (λ k. k < 2 ^ 64) ks
WantedFits dump = Unit {0}
WantedFits malformed = Unit {0}

setting_fits : (o : Option (List Entry)) → ((es : List Entry) → o ≡ some es → All Fits es) → WantedFits (setting o)
setting_fits (some es) f = f es refl
setting_fits none f = tt

dropping_fits : (o : Option (List Entry)) → ((es : List Entry) → o ≡ some es → All Fits es) → WantedFits (dropping o)
dropping_fits (some es) f = all_of (λ e. e.key) (all_map (λ e h. h.key) (f es refl))
dropping_fits none f = tt

asked_fits : (l : List ℕ) → WantedFits (asked l)
unfolding asked
asked_fits l =
    by_test WantedFits (begins set_word l) (λ e. setting_fits (rows_in true (fields (drop 4 l))) (rows_fit true (fields (drop 4 l)))) (λ e.
    by_test WantedFits (begins drop_word l) (λ e. dropping_fits (rows_in false (fields (drop 5 l))) (rows_fit false (fields (drop 5 l)))) (λ e.
    by_test WantedFits (is_word dump_word l) {x = dump} {y = malformed} (λ e. tt) (λ e. tt)))

pub wanted_fits : (l : List ℕ) → WantedFits (wanted l)
wanted_fits l = by (leb (length l) longest)
  where
    by : (t : Bool) → WantedFits (ordered (cond t (whole l) too_long))
    by true = asked_fits l
    by false = tt
