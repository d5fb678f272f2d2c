-- The bytes and numbers that a line spells, a digit at a time. Assumes nothing.
use mathlib.Core.Path.{◌≡◌, refl, sym, ap, ◌∙◌}
use mathlib.Core.Bool.{Bool, true, false, ◌&&◌, cond, true≢false}
use mathlib.Core.List.{List, [], ◌∷◌}
use mathlib.Core.Option.{none, some}
use Rattle.std.specs.Prelude.{Option, None, Some, IsSome, unwrap_or}
use Prim.Native.Nat.{ℕ, zero, suc, ◌+◌, ◌*◌, ◌/◌, ◌^◌, ◌≤◌, ◌<◌}
use native.Mathlib.Omega.{arith}
use native.Mathlib.Nat.{pow-suc, pow-le-pow_right}
use native.Mathlib.Numerals.{add-one}
use lib.ListN.{length, take, drop, get_or, length-drop}
use lib.Seq.{take-suc, get_or-drop}
use borrow.Author.Tests.{ltb-true}
use Rattle.model.specs.ReadFrame.{value_of, is_digit, onto, unhex, field}
use Rattle.model.proofs.Lists.{both_left, both_right}
use Rattle.model.proofs.Frames.{spelt_append}
use Rattle.frame_text.specs.Digits.{is_hex, pairs}

-- THE VALUE OF A BYTE

-- a digit has a value
pub has_value : (o : Option ℕ) (v : ℕ) → unwrap_or o 16 ≡ v → v < 16 → IsSome o
has_value None v e low = absurd (omega (arith, e))
has_value (Some d) v e low = refl

-- THE BYTES OF A LINE

onto_pairs : (t u : Bool) (x : ℕ) (xs : List ℕ) → onto t x (cond u (some xs) none) ≡ cond (t && u) (some (x ∷ xs)) none
onto_pairs true true x xs = refl
onto_pairs true false x xs = refl
onto_pairs false u x xs = refl

pub unhex_pairs : (s : List ℕ) → unhex s ≡ cond (is_hex s) (some (pairs s)) none
unhex_pairs [] = refl
unhex_pairs (a ∷ []) = refl
unhex_pairs (a ∷ (b ∷ s)) =
    ap (onto (is_digit a && is_digit b) (value_of a * 16 + value_of b)) (unhex_pairs s)
    ∙ onto_pairs (is_digit a && is_digit b) (is_hex s) (value_of a * 16 + value_of b) (pairs s)

pub pairs_long : (s : List ℕ) → length (pairs s) ≡ length s / 2
pairs_long [] = refl
pairs_long (a ∷ []) = omega arith
pairs_long (a ∷ (b ∷ s)) = omega (arith, pairs_long s)

-- byte j is digits 2 × j and 2 × j + 1
pub pair_at : (s : List ℕ) (j : ℕ) → 2 * (j + 1) ≤ length s → get_or (pairs s) j 0 ≡ value_of (get_or s (2 * j) 0) * 16 + value_of (get_or s (2 * j + 1) 0)
pair_at [] j h = absurd (omega arith)
pair_at (a ∷ []) j h = absurd (omega arith)
pair_at (a ∷ (b ∷ s)) zero h = refl
pair_at (a ∷ (b ∷ s)) (suc j) h =
    let e : 2 * suc j ≡ suc (suc (2 * j)) = omega arith in
    let f : suc (suc (2 * j)) + 1 ≡ suc (suc (2 * j + 1)) = omega arith in
    rw (e, f) (pair_at s j (omega arith))

-- every byte of a line is a digit
pub digit_at : (s : List ℕ) (i : ℕ) → is_hex s ≡ true → i < length s → value_of (get_or s i 0) < 16
digit_at [] i h g = absurd (omega arith)
digit_at (a ∷ []) i h g = absurd (true≢false (sym h))
digit_at (a ∷ (b ∷ s)) zero h g = ltb-true _ _ (both_left (is_digit a) (is_digit b) (both_left (is_digit a && is_digit b) (is_hex s) h))
digit_at (a ∷ (b ∷ s)) (suc zero) h g = ltb-true _ _ (both_right (is_digit a) (is_digit b) (both_left (is_digit a && is_digit b) (is_hex s) h))
digit_at (a ∷ (b ∷ s)) (suc (suc i)) h g = digit_at s i (both_right (is_digit a && is_digit b) (is_hex s) h) (omega arith)

pub hex_even : (s : List ℕ) → is_hex s ≡ true → 2 * (length s / 2) ≡ length s
hex_even [] h = refl
hex_even (a ∷ []) h = absurd (true≢false (sym h))
hex_even (a ∷ (b ∷ s)) h = omega (arith, hex_even s (both_right (is_digit a && is_digit b) (is_hex s) h))

-- A NUMBER, a byte at a time

pub field_more : (a k : ℕ) (bs : List ℕ) → a + k < length bs → field a (k + 1) bs ≡ field a k bs * 256 + get_or bs (a + k) 0
field_more a k bs h =
    rw (add-one k, take-suc (drop a bs) k 0 (omega (arith, length-drop a bs)), get_or-drop a bs k 0)
    (spelt_append 0 (take k (drop a bs)) (get_or bs (a + k) 0 ∷ []))

-- a byte more keeps a number of k bytes below 256 ^ (k + 1), which is at most 2 ^ 64
pub byte_more : (n k b : ℕ) → n < 256 ^ k → b < 256 → n * 256 + b < 256 ^ (k + 1)
byte_more n k b h g = rw (add-one k) (omega (arith, pow-suc 256 k))

pub eight_bytes : (k : ℕ) → k < 8 → 256 ^ (k + 1) ≤ 18446744073709551616
eight_bytes k h = let e : k + 1 ≤ 8 = omega arith in pow-le-pow_right {n = 256} (omega arith) e

-- a byte more of a number
module _ (s : List ℕ) (h : is_hex s ≡ true) (a k n x y : ℕ) (room : 2 * (a + k + 1) ≤ length s)
    (ex : x ≡ value_of (get_or s (2 * (a + k)) 0)) (ey : y ≡ value_of (get_or s (2 * (a + k) + 1) 0)) where
  pub number_more : n ≡ field a k (pairs s) → n * 256 + (x * 16 + y) ≡ field a (k + 1) (pairs s)
  number_more e =
      let b : get_or (pairs s) (a + k) 0 ≡ x * 16 + y = pair_at s (a + k) room ∙ sym (rw (ex, ey) refl) in
      sym (field_more a k (pairs s) (omega (arith, pairs_long s)) ∙ rw (b, e) refl)

  pub number_below : n < 256 ^ k → n * 256 + (x * 16 + y) < 256 ^ (k + 1)
  number_below g =
      let hx : value_of (get_or s (2 * (a + k)) 0) < 16 = digit_at s (2 * (a + k)) h (omega arith) in
      let hy : value_of (get_or s (2 * (a + k) + 1) 0) < 16 = digit_at s (2 * (a + k) + 1) h (omega arith) in
      byte_more n k (x * 16 + y) g (omega arith)
