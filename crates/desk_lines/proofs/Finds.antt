-- The bytes before a byte that is looked for, one at a time. Assumes nothing.
use Prim.Native.Nat.{ℕ, ◌+◌, ◌<◌, ◌≤◌}
use native.Mathlib.Omega.{arith}
use native.Mathlib.Numerals.{add-one}
use mathlib.Core.Path.{◌≡◌, refl, ap}
use mathlib.Core.List.{List, [], ◌∷◌}
use lib.Dec.{eqb}
use lib.ListN.{length, get_or, take, drop, drop_of_length-le, length-drop}
use lib.Seq.{drop-cons}
use borrow.Author.Tests.{eq-eqb, ne_eqb}
use Rattle.model.proofs.Lists.{by_test}
use Rattle.desk_lines.specs.Lines.{up_to, end_of, first_line}

module _ (stop : ℕ) (t : List ℕ) (i : ℕ) where
  -- the byte at i is the one
  pub at_stop : i < length t → get_or t i 0 ≡ stop → up_to stop (drop i t) ≡ []
  unfolding up_to
  at_stop h e = rw (drop-cons t i 0 h) (simp (eq-eqb _ _ e))

  -- or it is another
  pub past : i < length t → (get_or t i 0 ≡ stop → ⊥) → up_to stop (drop i t) ≡ get_or t i 0 ∷ up_to stop (drop (i + 1) t)
  unfolding up_to
  past h n = rw (drop-cons t i 0 h, add-one) (simp (ne_eqb _ _ n))

  pub at_end : length t ≤ i → up_to stop (drop i t) ≡ []
  unfolding up_to
  at_end h = rw drop_of_length-le

module _ (stop : ℕ) (t : List ℕ) (i : ℕ) where
  pub end_here : i < length t → get_or t i 0 ≡ stop → end_of stop t i ≡ i
  end_here h e = omega (arith, ap length (at_stop stop t i h e))

  pub end_past : i < length t → (get_or t i 0 ≡ stop → ⊥) → end_of stop t (i + 1) ≡ end_of stop t i
  end_past h n = omega (arith, ap length (past stop t i h n))

  pub end_last : length t ≤ i → end_of stop t i ≡ i
  end_last h = omega (arith, ap length (at_end stop t i h))

-- what stands before it begins the list
pub up_to_take : (stop : ℕ) (l : List ℕ) → take (length (up_to stop l)) l ≡ up_to stop l
unfolding up_to
up_to_take stop [] = refl
up_to_take stop (b ∷ bs) = by_test (λ f. take (length f) (b ∷ bs) ≡ f) (eqb b stop) (λ e. refl) (λ e. ap (b ∷◌) (up_to_take stop bs))

pub up_to_length : (stop : ℕ) (l : List ℕ) → length (up_to stop l) ≤ length l
unfolding up_to
up_to_length stop [] = omega arith
up_to_length stop (b ∷ bs) = by_test (λ f. length f ≤ length (b ∷ bs)) (eqb b stop) {x = []} {y = b ∷ up_to stop bs} (λ e. omega arith) (λ e. omega (arith, up_to_length stop bs))

-- the place where it stands is not before the place from which it is looked for, nor behind the text
pub end_from : (stop : ℕ) (t : List ℕ) (from n : ℕ) → n ≡ end_of stop t from → from ≤ n
end_from stop t from n e = omega arith

pub end_within : (stop : ℕ) (t : List ℕ) (from n : ℕ) → from ≤ length t → n ≡ end_of stop t from → n ≤ length t
end_within stop t from n h e = omega (arith, up_to_length stop (drop from t), length-drop from t)

-- so the first line is the part of the text up to its end
pub line_part : (t : List ℕ) (n : ℕ) → n ≡ end_of 10 t 0 → take n t ≡ first_line t
line_part t n e = let k : n ≡ length (up_to 10 t) = omega arith in rw k (up_to_take 10 t)
