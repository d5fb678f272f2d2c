-- A part of a list, and a part replaced. Assumes nothing.
use Rattle.std.specs.Prelude.{ℕ, ◌+◌, List, ◌++◌, take, drop}

module _ {ℓ} {A : Type ℓ} where
  -- the n elements from `at` on
  unfoldable pub part : List A → ℕ → ℕ → List A
  part l at n = take n (drop at l)

  -- l with `new` in the place of the n elements from `at` on
  unfoldable pub over : List A → ℕ → ℕ → List A → List A
  over l at n new = take at l ++ new ++ drop (at + n) l
