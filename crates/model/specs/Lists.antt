-- Words on lists that the definitions use and the library lacks. Assumes nothing.
use Rattle.std.specs.Prelude.{Bool, cond, List, [], ◌∷◌, ◌++◌, ℕ, zero, suc, ◌+◌, eqb}

-- lists joined, one behind the other
abbrev pub concat {ℓ} : {A : Type ℓ} → List (List A) → List A
concat [] = []
concat (x ∷ xs) = x ++ concat xs

-- the elements that pass a test
abbrev pub keep {ℓ} : {A : Type ℓ} → (A → Bool) → List A → List A
keep p [] = []
keep p (x ∷ xs) = cond (p x) (x ∷ keep p xs) (keep p xs)

-- the numbers from a up, n of them
abbrev pub up_from : ℕ → ℕ → List ℕ
up_from a zero = []
up_from a (suc n) = a ∷ up_from (suc a) n

-- how often a number stands in a list
unfoldable pub hit : ℕ → ℕ → ℕ
hit x y = cond (eqb x y) 1 0

abbrev pub times : ℕ → List ℕ → ℕ
times x [] = 0
times x (y ∷ ys) = hit x y + times x ys

-- P holds of each element
pub data All {A : Type 0} (P : A → Type 0) : List A → Type 0 where
  none : All P []
  one : {x : A} {xs : List A} → P x → All P xs → All P (x ∷ xs)

-- each element stands in R to every one behind it
pub data Ordered {A : Type 0} (R : A → A → Type 0) : List A → Type 0 where
  nil : Ordered R []
  cons : {x : A} {xs : List A} → All (R x) xs → Ordered R xs → Ordered R (x ∷ xs)
