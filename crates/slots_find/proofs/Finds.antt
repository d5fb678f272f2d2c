-- The laws of specs/: which rows can be searched, how many keys are below a key, and what a search finds there. Assumes nothing.
use mathlib.Core.Path.{◌≡◌, ap}
use Prim.Native.Nat.{ℕ, zero, suc, ◌≤◌, ◌<◌}
use native.Mathlib.Nat.{not-suc-le-zero, le_of_suc-le-suc}
use native.Mathlib.Omega.{arith}
use mathlib.Core.List.{List, [], ◌∷◌, map}
use lib.ListN.{length}
use borrow.Author.Tests.{lt-ltb, le-ltb, eq-eqb, ne_eqb}
use Rattle.model.specs.Lists.{All, one, Ordered, cons}
use Rattle.slots_raw.specs.declared.Row.{Row}
use Rattle.std.specs.Prelude.{Ok, Err}
use Rattle.slots_find.specs.Search.{key_at, Ascending, pick, below, find_row}

-- ---- rows that can be searched

over_at : (k : ℕ) (l : List Row) → All (λ x. k < x) (map (λ r. r.key) l) → (j : ℕ) → j < length l → k < key_at l j
over_at k [] o j h = absurd (not-suc-le-zero h)
over_at k (r ∷ l) (one g gs) zero h = g
over_at k (r ∷ l) (one g gs) (suc j) h = over_at k l gs j (le_of_suc-le-suc h)

pub ordered_rows : (l : List Row) → Ordered (λ x y. x < y) (map (λ r. r.key) l) → Ascending l
ordered_rows [] s i j h g = absurd (not-suc-le-zero g)
ordered_rows (r ∷ l) (cons o s) i zero h g = absurd (not-suc-le-zero h)
ordered_rows (r ∷ l) (cons o s) zero (suc j) h g = over_at r.key l o j (le_of_suc-le-suc g)
ordered_rows (r ∷ l) (cons o s) (suc i) (suc j) h g = ordered_rows l s i j (le_of_suc-le-suc h) (le_of_suc-le-suc g)

-- ---- how many keys are below k

-- what is before row i is below k, and row i is not: i is the number
below_is : (k : ℕ) (l : List Row) (i : ℕ) → i ≤ length l → ((j : ℕ) → j < i → key_at l j < k) → (i < length l → k ≤ key_at l i) → below k l ≡ i
unfolding below pick
below_is k [] i h b a = omega arith
below_is k (r ∷ l) zero h b a = rw (le-ltb r.key k (a (omega arith)))
below_is k (r ∷ l) (suc i) h b a =
    rw (lt-ltb r.key k (b zero (omega arith)))
    (ap suc (below_is k l i (le_of_suc-le-suc h) (λ j g. b (suc j) (omega arith)) (λ g. a (omega arith))))

-- ---- the answers of a walk that has found each key before row i below k

module _ (k : ℕ) (l : List Row) (i : ℕ) (passed : (j : ℕ) → j < i → key_at l j < k) where
  pub found_at : i < length l → key_at l i ≡ k → Ok i ≡ find_row k l
  unfolding find_row pick
  found_at h e = rw (below_is k l i (omega arith) passed (λ _. omega arith), lt-ltb i (length l) h, eq-eqb (key_at l i) k e)

  pub found_not : i < length l → k < key_at l i → Err i ≡ find_row k l
  unfolding find_row pick
  found_not h g = rw (below_is k l i (omega arith) passed (λ _. omega arith), lt-ltb i (length l) h, ne_eqb (key_at l i) k (λ e. absurd (omega arith)))

  pub found_end : i ≡ length l → Err i ≡ find_row k l
  unfolding find_row pick
  found_end e = rw (below_is k l i (omega arith) passed (λ h. absurd (omega arith)), le-ltb i (length l) (omega arith))
