-- A key among the rows of a node. Assumes nothing.
use Rattle.std.specs.Prelude.{ℕ, suc, ◌<◌, Bool, true, false, List, [], ◌∷◌, length, get_or, ltb, eqb}
use Rattle.slots_raw.specs.declared.Row.{Row}
use Rattle.slots_raw.specs.Slots.{blank}
use Rattle.std.specs.Prelude.{Result, Ok, Err}

-- the key of row i
abbrev pub key_at : List Row → ℕ → ℕ
key_at l i = (get_or l i blank).key

-- the keys ascend strictly
abbrev pub Ascending : List Row → Type 0
Ascending l = (i j : ℕ) → i < j → j < length l → key_at l i < key_at l j

-- the first where a test is true, else the second
unfoldable pub pick : {A : Type 0} → Bool → A → A → A
pick true a b = a
pick false a b = b

-- how many rows stand before the first whose key is not below k
unfoldable pub below : ℕ → List Row → ℕ
unfolding pick
below k [] = 0
below k (r ∷ l) = pick (ltb r.key k) (suc (below k l)) 0

-- where key k stands, or before which row it would
unfoldable pub find_row : ℕ → List Row → Result ℕ ℕ
unfolding pick
find_row k l =
    pick (ltb (below k l) (length l)) (pick (eqb (key_at l (below k l)) k) (Ok (below k l)) (Err (below k l))) (Err (below k l))
