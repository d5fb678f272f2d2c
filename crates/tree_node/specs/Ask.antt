-- What a node of a tree answers from its rows: its greatest key, the row by which it stands in its parent, the child that a key goes to.
-- Assumes nothing.
use Rattle.std.specs.Prelude.{ℕ, suc, ◌+◌, ◌<◌, ◌≡◌, cond, List, [], ◌∷◌, map, length, drop, ltb}
use Rattle.slots_raw.specs.declared.Row.{Row}
use Rattle.model.specs.Tree.{last_of}
use Rattle.tree.specs.Bridge.{child_row}
use Rattle.tree.specs.Sums.{sum_rows}

-- the greatest key of the node with these rows
abbrev pub last_key : List Row → ℕ
last_key rows = last_of (map (λ r. r.key) rows)

-- the row of the node of height h in slot s, which has these rows
abbrev pub row_over : ℕ → ℕ → List Row → Row
row_over h s rows = child_row (last_key rows) s (sum_rows h rows)

-- the first child whose separator is not below the key, or the last: how many rows the key passes over
abbrev pub child_for : ℕ → List Row → ℕ
child_for key [] = 0
child_for key (r ∷ []) = 0
child_for key (r ∷ (x ∷ rs)) = cond (ltb r.key key) (suc (child_for key (x ∷ rs))) 0

-- r is the child, of those of some rows from child `from` on, that the key goes to
pub record Chosen (rows : List Row) (from key r : ℕ) : Type 0 where
  pub is : r ≡ from + child_for key (drop from rows)
  pub within : r < length rows
