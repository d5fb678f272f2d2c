-- How many entries the rows of an interior stand for. Assumes nothing.
use Rattle.std.specs.Prelude.{ℕ, ◌+◌, List, [], ◌∷◌}
use Rattle.slots_raw.specs.declared.Row.{Row}
use Rattle.tree.specs.Bridge.{child_totals}

-- how many entries the child of an interior's row has, by what the row stores; and the children of some rows
abbrev pub weight : Row → ℕ
weight r = (child_totals r).live + (child_totals r).dead

abbrev pub weights : List Row → ℕ
weights [] = 0
weights (r ∷ rs) = weight r + weights rs
