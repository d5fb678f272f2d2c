-- What the rows of a node add up to, and sums that fit where they are put. Assumes nothing.
use Rattle.std.specs.Prelude.{ℕ, ◌+◌, ◌^◌, ◌<◌, List, map}
use Rattle.slots_raw.specs.declared.Row.{Row}
use Rattle.model.specs.declared.Totals.{Totals}
use Rattle.model.specs.Tree.{sum_of}
use Rattle.tree.specs.Bridge.{row_totals}

-- of the rows of a node of height h
abbrev pub sum_rows : ℕ → List Row → Totals
sum_rows h rows = sum_of (map (row_totals h) rows)

-- rows whose sums fit a child's row
pub record Sums (h : ℕ) (rows : List Row) : Type 0 where
  pub few : (sum_rows h rows).live + (sum_rows h rows).dead < 1048576
  pub short : (sum_rows h rows).size < 2 ^ 64
