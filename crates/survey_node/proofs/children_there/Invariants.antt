-- `children_there` meets its contract. The loop's invariant: each of the first `i` rows names a node that is there. Assumes nothing.
use mathlib.Core.List.{List}
use Prim.Native.Nat.{ℕ, ◌≤◌}
use lib.ListN.{length, take}
use Rattle.words.specs.Words.{words}
use Rattle.slots_raw.specs.declared.Row.{Row}
use Rattle.slots.specs.Nodes.{rows_at}
use Rattle.model.specs.declared.Settings.{Settings}
use Rattle.model.specs.Lists.{All}
use Rattle.tree.specs.Bridge.{child_of}
use Rattle.survey_node.specs.Promises.{There}
use Rattle.survey_node.proofs.children_there.Given as goal

-- what is asked of a row
abbrev pub Child : Settings → List ℕ → ℕ → Row → Type 0
Child st W h row = There st W h (child_of row)

abbrev pub invariant-loop-i : goal.invariant-loop-i
invariant-loop-i l =
    (l.i ≤ length (rows_at l.st (words l.pool) l.s)) × All (Child l.st (words l.pool) l.height) (take l.i (rows_at l.st (words l.pool) l.s))
