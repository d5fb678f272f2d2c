-- `stats` meets its contract. The loop's invariant: what is summed, and the rows that are left, make up the sum of all rows. Assumes nothing.
use mathlib.Core.Path.{◌≡◌}
use Prim.Native.Nat.{◌-◌, ◌≤◌}
use lib.ListN.{drop}
use Rattle.words.specs.Words.{words}
use Rattle.slots.specs.Nodes.{rows_at}
use Rattle.model.specs.Tree.{plus}
use Rattle.tree.specs.Sums.{sum_rows}
use Rattle.tree_node.proofs.stats.Given as goal

abbrev pub invariant-loop-i : goal.invariant-loop-i
invariant-loop-i l =
    let rs = rows_at l.st (words l.pool) l.s in (l.i ≤ l.n) × (plus l.t (sum_rows l.height (drop l.i rs)) ≡ sum_rows l.height rs)

abbrev pub decreases-loop-i : goal.decreases-loop-i
decreases-loop-i l = l.n - l.i
