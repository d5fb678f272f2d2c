-- `check_interior` and `check_node`, which call each other, meet their contracts, by recursion on the height. The loop's invariant: what the walk owes
-- from row `i` on is what it owed at the start (`Going`). Assumes nothing.
use Prim.Native.Nat.{suc, ◌+◌, ◌-◌, ◌*◌}
use Rattle.words.specs.Words.{words}
use Rattle.slots.specs.Nodes.{rows_at}
use Rattle.survey_node.proofs.Walks.{Going}
use Rattle.survey.proofs.walk.+check_interior_check_node.Given as goal

abbrev pub decreases-check_interior : goal.decreases-check_interior
decreases-check_interior l = 2 * l.height

abbrev pub decreases-check_node : goal.decreases-check_node
decreases-check_node l = 2 * l.height + 1

abbrev pub invariant-check_interior-loop-i : goal.invariant-check_interior-loop-i
invariant-check_interior-loop-i l =
    Going l.st (words l.pool) (suc (l.height - 1)) (rows_at l.st (words l.pool) l.s) l.fn.last (l.left - 1) l.i l.part
