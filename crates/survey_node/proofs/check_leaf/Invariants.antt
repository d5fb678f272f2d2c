-- `check_leaf` meets its contract. The loop's invariant: what the walk owes from row `i` on is what it owed at the start (`Going`, at height 0).
-- Assumes nothing.
use Prim.Native.Nat.{zero, ◌-◌}
use Rattle.words.specs.Words.{words}
use Rattle.slots.specs.Nodes.{rows_at}
use Rattle.survey_node.proofs.Walks.{Going}
use Rattle.survey_node.proofs.check_leaf.Given as goal

abbrev pub invariant-loop-i : goal.invariant-loop-i
invariant-loop-i l =
    Going l.st (words l.pool) zero (rows_at l.st (words l.pool) l.s) l.fn.last (l.left - 1) l.i l.part
