-- `nodes_for` meets its contract, the height falling. The loop's invariant: the nodes counted so far, with those of the pieces that are left, are the
-- tree's (`Counting`). Assumes nothing.
use Prim.Native.Nat.{◌-◌}
use Rattle.pack_plan.proofs.Sums.{Counting}
use Rattle.pack_plan.proofs.+nodes_for.Given as goal

abbrev pub decreases-nodes_for : goal.decreases-nodes_for
decreases-nodes_for l = l.height

abbrev pub invariant-loop-left : goal.invariant-loop-left
invariant-loop-left l = Counting l.order (l.height - 1) l.n l.nodes l.left

abbrev pub decreases-loop-left : goal.decreases-loop-left
decreases-loop-left l = l.left
