-- `height_for` meets its contract. The loop's invariant: the search from here is the search from the start (`Seeking`). Assumes nothing.
use Rattle.pack_plan.proofs.Heights.{Seeking}
use Rattle.pack_plan.proofs.height_for.Given as goal

abbrev pub invariant-loop-height : goal.invariant-loop-height
invariant-loop-height l = Seeking l.order l.n l.most l.height
