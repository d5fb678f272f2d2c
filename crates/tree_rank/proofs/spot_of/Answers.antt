-- `spot_of` meets its contract. The loop's invariant: entry r of the whole tree is entry `row` of the tree of height h in slot `leaf` (`Under`). Assumes
-- nothing.
use Rattle.tree_rank.proofs.Ranks.{root_under, step_ready, step_down, arrive}
use Rattle.tree_rank.proofs.spot_of.Goals as goal

pub loop-h-init : goal.loop-h-init
loop-h-init c = root_under c.requires

pub step_to-step-requires : goal.step_to-step-requires
step_to-step-requires c = let at = c.loop-h in step_ready at._h c.loop-h-test.true at.invariant

pub loop-h-preserved : goal.loop-h-preserved
loop-h-preserved c = let at = c.loop-h in step_down at._h c.loop-h-test.true at.invariant c.step_to-step.ensures

pub returns : goal.returns
returns c = let at = c.loop-h in arrive at._h c.loop-h-test.false at.invariant
