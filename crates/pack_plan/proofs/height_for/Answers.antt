-- `height_for` meets its contract. The loop's invariant: the search from here is the search from the start (`Seeking`). Assumes nothing.
use mathlib.Core.Path.{◌≡◌, ◌∙◌}
use native.Mathlib.Omega.{arith}
use Rattle.pack_plan.proofs.Heights.{capacity_fits, seeking_start, seeking_on, seeking_found, seeking_past}
use Rattle.pack_plan.proofs.height_for.Goals as goal

pub loop-height-init : goal.loop-height-init
loop-height-init c = seeking_start c.args.order c.args.n

pub overflow_mul-most : goal.overflow_mul-most
overflow_mul-most c =
    let at = c.loop-height in
    omega (arith, capacity_fits c.args.order at.height at.most c.requires (omega arith) at.invariant.holds)

pub loop-height-preserved : goal.loop-height-preserved
loop-height-preserved c =
    let at = c.loop-height in
    seeking_on at.invariant (omega arith) c.if-n-most.false

pub returns-then-n-most : goal.returns-then-n-most
returns-then-n-most c =
    let at = c.loop-height in
    seeking_found at.invariant c.if-n-most.true

pub returns : goal.returns
returns c =
    let end : 7 ≡ c.loop-height.height = omega arith in
    end ∙ seeking_past c.loop-height.invariant (omega arith)
