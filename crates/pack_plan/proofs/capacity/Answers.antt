-- `capacity` meets its contract. The loop's invariant: `most` is the capacity at height h. Assumes nothing.
use mathlib.Core.Path.{◌≡◌, refl, ap, ◌∙◌}
use Prim.Native.Nat.{◌-◌}
use native.Mathlib.Omega.{arith}
use Rattle.model_pack.specs.Pack as pack
use Rattle.pack_plan.proofs.Heights.{capacity_next, capacity_fits}
use Rattle.pack_plan.proofs.capacity.Goals as goal

pub loop-h-init : goal.loop-h-init
loop-h-init c = (omega arith, refl)

pub overflow_mul-most : goal.overflow_mul-most
overflow_mul-most c =
    let at = c.loop-h in
    omega (arith, capacity_fits c.args.order at._h at.most c.requires.narrow (omega (arith, c.requires.low)) at.invariant.1)

pub loop-h-preserved : goal.loop-h-preserved
loop-h-preserved c =
    let at = c.loop-h in
    (omega arith, capacity_next c.args.order at._h at.most at.invariant.1)

pub returns : goal.returns
returns c =
    let at = c.loop-h in
    let end : at._h ≡ c.args.height = omega arith in
    at.invariant.1 ∙ ap (pack.capacity c.args.order) end
