-- `collapse` meets its contract. The loop's invariant: the collapse from here is the collapse from the start (`Sinking`). Assumes nothing.
use mathlib.Core.Path.{◌≡◌, refl, sym, ◌∙◌}
use Prim.Native.Nat.{suc, ◌-◌}
use native.Mathlib.Omega.{arith}
use borrow.Author.Tests.{eqb-true, eqb-false}
use Rattle.batch_root.proofs.Indexes.{keeps_root}
use Rattle.batch_root.proofs.Sinks.{sink_start, lone, sink_on, sink_leaf, sink_wide}
use Rattle.batch_root.proofs.shrink.collapse.Goals as goal

pub loop-height-init : goal.loop-height-init
loop-height-init c = (refl, sink_start c.requires.keeps c.requires.spared)

pub count-requires : goal.count-requires
count-requires c =
    let keeps = c.loop-height.invariant.1.keeps in
    record { held = keeps.held; slot = keeps_root keeps }

pub overflow_sub-height : goal.overflow_sub-height
overflow_sub-height c = omega (arith, c.loop-height-test.true)

pub lift_child-spare-requires : goal.lift_child-spare-requires
lift_child-spare-requires c =
    let i = c.loop-height in
    let n = c.count in
    let e : i.height ≡ suc (i.height - 1) = omega (arith, c.loop-height-test.true) in
    lone i.invariant.1 e (sym n.ensures.is ∙ eqb-true n.result 1 c.if-count-eq1.true-raw)

pub loop-height-smaller : goal.loop-height-smaller
loop-height-smaller c = omega (arith, c.loop-height-test.true)

pub loop-height-preserved : goal.loop-height-preserved
loop-height-preserved c =
    let i = c.loop-height in
    let n = c.count in
    let w = c.lift_child-spare in
    let e : i.height ≡ suc (i.height - 1) = omega (arith, c.loop-height-test.true) in
    (w.auto.pool ∙ i.invariant.0, sink_on i.invariant.1 e (sym n.ensures.is ∙ eqb-true n.result 1 c.if-count-eq1.true-raw) w.ensures)

pub shape_of-pool-else-count-eq1 : goal.shape_of-pool-else-count-eq1
shape_of-pool-else-count-eq1 c = c.loop-height.invariant.0

pub returns-else-count-eq1 : goal.returns-else-count-eq1
returns-else-count-eq1 c =
    let i = c.loop-height in
    let n = c.count in
    let e : i.height ≡ suc (i.height - 1) = omega (arith, c.loop-height-test.true) in
    sink_wide i.invariant.1 e (λ z. eqb-false n.result 1 c.if-count-eq1.false-raw (n.ensures.is ∙ z))

pub shape_of-pool-after-loop-height : goal.shape_of-pool-after-loop-height
shape_of-pool-after-loop-height c = c.loop-height.invariant.0

pub returns-after-loop-height : goal.returns-after-loop-height
returns-after-loop-height c = sink_leaf c.loop-height.invariant.1 (omega (arith, c.loop-height-test.false))
