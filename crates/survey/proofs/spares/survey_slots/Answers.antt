-- `survey_slots` meets its contract. The loop's invariant: from slot `s` on all is told (`Swept`). Assumes nothing.
use mathlib.Core.Path.{sym, ◌∙◌}
use Prim.Native.Nat.{◌-◌}
use native.Mathlib.Omega.{arith}
use Rattle.words.specs.Words.{words}
use Rattle.slots.proofs.Nodes.{kind_node}
use Rattle.model.proofs.Answers.{told_no}
use Rattle.survey.proofs.Sweeps.{swept_none, swept_unused, swept_used, swept_end, swept_not}
use Rattle.survey.proofs.spares.survey_slots.Goals as goal

pub loop-s-init : goal.loop-s-init
loop-s-init c = let a = c.args in swept_none a.st (words a.pool.now)

pub returns-then-not-slot_zero : goal.returns-then-not-slot_zero
returns-then-not-slot_zero c =
    let a = c.args in
    let W = words a.pool.now in
    let s = c.loop-s.s - 1 in
    swept_not a.st W s
    (λ z. told_no c.slot_zero.ensures c.if-not-slot_zero.true (z (sym (kind_node a.st W s) ∙ sym c.raw_kind.ensures ∙ c.if-raw_kind-eq-UNUSED.true)))

pub loop-s-preserved-then-raw_kind-eq-UNUSED : goal.loop-s-preserved-then-raw_kind-eq-UNUSED
loop-s-preserved-then-raw_kind-eq-UNUSED c =
    let a = c.args in
    let at = c.loop-s in
    swept_unused a.st (words a.pool.now) at.unused at.low at.s at.invariant (omega (arith, c.loop-s-test.true))
    (sym c.raw_kind.ensures ∙ c.if-raw_kind-eq-UNUSED.true) (c.slot_zero.ensures.holds c.if-not-slot_zero.false)

pub loop-s-preserved : goal.loop-s-preserved
loop-s-preserved c =
    let a = c.args in
    let at = c.loop-s in
    swept_used a.st (words a.pool.now) at.unused at.low at.s at.invariant (omega (arith, c.loop-s-test.true))
    (λ k. c.if-raw_kind-eq-UNUSED.false (c.raw_kind.ensures ∙ k))

pub returns : goal.returns
returns c =
    let a = c.args in
    let at = c.loop-s in
    swept_end a.st (words a.pool.now) at.unused at.low at.s (omega (arith, c.loop-s-test.false)) at.invariant
