-- `ascending` meets its contract. The loop's invariant: the keys rise exactly if they rise from place i - 1 on. Assumes nothing.
use mathlib.Core.Path.{refl, sym, ap, ◌∙◌}
use native.Mathlib.Omega.{arith}
use Rattle.model.specs.Frame.{rising}
use Rattle.frame_text.specs.Contents.{first}
use Rattle.frame_text.proofs.Coded.{keys_framed, keys_fall, keys_rise, keys_end}
use Rattle.frame_text.proofs.entries.ascending.Goals as goal

pub loop-i-init : goal.loop-i-init
loop-i-init c = (omega arith, refl)

pub returns-then-high-low : goal.returns-then-high-low
returns-then-high-low c =
    let a = c.args.contents in
    let h = c.loop-i in
    sym (keys_fall a.count a.entries h.i h.invariant.0 c.loop-i-test.true c.if-high-low.true) ∙ h.invariant.1
    ∙ sym (ap rising (keys_framed a.kind (first a.count a.entries)))

pub loop-i-preserved : goal.loop-i-preserved
loop-i-preserved c =
    let a = c.args.contents in
    let h = c.loop-i in
    (omega arith, keys_rise a.count a.entries h.i h.invariant.0 c.loop-i-test.true c.if-high-low.false ∙ h.invariant.1)

pub returns : goal.returns
returns c =
    let a = c.args.contents in
    let h = c.loop-i in
    sym (keys_end a.count a.entries h.i c.loop-i-test.false h.invariant.0) ∙ h.invariant.1
    ∙ sym (ap rising (keys_framed a.kind (first a.count a.entries)))
