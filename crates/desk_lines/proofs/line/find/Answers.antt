-- From any place that the loop has come to, the byte stands where it stands from the first one. Assumes nothing.
use mathlib.Core.Path.{◌≡◌, sym, ◌∙◌}
use native.Mathlib.Omega.{arith}
use Rattle.desk_lines.proofs.Finds.{end_here, end_past, end_last}
use Rattle.desk_lines.proofs.line.find.Goals as goal

pub returns-then-text-i : goal.returns-then-text-i
returns-then-text-i c = sym (end_here _ _ _ c.loop-i-test.true c.if-text-i.true) ∙ c.loop-i.invariant.1

pub loop-i-preserved : goal.loop-i-preserved
loop-i-preserved c = (omega arith, end_past _ _ _ c.loop-i-test.true c.if-text-i.false ∙ c.loop-i.invariant.1)

pub returns : goal.returns
returns c =
    let h = c.loop-i in
    let all : c.max.result ≡ h.i = omega (arith, c.max.ensures, h.auto) in
    all ∙ sym (end_last _ _ _ c.loop-i-test.false) ∙ h.invariant.1
