-- `result_of` meets its contract: an unchanged node stays so, and a changed one is told by its length. Assumes nothing.
use native.Mathlib.Omega.{arith}
use mathlib.Core.Path.{sym, ap, ◌∙◌}
use mathlib.Core.Bool.{Bool}
use Rattle.model.specs.Change.{result_of}
use Rattle.batch_seek.proofs.Seeks.{is_changed, is_absorb, is_split}
use Rattle.batch_seek.proofs.result_of.Goals as goal

pub returns-then-n-st : goal.returns-then-n-st
returns-then-n-st c =
    let a = c.args in
    is_split a.st a.n (omega (arith, c.if-n-st.true)) ∙ ap (λ (b : Bool). result_of a.st b a.n) (sym c.if-changed.true)

pub returns-then-n-st-2 : goal.returns-then-n-st-2
returns-then-n-st-2 c =
    let a = c.args in
    is_absorb a.st a.n c.if-n-eq0.false (omega (arith, c.if-n-st.false)) (omega (arith, c.if-n-st-2.true))
    ∙ ap (λ (b : Bool). result_of a.st b a.n) (sym c.if-changed.true)

pub returns-then-changed : goal.returns-then-changed
returns-then-changed c =
    let a = c.args in
    is_changed a.st a.n c.if-n-eq0.false (omega (arith, c.if-n-st.false)) (omega (arith, c.if-n-st-2.false))
    ∙ ap (λ (b : Bool). result_of a.st b a.n) (sym c.if-changed.true)
