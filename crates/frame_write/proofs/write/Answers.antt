-- `write` meets its contract: one law for each of its answers. Assumes nothing.
use mathlib.Core.List.{List}
use mathlib.Core.Path.{sym, ◌∙◌, subst}
use Prim.Native.Nat.{ℕ}
use lib.ListN.{length}
use borrow.Author.Tests.{not-true, not-false}
use Rattle.model.specs.Answer.{Answer}
use Rattle.frame_text.specs.Answers.{Writes}
use Rattle.frame_text.proofs.Told.{write_many, write_fall, write_on}
use Rattle.frame_write.proofs.write.Goals as goal

pub returns-then-contents-gt32 : goal.returns-then-contents-gt32
returns-then-contents-gt32 c = write_many c.args.line.now c.args.contents c.if-contents-gt32.true

pub returns-then-not-ascending : goal.returns-then-not-ascending
returns-then-not-ascending c =
    write_fall c.args.line.now c.args.contents c.if-contents-gt32.false
    (sym c.ascending.ensures ∙ not-true c.ascending.result c.if-not-ascending.true-raw)

pub returns : goal.returns
returns c =
    let a = c.args in
    let p = c.put_frame in
    subst (λ (x : Answer (List ℕ)). Writes x a.line.now p.result p.new.line)
    (sym (write_on (length a.line.now) a.contents c.if-contents-gt32.false
    (sym c.ascending.ensures ∙ not-false c.ascending.result c.if-not-ascending.false-raw))) p.ensures
