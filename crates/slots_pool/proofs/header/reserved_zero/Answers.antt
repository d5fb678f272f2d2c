-- `reserved_zero` meets its contract, word by word. Assumes nothing.
use mathlib.Core.Path.{sym, ◌∙◌}
use borrow.Author.Tests.{eqb-true, eq-eqb}
use Rattle.model.proofs.Answers.{tells_no}
use Rattle.slots_pool.proofs.header.reserved_zero.Goals as goal

pub returns-then-get-ne0 : goal.returns-then-get-ne0
returns-then-get-ne0 c = tells_no (λ z. c.if-get-ne0.true (c.get.ensures ∙ z.0))

pub returns : goal.returns
returns c =
    let first = c.get in
    record {
      holds = λ e. (sym first.ensures ∙ c.if-get-ne0.false, sym c.get-2.ensures ∙ eqb-true c.get-2.result 0 e);
      told = λ z. eq-eqb c.get-2.result 0 (c.get-2.ensures ∙ z.1);
    }
