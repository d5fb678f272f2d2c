-- `check_call` meets its contract: its tests are the first rows of the model's table in order, so the first that applies is the model's number, and
-- where none does it is 0. Assumes nothing.
use mathlib.Core.Path.{sym, ◌∙◌}
use Rattle.model.specs.Refuse.{called}
use Rattle.index_refuse.proofs.Refuses.{call_3, call_4, call_5, call_passed}
use Rattle.index_refuse.proofs.call.check_call.Goals as goal

pub returns-then-st-n : goal.returns-then-st-n
returns-then-st-n c = call_3 c.args.st (called c.args.batch.now) 0 c.if-st-n.true

pub returns-then-miscounted : goal.returns-then-miscounted
returns-then-miscounted c =
    call_4 c.args.st (called c.args.batch.now) 0 c.if-st-n.false (sym c.miscounted.ensures ∙ c.if-miscounted.true)

pub returns-then-descends : goal.returns-then-descends
returns-then-descends c =
    call_5 c.args.st (called c.args.batch.now) 0 c.if-st-n.false (sym c.miscounted.ensures ∙ c.if-miscounted.false)
    (sym c.descends.ensures ∙ c.if-descends.true)

pub returns : goal.returns
returns c =
    call_passed c.args.st (called c.args.batch.now) 0 c.if-st-n.false (sym c.miscounted.ensures ∙ c.if-miscounted.false)
    (sym c.descends.ensures ∙ c.if-descends.false)
