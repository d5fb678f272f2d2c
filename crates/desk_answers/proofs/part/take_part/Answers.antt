-- `take_part` meets its contract: the first line of the rest is kept, and answered where it ends. Assumes nothing.
use Rattle.desk_promise.proofs.Cuts.{line_goes_on, line_ends}
use Rattle.desk_answers.proofs.part.take_part.Goals as goal

pub returns-then-end-rest : goal.returns-then-end-rest
returns-then-end-rest c =
    let a = c.args in
    line_goes_on (record { count = a.n; bytes = a.line.now }) _ _ _ _ _ c.next_line-part.ensures c.if-end-rest.true
    c.keep-kept.ensures

pub returns : goal.returns
returns c =
    let a = c.args in
    line_ends (record { count = a.n; bytes = a.line.now }) _ _ _ _ _ _ c.next_line-part.ensures c.if-end-rest.false
    c.keep-kept.ensures c.answer-count.ensures
