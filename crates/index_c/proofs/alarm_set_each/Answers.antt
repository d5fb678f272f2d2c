-- `alarm_set_each` meets its contract: the answer of the batch keeps the promise, and it is told. Assumes nothing.
use Rattle.index_c.proofs.alarm_set_each.Goals as goal

pub returns : goal.returns
returns c =
    (c.batch-answer.result, (c.batch-answer.ensures, c.tell.ensures))
