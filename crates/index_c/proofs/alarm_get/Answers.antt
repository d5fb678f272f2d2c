-- `alarm_get` meets its contract: the answer of the get keeps the promise, and it is told. Assumes nothing.
use Rattle.index_c.proofs.alarm_get.Goals as goal

pub returns : goal.returns
returns c =
    (c.get-answer.result, (c.get-answer.ensures, c.tell.ensures))
