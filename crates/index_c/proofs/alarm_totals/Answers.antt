-- `alarm_totals` meets its contract: the answer of the totals keeps the promise, and it is told. Assumes nothing.
use Rattle.index_c.proofs.alarm_totals.Goals as goal

pub returns : goal.returns
returns c = (c.totals-answer.result, (c.totals-answer.ensures, c.tell.ensures))
