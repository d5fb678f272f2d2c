-- `alarm_compare` meets its contract: expectation and action are those of the numbers and flags, so the batch is of that operation. Assumes nothing.
use Rattle.index_c.proofs.alarm_compare.Goals as goal

pub returns : goal.returns
returns c =
    rw (c.expectation-e.ensures, c.action-a.ensures) at c.batch.ensures
