-- `alarm_portion` meets its contract: the start and the end are those of the numbers and flags, so the portion is of that range, and its answer is told.
-- Assumes nothing.
use Rattle.index_c.proofs.alarm_portion.Goals as goal

pub returns : goal.returns
returns c =
    let told = rw (c.start_of-low.ensures, c.bound-high.ensures) at c.portion-answer.ensures in
    (c.portion-answer.result, (told, c.tell_portion.ensures))
