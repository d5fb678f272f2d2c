-- `alarm_scan` meets its contract: the bounds and the direction are those of the numbers and flags, so the scan is of that request, and its answer is
-- told. Assumes nothing.
use Rattle.index_c.proofs.alarm_scan.Goals as goal

pub returns : goal.returns
returns c =
    let told = rw (c.bound-low.ensures, c.bound-high.ensures, c.direction-way.ensures) at c.scan-answer.ensures in
    (c.scan-answer.result, (told, c.tell.ensures))
