-- `alarm_write_interior` meets its contract: the contents are those of the lent lists, so the line that is written is their frame's, and its answer is
-- told. Assumes nothing.
use Rattle.index_c.proofs.alarm_write_interior.Goals as goal

pub returns : goal.returns
returns c =
    (c.write-answer.result, (rw c.interior-contents.ensures at c.write-answer.ensures, c.tell_length.ensures))
