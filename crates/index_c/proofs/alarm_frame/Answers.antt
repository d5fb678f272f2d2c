-- `alarm_frame` meets its contract: the answer of the frame keeps the promise, and it is told. Assumes nothing.
use Rattle.index_c.proofs.alarm_frame.Goals as goal

pub returns : goal.returns
returns c =
    (c.frame-answer.result, (c.frame-answer.ensures, c.tell_length.ensures))
