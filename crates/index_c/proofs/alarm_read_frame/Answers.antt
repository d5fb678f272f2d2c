-- `alarm_read_frame` meets its contract: what was read, put into the buffers, is the frame of the answer (`read_reported`). Assumes nothing.
use Rattle.index_c.proofs.Outcomes.{read_reported}
use Rattle.index_c.proofs.alarm_read_frame.Goals as goal

pub returns : goal.returns
returns c =
    read_reported _ c.read-reading.result _ _ _ c.read-reading.ensures c.tell_reading.ensures
