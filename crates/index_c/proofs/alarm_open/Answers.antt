-- `alarm_open` meets its contract: the settings are those of the three numbers, so the answer of opening is of them, and its number is told. Assumes nothing.
use Rattle.index_c.proofs.alarm_open.Goals as goal

pub returns : goal.returns
returns c =
    (c.open-answer.result, (rw c.settings-given.ensures at c.open-answer.ensures, c.code.ensures))
