-- `alarm_pack` meets its contract: the answer of packing keeps its promise, and its number is told. Assumes nothing.
use Rattle.index_c.proofs.alarm_pack.Goals as goal

pub returns : goal.returns
returns c =
    (c.pack-answer.result, (c.pack-answer.ensures, c.code.ensures))
