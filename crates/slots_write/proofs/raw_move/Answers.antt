-- `raw_move` meets its contract: the words that it copies are rows of slot `s`, and become rows of slot `t` (`rows_brought`). Assumes nothing.
use Rattle.words.specs.Words.{words}
use Rattle.slots_write.proofs.Puts.{rows_brought}
use Rattle.slots_write.proofs.raw_move.Goals as goal

pub returns : goal.returns
returns c =
    let a = c.args in
    let W = words a.pool.now in
    rw c.shift.ensures.words
    (rows_brought a.st a.st W W a.s a.t c.base-a.result c.base-b.result a.from a.to a.n
    c.requires.0 c.requires.1 c.base-a.ensures c.base-b.ensures)
