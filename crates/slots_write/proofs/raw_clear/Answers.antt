-- `raw_clear` meets its contract: the words that it clears are rows of slot `s` (`rows_cleared`). Assumes nothing.
use Rattle.words.specs.Words.{words}
use Rattle.slots_write.proofs.Puts.{rows_cleared}
use Rattle.slots_write.proofs.raw_clear.Goals as goal

pub returns : goal.returns
returns c =
    let b = c.base-b in
    let a = c.args in
    rw c.clear.ensures.words
    (rows_cleared a.st (words a.pool.now) a.s c.requires.shape c.requires.slot b.result a.from a.n b.ensures c.requires.within)
