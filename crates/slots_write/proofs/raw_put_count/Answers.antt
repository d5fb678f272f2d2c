-- `raw_put_count` meets its contract: the word that it stores is the count of slot `s`, and no other slot changes (`count_put`). Assumes nothing.
use Rattle.words.specs.Words.{words}
use Rattle.slots_write.proofs.Puts.{count_put}
use Rattle.slots_write.proofs.raw_put_count.Goals as goal

pub returns : goal.returns
returns c =
    let b = c.base-b in
    let a = c.args in
    rw c.put.ensures.words (count_put a.st (words a.pool.now) a.s c.requires.0 c.requires.1 b.result a.count b.ensures)
