-- `tail_zero` meets its contract: the words that it tests are the rows from row `n` on (`tail_tells`). Assumes nothing.
use Rattle.words.specs.Words.{words}
use Rattle.slots_pool.proofs.Zeros.{tail_tells}
use Rattle.slots_pool.proofs.blanks.tail_zero.Goals as goal

pub returns : goal.returns
returns c =
    let b = c.base-b in
    let a = c.args in
    rw c.all_zero.ensures
    (tail_tells a.st (words a.pool.now) a.s b.result c.requires.there.0 c.requires.there.1 b.ensures a.n c.requires.few)
