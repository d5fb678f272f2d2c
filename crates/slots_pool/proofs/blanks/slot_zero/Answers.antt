-- `slot_zero` meets its contract: the words that it tests are those of slot `s` (`slot_tells`). Assumes nothing.
use native.Mathlib.Omega.{arith}
use Rattle.words.specs.Words.{words}
use Rattle.slots_pool.proofs.Zeros.{slot_tells}
use Rattle.slots_pool.proofs.blanks.slot_zero.Goals as goal

pub all_zero-requires : goal.all_zero-requires
all_zero-requires c = let b = c.base-b.ensures in omega (arith, c.width.ensures, b.inside)

pub returns : goal.returns
returns c =
    let b = c.base-b in
    let a = c.args in
    rw (c.all_zero.ensures, c.width.ensures)
    (slot_tells a.st (words a.pool.now) a.s b.result c.requires.0 c.requires.1 b.ensures)
