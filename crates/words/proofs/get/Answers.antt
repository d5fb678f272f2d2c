-- `get` meets its contract: the eight bytes that it reads spell the word (`words_read`). Assumes nothing.
use native.Mathlib.Omega.{arith}
use Rattle.words.specs.Words.{word}
use Rattle.words.proofs.Laws.{words_read}
use Rattle.words.proofs.get.Goals as goal

pub returns : goal.returns
unfolding word
returns c =
    omega (arith, c.from_le_bytes.ensures, words_read c.args.pool.now c.args.i c.place-p.result c.requires c.place-p.ensures.is)
