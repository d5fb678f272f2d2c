-- `trial::put_word` meets its contract: past the last whole word `set` leaves the words as they are. Assumes nothing.
use Rattle.std.proofs.Common.{sym, arith}
use lib.Seq.{set_out}
use Rattle.words.specs.Words.{words}
use Rattle.words.proofs.Laws.{length_words, same_refl}
use Rattle.trial.proofs.put_word.Goals as goal

pub put-requires : goal.put-requires
put-requires c = omega (arith, length_words c.args.pool.now)

pub returns-else-i-pool : goal.returns-else-i-pool
returns-else-i-pool c =
    let a = c.args in record { words = sym (set_out (words a.pool.now) a.i a.v (omega (arith, length_words a.pool.now))); same = same_refl a.pool.now }
