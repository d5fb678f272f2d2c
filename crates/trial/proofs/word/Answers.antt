-- `trial::word` meets its contract: past the last whole word `get_or` gives 0 too. Assumes nothing.
use Rattle.std.proofs.Common.{sym, arith}
use lib.ListN.{get_or-eq_default}
use Rattle.words.specs.Words.{words}
use Rattle.words.proofs.Laws.{length_words}
use Rattle.trial.proofs.word.Goals as goal

pub get-requires : goal.get-requires
get-requires c = omega (arith, length_words c.args.pool.now)

pub returns-else-i-pool : goal.returns-else-i-pool
returns-else-i-pool c =
    let a = c.args in
    sym (get_or-eq_default (words a.pool.now) 0 {n = a.i} (omega (arith, length_words a.pool.now)))
