-- `next_start` meets its contract: where something was shown, the word that is read is the key of the last entry (`last_shown`). Assumes nothing.
use native.Mathlib.Omega.{arith}
use Rattle.words.specs.Words.{words}
use Rattle.words.proofs.Laws.{length_words}
use Rattle.look_portion.proofs.Outputs.{last_shown}
use Rattle.look_portion.proofs.next_start.Goals as goal

pub get-last-requires : goal.get-last-requires
get-last-requires c =
    omega (arith, length_words c.args.out.now, c.requires, c.if-written-eq0.false)

pub returns : goal.returns
returns c =
    let a = c.args in
    last_shown a.start a.written (words a.out.now) c.get-last.result (omega (arith, c.if-written-eq0.false)) c.get-last.ensures
