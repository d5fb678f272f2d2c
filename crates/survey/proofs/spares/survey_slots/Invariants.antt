-- `survey_slots` meets its contract. The loop's invariant: from slot `s` on all is told (`Swept`). Assumes nothing.
use Rattle.words.specs.Words.{words}
use Rattle.survey.proofs.Sweeps.{Swept}
use Rattle.survey.proofs.spares.survey_slots.Given as goal

abbrev pub invariant-loop-s : goal.invariant-loop-s
invariant-loop-s l = Swept l.st (words l.pool) l.unused l.low l.s
