-- `show` meets its contract. The loop's invariant: the first i frames stand in the text (`Shown`), until there is none left. Assumes nothing.
use Rattle.desk_dump.proofs.Shows.{Shown}
use Rattle.desk_dump.proofs.show.Given as goal

abbrev pub invariant-loop-i : goal.invariant-loop-i
invariant-loop-i l = Shown l.pool l.initial.text l.text l.at l.i
