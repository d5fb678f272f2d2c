-- `read_number` meets its contract. The loop's invariant: `value` is the number that the digits before place i spell (`Spelling`). Assumes nothing.
use Rattle.desk_rows.proofs.Spelt.{Spelling}
use Rattle.desk_rows.proofs.digits.read_number.Given as goal

abbrev pub invariant-loop-i : goal.invariant-loop-i
invariant-loop-i l = Spelling l.line l.from l.end l.most l.i l.value
