-- `put_contents` meets its contract. The loop's invariant: what is left to put makes each array its field of the 32 places. Assumes nothing.
use Rattle.index_c_fields.proofs.Tellings.{Telling}
use Rattle.index_c_fields.proofs.put_contents.Given as goal

-- what is left to put, from place i on, makes each array its field of the entries
abbrev pub invariant-loop-i : goal.invariant-loop-i
invariant-loop-i l =
    Telling l.kind l.entries l.key l.high l.low l.alive l.gone l.i
