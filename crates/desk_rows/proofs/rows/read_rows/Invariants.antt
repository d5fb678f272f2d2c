-- `read_rows` meets its contract. The loop's invariant: the rows up to `at` are read (`SoFar`). Assumes nothing.
use Prim.Native.Nat.{◌-◌, ◌+◌}
use lib.ListN.{length}
use Rattle.desk_rows.proofs.Fields.{SoFar}
use Rattle.desk_rows.proofs.rows.read_rows.Given as goal

abbrev pub invariant-loop-at : goal.invariant-loop-at
invariant-loop-at l = SoFar l.triples l.line l.from l.initial.keys l.initial.places l.initial.sizes l.keys l.places l.sizes l.at l.n

abbrev pub decreases-loop-at : goal.decreases-loop-at
decreases-loop-at l = length l.line + 1 - l.at
