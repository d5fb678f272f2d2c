-- `interior` meets its contract. The loop's invariant: what is left to put makes the entries those of the 32 places. Assumes nothing.
use Rattle.index_c_given.specs.Given.{branch_at}
use Rattle.index_c_given.proofs.Fills.{Filling}
use Rattle.index_c_given.proofs.interior.Given as goal

abbrev pub invariant-loop-i : goal.invariant-loop-i
invariant-loop-i l = Filling (branch_at l.keys l.children l.live l.dead l.sums) 32 l.entries l.i
