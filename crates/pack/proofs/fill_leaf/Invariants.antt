-- `fill_leaf` meets its contract. The loop's invariant (`Filling`): the leaf has the first `taken` entries of the piece. A run of rows that stand side
-- by side in the source is as many entries more. Assumes nothing.
use mathlib.Core.Path.{◌≡◌}
use Prim.Native.Nat.{◌-◌}
use lib.ListN.{length}
use Rattle.words.specs.Words.{words}
use Rattle.pack.proofs.Fills.{Filling}
use Rattle.pack.proofs.fill_leaf.Given as goal

abbrev pub invariant-loop-taken : goal.invariant-loop-taken
invariant-loop-taken l =
    Filling l.st (words l.initial.pool) l.known (words l.source) l.piece (words l.pool) l.taken × (length l.pool ≡ length l.initial.pool)

abbrev pub decreases-loop-taken : goal.decreases-loop-taken
decreases-loop-taken l = l.piece.count - l.taken
