-- The cycle of `build` and `build_children`. The loop's invariant (`Growing`): the slot holds the children of the first `taken` entries, which have the slots
-- up to `next`. The height falls round the cycle. Assumes nothing.
use mathlib.Core.Path.{◌≡◌}
use Prim.Native.Nat.{◌+◌, ◌-◌, ◌*◌}
use lib.ListN.{length}
use Rattle.words.specs.Words.{words}
use Rattle.pack.proofs.Grows.{Growing}
use Rattle.pack.proofs.+build_build_children.Given as goal

-- the height falls round the cycle, from an interior to its children
abbrev pub decreases-build : goal.decreases-build
decreases-build l = 2 * l.piece.height + 1

abbrev pub decreases-build_children : goal.decreases-build_children
decreases-build_children l = 2 * l.piece.height

-- AN INTERIOR
abbrev pub invariant-build_children-loop-taken : goal.invariant-build_children-loop-taken
invariant-build_children-loop-taken l =
    Growing l.st l.known (words l.source) (l.piece.height - 1) l.piece (words l.initial.pool) (words l.pool) l.next l.taken l.i × (length l.pool ≡ length l.initial.pool)

abbrev pub decreases-build_children-loop-taken : goal.decreases-build_children-loop-taken
decreases-build_children-loop-taken l = l.piece.count - l.taken
