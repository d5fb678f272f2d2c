-- `collapse` meets its contract. The loop's invariant: the collapse from here is the collapse from the start (`Sinking`). Assumes nothing.
use mathlib.Core.Path.{◌≡◌}
use Prim.Native.Nat.{◌-◌}
use lib.ListN.{length}
use Rattle.words.specs.Words.{words}
use Rattle.batch_root.proofs.Sinks.{Sinking}
use Rattle.batch_root.proofs.shrink.collapse.Given as goal

abbrev pub invariant-loop-height : goal.invariant-loop-height
invariant-loop-height l =
    (length l.pool ≡ length l.initial.pool) × Sinking l.st (words l.initial.pool) (words l.pool) l.initial.height l.height l.spare

abbrev pub decreases-loop-height : goal.decreases-loop-height
decreases-loop-height l = l.height
