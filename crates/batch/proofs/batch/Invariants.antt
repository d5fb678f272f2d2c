-- `batch` meets its contract. The loop's invariant: the model's calls of the root from here are its calls from the start (`Running`). Assumes nothing.
use mathlib.Core.Path.{◌≡◌}
use Prim.Native.Nat.{◌-◌}
use lib.ListN.{length}
use Rattle.words.specs.Words.{words}
use Rattle.model.specs.Refuse.{called}
use Rattle.batch.proofs.Rounds.{Running}
use Rattle.batch.proofs.batch.Given as goal

abbrev pub invariant-loop-run : goal.invariant-loop-run
invariant-loop-run l =
    (length l.pool ≡ length l.initial.pool) × Running l.st (words l.initial.pool) l.initial.height (called l.batch) (words l.pool) l.height l.run

abbrev pub decreases-loop-run : goal.decreases-loop-run
decreases-loop-run l = length l.batch.keys.now - l.run.next
