-- `take_keys` meets its contract. The loop's invariant (`Turn`): the model's leaf, going on from the rows, the key and the counts of now, ends as it
-- does from those at first. Where the test fails the model stops too (`turn_done`). Assumes nothing.
use mathlib.Core.Path.{◌≡◌}
use Prim.Native.Nat.{◌-◌}
use lib.ListN.{length}
use Rattle.words.specs.Words.{words}
use Rattle.model.specs.Refuse.{called}
use Rattle.batch_leaf.proofs.Turns.{Turn}
use Rattle.batch_leaf.proofs.take_keys.Given as goal

abbrev pub invariant-loop-st : goal.invariant-loop-st
invariant-loop-st l =
    Turn l.st (words l.initial.pool) (words l.pool) l.leaf (called l.batch) l.initial.now l.changed l.now × (length l.pool ≡ length l.initial.pool)

abbrev pub decreases-loop-st : goal.decreases-loop-st
decreases-loop-st l = length l.batch.keys.now - l.now.next
