-- The cycle of node change and interior change. The loop of an interior (`Roaming`): the model's walk, going on from the child, the key and the counts of
-- now, ends as it does from the first child. The height falls round the cycle. Assumes nothing.
use Prim.Native.Nat.{◌+◌, ◌-◌, ◌*◌}
use mathlib.Core.Path.{◌≡◌}
use lib.ListN.{length}
use Rattle.words.specs.Words.{words}
use Rattle.model.specs.Refuse.{called}
use Rattle.batch_node.proofs.Rounds.{Roaming}
use Rattle.batch_node.proofs.+interior_change_node_change.Given as goal

-- the height falls round the cycle, from an interior to its children
abbrev pub decreases-interior_change : goal.decreases-interior_change
decreases-interior_change l = 2 * l.node.height + 1

abbrev pub decreases-node_change : goal.decreases-node_change
decreases-node_change l = 2 * l.node.height + 2

abbrev pub invariant-interior_change-roaming : goal.invariant-interior_change-roaming
invariant-interior_change-roaming l =
    Roaming l.st (words l.initial.pool) (words l.pool) (l.node.height - 1) l.node (called l.batch) l.initial.now l.i l.changed l.now × (length l.pool ≡ length l.initial.pool)

abbrev pub decreases-interior_change-roaming : goal.decreases-interior_change-roaming
decreases-interior_change-roaming l =
    length l.batch.keys.now - l.now.next
