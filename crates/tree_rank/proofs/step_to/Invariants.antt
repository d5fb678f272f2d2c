-- `step_to` meets its contract. The loop's invariant: the first i children have the entries before r but for `rank` of them, and there is another child,
-- since all of them have more (`more_rows`). Assumes nothing.
use mathlib.Core.Path.{◌≡◌}
use Prim.Native.Nat.{◌+◌, ◌-◌, ◌<◌}
use lib.ListN.{length, take}
use Rattle.words.specs.Words.{words}
use Rattle.slots.specs.Nodes.{rows_at}
use Rattle.tree_rank.specs.Rank.{weights}
use Rattle.tree_rank.proofs.step_to.Given as goal

abbrev pub invariant-loop-rank : goal.invariant-loop-rank
invariant-loop-rank l =
    let rs = rows_at l.st (words l.pool) l.s in (l.i < length rs) × (l.r ≡ weights (take l.i rs) + l.rank)

abbrev pub decreases-loop-rank : goal.decreases-loop-rank
decreases-loop-rank l = length (rows_at l.st (words l.pool) l.s) - l.i
