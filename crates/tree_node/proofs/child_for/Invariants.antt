-- `child_for` meets its contract: from any child that the loop has come to, the key goes where it goes from the first one. Assumes nothing.
use mathlib.Core.Path.{◌≡◌}
use Prim.Native.Nat.{◌+◌, ◌-◌, ◌≤◌, ◌<◌}
use lib.ListN.{length, drop}
use Rattle.words.specs.Words.{words}
use Rattle.slots.specs.Nodes.{rows_at}
use Rattle.tree_node.specs.Ask.{child_for}
use Rattle.tree_node.proofs.child_for.Given as goal

abbrev pub invariant-loop-i : goal.invariant-loop-i
invariant-loop-i now =
    let l = rows_at now.st (words now.pool) now.s in
    (now.from ≤ now.i) × ((now.i < length l) × (now.i + child_for now.key (drop now.i l) ≡ now.from + child_for now.key (drop now.from l)))

abbrev pub decreases-loop-i : goal.decreases-loop-i
decreases-loop-i l = l.n - l.i
