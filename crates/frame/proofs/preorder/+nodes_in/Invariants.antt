-- `nodes_in` meets its contract, the height falling. The loop's invariant: `total` counts the root and the nodes of the first j children. Assumes nothing.
use mathlib.Core.Path.{◌≡◌}
use Prim.Native.Nat.{◌+◌, ◌≤◌}
use lib.ListN.{take}
use Rattle.words.specs.Words.{words}
use Rattle.slots.specs.Nodes.{nodes, nth}
use Rattle.frame.proofs.Walks.{passed}
use Rattle.frame.proofs.preorder.+nodes_in.Given as goal

abbrev pub decreases-nodes_in : goal.decreases-nodes_in
decreases-nodes_in l = l.height

abbrev pub invariant-loop-j : goal.invariant-loop-j
invariant-loop-j l =
    (l.j ≤ l.n) × (l.total ≡ 1 + passed (nodes l.st (words l.pool)) l.height (take l.j (nth (nodes l.st (words l.pool)) l.s).rows))
