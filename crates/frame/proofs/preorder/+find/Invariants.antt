-- `find` meets its contract, the height falling. The loop's invariant: i counts the root, the nodes of the first j children, and what is left. Assumes nothing.
use mathlib.Core.Path.{◌≡◌}
use Prim.Native.Nat.{◌+◌, ◌≤◌}
use lib.ListN.{take}
use Rattle.words.specs.Words.{words}
use Rattle.slots.specs.Nodes.{nodes, nth}
use Rattle.frame.proofs.Walks.{passed}
use Rattle.frame.proofs.preorder.+find.Given as goal

abbrev pub decreases-find : goal.decreases-find
decreases-find l = l.height

abbrev pub invariant-loop-j : goal.invariant-loop-j
invariant-loop-j l =
    (l.j ≤ l.n) × (l.i ≡ 1 + passed (nodes l.st (words l.pool)) l.height (take l.j (nth (nodes l.st (words l.pool)) l.s).rows) + l.left)
