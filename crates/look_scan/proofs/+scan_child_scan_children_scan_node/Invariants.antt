-- The cycle of a scan's walk meets its contracts: a node is a leaf or has children, the loop over children steps into each, and a child is a node one
-- level lower. The height falls round the cycle. The laws are in `Rounds`. Assumes nothing.
use mathlib.Core.Path.{◌≡◌}
use Prim.Native.Nat.{◌+◌, ◌*◌, ◌≤◌}
use lib.ListN.{length}
use Rattle.words.specs.Words.{words}
use Rattle.slots.specs.Nodes.{nodes, rows_at}
use Rattle.look_scan.specs.Walk.{walk_at}
use Rattle.look_scan.proofs.Rounds.{Walking}
use Rattle.look_scan.proofs.+scan_child_scan_children_scan_node.Given as goal

-- THE MEASURES: a node of height h is 3 * h, a child of that height one more, the children of that height two more
abbrev pub decreases-scan_child : goal.decreases-scan_child
decreases-scan_child l = 3 * l.below + 1

abbrev pub decreases-scan_children : goal.decreases-scan_children
decreases-scan_children l = 3 * l.below + 2

abbrev pub decreases-scan_node : goal.decreases-scan_node
decreases-scan_node l = 3 * l.height

-- THE CHILDREN
abbrev pub invariant-scan_children-loop-j : goal.invariant-scan_children-loop-j
invariant-scan_children-loop-j l =
    (l.j ≤ l.n) × ((length l.out ≡ length l.initial.out) × Walking l.q (nodes l.st (words l.pool)) l.below (rows_at l.st (words l.pool) l.s) l.room (walk_at l.initial.out l.initial.at) l.out l.at l.j)
