-- `left_edge` meets its contract. The loop's invariant: the height from the root is the steps taken and the height from here. Assumes nothing.
use mathlib.Core.Path.{◌≡◌}
use Prim.Native.Nat.{◌+◌, ◌-◌, ◌≤◌}
use Rattle.words.specs.Words.{words}
use Rattle.slots.specs.Nodes.{nodes}
use Rattle.tree.specs.Pool.{height_at}
use Rattle.survey.proofs.walk.left_edge.Given as goal

abbrev pub invariant-loop-height : goal.invariant-loop-height
invariant-loop-height l =
    (l.height ≤ 8) × (height_at (nodes l.st (words l.pool)) 8 l.st.root ≡ l.height + height_at (nodes l.st (words l.pool)) (8 - l.height) l.s)
