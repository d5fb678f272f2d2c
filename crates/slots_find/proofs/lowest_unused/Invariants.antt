-- `lowest_unused` meets its contract. The loop's invariant: no slot below `s` is unused. Assumes nothing.
use mathlib.Core.Path.{◌≡◌}
use Prim.Native.Nat.{◌-◌, ◌≤◌}
use Rattle.words.specs.Words.{words}
use Rattle.slots.specs.Nodes as N
use Rattle.slots_find.specs.Promises.{Below}
use Rattle.slots_find.proofs.lowest_unused.Given as goal

abbrev pub invariant-loop-s : goal.invariant-loop-s
invariant-loop-s l = (l.s ≤ l.nodes) × ((l.nodes ≡ l.st.nodes) × Below (N.nodes l.st (words l.pool)) l.s)

abbrev pub decreases-loop-s : goal.decreases-loop-s
decreases-loop-s l = l.nodes - l.s
