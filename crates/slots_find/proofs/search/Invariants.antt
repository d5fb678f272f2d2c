-- `search` meets its contract. The loop's invariant: the keys before row `i` are below `key`. So where the walk ends, the row that it has come to tells, or
-- that there is none. Assumes nothing.
use Prim.Native.Nat.{ℕ, ◌-◌, ◌≤◌, ◌<◌}
use Rattle.words.specs.Words.{words}
use Rattle.slots.specs.Nodes.{rows_at}
use Rattle.slots_find.specs.Search.{key_at}
use Rattle.slots_find.proofs.search.Given as goal

abbrev pub invariant-loop-i : goal.invariant-loop-i
invariant-loop-i l = (l.i ≤ l.n) × ((j : ℕ) → j < l.i → key_at (rows_at l.st (words l.pool) l.s) j < l.key)

abbrev pub decreases-loop-i : goal.decreases-loop-i
decreases-loop-i l = l.n - l.i
