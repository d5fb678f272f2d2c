-- `move_down` meets its contract. The loop's invariant: the first `k` words are moved, and the pool has kept its size. Assumes nothing.
use mathlib.Core.Path.{◌≡◌}
use Prim.Native.Nat.{◌-◌, ◌≤◌}
use Rattle.words.specs.Words.{words, Same}
use Rattle.words_runs.specs.Moves.{moved}
use Rattle.words_runs.proofs.move_down.Given as goal

abbrev pub invariant-loop-k : goal.invariant-loop-k
invariant-loop-k l = (l.k ≤ l.n) × ((words l.pool ≡ moved (words l.initial.pool) l.from l.to l.k) × Same l.initial.pool l.pool)

abbrev pub decreases-loop-k : goal.decreases-loop-k
decreases-loop-k l = l.n - l.k
