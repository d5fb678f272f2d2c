-- `clear` meets its contract. The loop's invariant: the `k` words from `from` on are 0, and the pool has kept its size. Assumes nothing.
use mathlib.Core.Path.{◌≡◌}
use Prim.Native.Nat.{◌-◌, ◌≤◌}
use Rattle.words.specs.Words.{words, Same}
use Rattle.words_runs.specs.Moves.{cleared}
use Rattle.words_runs.proofs.clear.Given as goal

abbrev pub invariant-loop-k : goal.invariant-loop-k
invariant-loop-k l = (l.k ≤ l.n) × ((words l.pool ≡ cleared (words l.initial.pool) l.from l.k) × Same l.initial.pool l.pool)

abbrev pub decreases-loop-k : goal.decreases-loop-k
decreases-loop-k l = l.n - l.k
