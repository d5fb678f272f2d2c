-- `move_up` meets its contract. The loop's invariant: the words from `k` on are moved, and the pool has kept its size. Assumes nothing.
use mathlib.Core.Path.{◌≡◌}
use Prim.Native.Nat.{◌-◌, ◌≤◌}
use Rattle.words.specs.Words.{words, Same}
use Rattle.words_runs.proofs.Runs.{moved_from}
use Rattle.words_runs.proofs.move_up.Given as goal

abbrev pub invariant-loop-k : goal.invariant-loop-k
invariant-loop-k l = (l.k ≤ l.n) × ((words l.pool ≡ moved_from (words l.initial.pool) l.from l.to l.n l.k) × Same l.initial.pool l.pool)

abbrev pub decreases-loop-k : goal.decreases-loop-k
decreases-loop-k l = l.k
