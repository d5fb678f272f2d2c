-- `zeros` meets its contract. The loop's invariant: `bits` is 0 if and only if the `k` words from `from` on are. Assumes nothing.
use mathlib.Core.Path.{◌≡◌}
use Prim.Native.Nat.{◌-◌, ◌≤◌}
use lib.ListN.{length, take, drop}
use lib.Dec.{eqb}
use Rattle.words.specs.Words.{words}
use Rattle.words_runs.specs.Moves.{all_zero}
use Rattle.words_runs.proofs.zeros.Given as goal

-- that words are fewer than bytes keeps `from + k` from wrapping
abbrev pub invariant-loop-k : goal.invariant-loop-k
invariant-loop-k l = (l.k ≤ l.n) × ((eqb l.bits 0 ≡ all_zero (take l.k (drop l.from (words l.pool)))) × (length (words l.pool) ≤ length l.pool))

abbrev pub decreases-loop-k : goal.decreases-loop-k
decreases-loop-k l = l.n - l.k
