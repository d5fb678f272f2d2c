-- `all_zero` meets its contract. The loop's invariant: the answer for the whole run is the answer for what is left of it. Assumes nothing.
use mathlib.Core.Path.{◌≡◌}
use Prim.Native.Nat.{◌+◌, ◌-◌, ◌*◌, ◌≤◌}
use lib.ListN.{length, take, drop}
use Rattle.words.specs.Words.{words}
use Rattle.words_runs.specs.Moves.{all_zero}
use Rattle.words_runs.proofs.all_zero.Given as goal

-- that words are fewer than bytes keeps the place of a block from wrapping
abbrev pub invariant-loop-b : goal.invariant-loop-b
invariant-loop-b l = (all_zero (take l.n (drop l.from (words l.pool))) ≡ all_zero (take (l.n - 32 * l.b) (drop (l.from + 32 * l.b) (words l.pool)))) × (length (words l.pool) ≤ length l.pool)
