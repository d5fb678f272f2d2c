-- `descends` meets its contract. The loop's invariant: all keys descend just if those from the one before this one on do. Assumes nothing.
use mathlib.Core.Path.{◌≡◌}
use Prim.Native.Nat.{◌-◌, ◌≤◌}
use lib.ListN.{length, drop}
use Rattle.model.specs.Refuse.{descend}
use Rattle.index_refuse.proofs.call.descends.Given as goal

abbrev pub invariant-loop-i : goal.invariant-loop-i
invariant-loop-i l = (1 ≤ l.i) × (descend (drop (l.i - 1) l.keys) ≡ descend l.keys)

abbrev pub decreases-loop-i : goal.decreases-loop-i
decreases-loop-i l = length l.keys - l.i
