-- `capacity` meets its contract. The loop's invariant: `most` is the capacity at height h. Assumes nothing.
use mathlib.Core.Path.{◌≡◌}
use Prim.Native.Nat.{◌≤◌}
use Rattle.model_pack.specs.Pack as pack
use Rattle.pack_plan.proofs.capacity.Given as goal

abbrev pub invariant-loop-h : goal.invariant-loop-h
invariant-loop-h l = (l._h ≤ l.height) × (l.most ≡ pack.capacity l.order l._h)
