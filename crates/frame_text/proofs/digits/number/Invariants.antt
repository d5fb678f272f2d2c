-- `number` meets its contract. The loop's invariant: n is the number that k bytes spell, so it is below 256 ^ k. Assumes nothing.
use mathlib.Core.Path.{◌≡◌}
use Prim.Native.Nat.{◌^◌, ◌≤◌, ◌<◌}
use Rattle.model.specs.ReadFrame.{field}
use Rattle.frame_text.specs.Digits.{pairs}
use Rattle.frame_text.proofs.digits.number.Given as goal

abbrev pub invariant-loop-k : goal.invariant-loop-k
invariant-loop-k l = (l.k ≤ l.w) × ((l.n ≡ field l.a l.k (pairs l.line)) × (l.n < 256 ^ l.k))
