-- `put_number` meets its contract. The loop's invariant: the bytes from k on are written, and `rest` is what lies over them. Assumes nothing.
use mathlib.Core.Path.{◌≡◌}
use Prim.Native.Nat.{◌+◌, ◌-◌, ◌/◌, ◌^◌, ◌≤◌}
use lib.ListN.{length}
use Rattle.model.specs.Frame.{bytes}
use Rattle.frame_text.specs.Digits.{spelled}
use Rattle.frame_text.proofs.digits.put_number.Given as goal

abbrev pub invariant-loop-k : goal.invariant-loop-k
invariant-loop-k l =
    (l.k ≤ l.w) × ((length l.line ≡ length l.initial.line) × ((l.rest ≡ l.value / 256 ^ (l.w - l.k)) × (l.line ≡ spelled l.initial.line (l.a + l.k) (l.w - l.k) (bytes (l.w - l.k) l.value))))
