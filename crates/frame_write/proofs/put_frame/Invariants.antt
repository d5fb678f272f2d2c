-- `put_frame` meets its contract. The loop's invariant: behind the header stand the first i entries. Assumes nothing.
use mathlib.Core.Path.{◌≡◌}
use Prim.Native.Nat.{◌*◌, ◌≤◌}
use lib.ListN.{length}
use Rattle.frame_text.specs.Entries.{width_of}
use Rattle.frame_text.specs.Digits.{spelled}
use Rattle.frame_text.specs.Contents.{first}
use Rattle.frame_text.proofs.Coded.{codes}
use Rattle.frame_write.proofs.put_frame.Given as goal

abbrev pub invariant-loop-i : goal.invariant-loop-i
invariant-loop-i l =
    (l.i ≤ l.n) × ((length l.line ≡ length l.initial.line) × (l.line ≡ spelled l.initial.line 1 (l.i * width_of l.kind) (codes l.kind (first l.i l.entries))))
