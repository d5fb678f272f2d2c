-- `entries_in` meets its contract. The loop's invariant: the first i places are filled, and the others hold nothing. Assumes nothing.
use mathlib.Core.Path.{◌≡◌}
use Prim.Native.Nat.{◌≤◌}
use lib.ListN.{drop}
use Rattle.frame_text.specs.Entries.{entries_in}
use Rattle.frame_text.specs.Digits.{pairs}
use Rattle.frame_text.specs.Contents.{padded}
use Rattle.frame_read.proofs.entries_in.Given as goal

abbrev pub invariant-loop-i : goal.invariant-loop-i
invariant-loop-i l = (l.i ≤ l.n) × (l.entries ≡ padded (entries_in l.kind l.i (drop 1 (pairs l.line))))
