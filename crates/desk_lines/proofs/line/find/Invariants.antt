-- From any place that the loop has come to, the byte stands where it stands from the first one. Assumes nothing.
use Prim.Native.Nat.{◌≤◌, max}
use mathlib.Core.Path.{◌≡◌}
use lib.ListN.{length}
use Rattle.desk_lines.specs.Lines.{end_of}
use Rattle.desk_lines.proofs.line.find.Given as goal

abbrev pub invariant-loop-i : goal.invariant-loop-i
invariant-loop-i l = (l.i ≤ max l.from (length l.text)) × (end_of l.stop l.text l.i ≡ end_of l.stop l.text l.from)
