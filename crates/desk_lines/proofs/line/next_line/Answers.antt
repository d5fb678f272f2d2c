-- The first line is the part up to the first line feed. Assumes nothing.
use lib.Seq.{length-take-le}
use native.Mathlib.Omega.{arith}
use mathlib.Core.Path.{sym}
use Rattle.desk_lines.proofs.Finds.{line_part, end_within}
use Rattle.desk_lines.proofs.line.next_line.Goals as goal

pub slice_bounds-result-end : goal.slice_bounds-result-end
slice_bounds-result-end c = sym (length-take-le _ _ (end_within 10 _ 0 _ (omega arith) c.find-end.ensures))

pub returns : goal.returns
returns c = line_part _ _ c.find-end.ensures
