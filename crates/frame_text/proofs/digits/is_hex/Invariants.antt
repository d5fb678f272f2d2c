-- `is_hex` meets its contract. The loop's invariant: the line is one exactly if what is left of it is one. Assumes nothing.
use mathlib.Core.Path.{◌≡◌}
use lib.ListN.{length}
use Rattle.frame_text.specs.Digits.{is_hex}
use Rattle.frame_text.proofs.digits.is_hex.Given as goal

abbrev pub invariant-loop-rest : goal.invariant-loop-rest
invariant-loop-rest l = is_hex l.rest ≡ is_hex l.line

abbrev pub decreases-loop-rest : goal.decreases-loop-rest
decreases-loop-rest l = length l.rest
