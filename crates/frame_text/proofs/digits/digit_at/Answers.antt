-- `digit_at` meets its contract: each byte of a line of digits has a value. Assumes nothing.
use Rattle.frame_text.proofs.Spelt.{digit_at, has_value}
use Rattle.frame_text.proofs.digits.digit_at.Goals as goal

pub unwrap-requires : goal.unwrap-requires
unwrap-requires c = has_value c.value_of.result _ c.value_of.ensures.value (digit_at c.args.line.now c.args.p c.requires.digits c.requires.within)
