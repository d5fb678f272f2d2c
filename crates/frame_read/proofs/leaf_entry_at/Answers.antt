-- `leaf_entry_at` meets its contract: each number stands where the definition reads it. Assumes nothing.
use Rattle.frame_text.specs.Digits.{pairs}
use Rattle.frame_text.proofs.Coded.{field_drop}
use Rattle.frame_read.proofs.leaf_entry_at.Goals as goal

pub returns : goal.returns
returns c =
    let a = c.args.a in
    let bs = pairs c.args.line.now in
    rw (
      field_drop a 8 8 bs,
      field_drop a 16 4 bs,
      ← c.number-key.ensures.0,
      ← c.number-place.ensures.0,
      ← c.number-size.ensures.0,
    ) c.leaf_entry.ensures
