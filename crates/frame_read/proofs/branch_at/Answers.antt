-- `branch_at` meets its contract: each number stands where the definition reads it. Assumes nothing.
use Rattle.frame_text.specs.Digits.{pairs}
use Rattle.frame_text.proofs.Coded.{field_drop}
use Rattle.frame_read.proofs.branch_at.Goals as goal

pub returns : goal.returns
returns c =
    let a = c.args.a in
    let bs = pairs c.args.line.now in
    rw (
      field_drop a 8 4 bs,
      field_drop a 12 4 bs,
      field_drop a 16 4 bs,
      field_drop a 20 8 bs,
      ← c.number-key.ensures.0,
      ← c.number-child.ensures.0,
      ← c.number-live.ensures.0,
      ← c.number-dead.ensures.0,
      ← c.number-size.ensures.0,
    )
    c.branch-key.ensures
