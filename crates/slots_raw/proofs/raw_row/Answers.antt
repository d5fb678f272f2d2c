-- `raw_row` meets its contract: the three words that it reads spell row `i` (`row_at`). Assumes nothing.
use mathlib.Core.Path.{ap, ◌∙◌}
use Prim.Native.Nat.{◌+◌, ◌*◌}
use native.Mathlib.Omega.{arith}
use Rattle.words.specs.Words.{words}
use Rattle.slots_raw.specs.Slots.{slot_head, row_len}
use Rattle.slots_raw.proofs.Raws.{row_at}
use Rattle.slots_raw.proofs.raw_row.Goals as goal

pub returns : goal.returns
returns c =
    let a = c.args in
    let b = c.base in
    (λ j. record { key = c.get-key.ensures j; body = c.get-body.ensures j; size = c.get-size.ensures j })
    ∙ row_at a.st (words a.pool.now) a.s c.requires.shape c.requires.slot (b.result + (slot_head + a.i * row_len)) a.i
    (ap (◌+ (slot_head + a.i * row_len)) b.ensures.start) (omega arith)
