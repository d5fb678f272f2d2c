-- `remove_rows` meets its contract: the rows behind are moved down, as many blank ones set after them, and the count lowered, each in the one slot
-- (`again`), which is then the node without the rows (`closed_now`). Assumes nothing.
use native.Mathlib.Omega.{arith}
use Rattle.words.specs.Words.{words}
use Rattle.slots.proofs.Writes.{closed_by}
use Rattle.slots.proofs.remove_rows.Goals as goal

pub raw_move-requires : goal.raw_move-requires
raw_move-requires c =
    (record { shape = c.requires.held.shape; slot = c.requires.slot; within = omega arith }, record { shape = c.requires.held.shape; slot = c.requires.slot; within = omega arith })

pub raw_clear-requires : goal.raw_clear-requires
raw_clear-requires c =
    record { shape = c.raw_move.ensures.shape; slot = c.requires.slot; within = omega arith }

pub raw_put_count-requires : goal.raw_put_count-requires
raw_put_count-requires c =
    (c.raw_clear.ensures.shape, c.requires.slot)

pub returns : goal.returns
returns c =
    let n = c.count-n in
    let a = c.args in
    closed_by a.st (words a.pool.now) (words c.raw_move.new.pool) (words c.raw_clear.new.pool) (words c.raw_put_count.new.pool)
    a.s n.result c.requires.slot c.requires.held n.ensures.is a.i a.a (omega arith)
    c.raw_move.ensures c.raw_clear.ensures c.raw_put_count.ensures
