-- `insert_row` meets its contract: a gap is opened, the row put into it, and the count raised, each in the one slot (`again`), which is then the node
-- with the row put in (`opened_now`). Assumes nothing.
use mathlib.Core.Path.{refl}
use native.Mathlib.Omega.{arith}
use mathlib.Core.List.{[], ◌∷◌}
use Rattle.words.specs.Words.{words}
use Rattle.slots.proofs.Writes.{opened_by}
use Rattle.slots.proofs.insert_row.Goals as goal

pub returns : goal.returns
returns c =
    let n = c.count-n in
    let a = c.args in
    opened_by a.st (words a.pool.now) (words c.raw_move.new.pool) (words c.raw_put.new.pool) (words c.raw_put_count.new.pool)
    a.s n.result c.requires.slot c.requires.held n.ensures.is a.i 1 (a.row ∷ []) (omega arith) refl (omega arith)
    c.raw_move.ensures c.raw_put.ensures c.raw_put_count.ensures
