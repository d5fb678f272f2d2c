-- `set_row` meets its contract: a slot with another row holds its node with that row (`row_now`). Assumes nothing.
use mathlib.Core.Path.{refl}
use native.Mathlib.Omega.{arith}
use Rattle.words.specs.Words.{words}
use Rattle.slots.proofs.Nodes.{fits_node, row_now}
use Rattle.slots.proofs.set_row.Goals as goal

pub raw_put-requires : goal.raw_put-requires
raw_put-requires c =
    let a = c.args in
    let held = c.requires.held in
    record { shape = held.shape; slot = c.requires.slot; within = omega (arith, fits_node a.st (words a.pool.now) a.s held) }

pub returns : goal.returns
returns c =
    let a = c.args in
    row_now a.st (words a.pool.now) (words c.raw_put.new.pool) a.s _ c.requires.slot c.requires.held refl
    a.i a.row (omega arith) c.raw_put.ensures
