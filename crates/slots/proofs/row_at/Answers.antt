-- `row_at` meets its contract: a row of a node is a row of its slot (`row_node`), since a node's rows fit its slot (`fits_node`). Assumes nothing.
use mathlib.Core.Path.{◌∙◌}
use native.Mathlib.Omega.{arith}
use Rattle.words.specs.Words.{words}
use Rattle.slots.proofs.Nodes.{fits_node, row_node}
use Rattle.slots.proofs.row_at.Goals as goal

pub raw_row-requires : goal.raw_row-requires
raw_row-requires c =
    let a = c.args in
    let held = c.requires.held in
    record { shape = held.shape; slot = c.requires.slot; within = omega (arith, fits_node a.st (words a.pool.now) a.s held) }

pub returns : goal.returns
returns c =
    let a = c.args in
    c.raw_row.ensures ∙ row_node a.st (words a.pool.now) a.s a.i c.requires.held (omega arith)
