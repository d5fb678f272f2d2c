-- `held_at` meets its contract: a place that was found is a row's. Assumes nothing.
use native.Mathlib.Omega.{arith}
use Rattle.batch_leaf.proofs.key.held_at.Goals as goal

pub row_at-row-requires : goal.row_at-row-requires
row_at-row-requires c =
    record { held = c.requires.0.held; slot = c.requires.0.slot; within = omega (arith, rw c.in-Ok.is at c.requires.1.within) }

pub returns-in-Ok : goal.returns-in-Ok
returns-in-Ok c = rw (c.in-Ok.is, c.entry_place.ensures, c.row_at-row.ensures)
