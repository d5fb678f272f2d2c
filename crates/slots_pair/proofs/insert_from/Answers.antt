-- `insert_from` meets its contract: as `insert_row`, with rows of another slot in the gap. They are rows of node `s` (`part_node`), and the opening of
-- the gap in slot `t` did not touch them (`raw_other`). Assumes nothing.
use mathlib.Core.Path.{◌≡◌, ap, ◌∙◌}
use Prim.Native.Nat.{◌+◌}
use native.Mathlib.Omega.{arith}
use Rattle.words.specs.Words.{words}
use Rattle.slots_raw.specs.Over.{over, part}
use Rattle.slots_raw.specs.Slots.{Raw, raw_at}
use Rattle.slots_write.specs.Puts.{with_count, with_cells}
use Rattle.slots.specs.Nodes.{rows_at}
use Rattle.slots_raw.proofs.Over.{length_part}
use Rattle.slots.proofs.Nodes.{fits_node, again, opened_now, raw_other, part_node}
use Rattle.slots_pair.proofs.insert_from.Goals as goal

pub raw_move-requires-2 : goal.raw_move-requires-2
raw_move-requires-2 c =
    let a = c.args in
    let shape = c.raw_move.ensures.shape in (
      record { shape = shape; slot = c.requires.slot; within = omega (arith, fits_node a.st (words a.pool.now) a.s c.requires.held) },
      record { shape = shape; slot = c.requires.slot2; within = omega arith },
    )

pub returns : goal.returns
returns c =
    let n = c.count-n in
    let a = c.args in
    let pre = c.requires in
    let W₀ = words a.pool.now in
    let W₁ = words c.raw_move.new.pool in
    let W₂ = words c.raw_move-2.new.pool in
    let W₃ = words c.raw_put_count.new.pool in
    let new = part (rows_at a.st W₀ a.s) a.from a.a in
    let taken : part (raw_at a.st W₁ a.s).cells a.from a.a ≡ new =
    ap (λ (r : Raw). part r.cells a.from a.a) (raw_other a.st W₀ W₁ a.t _ c.raw_move.ensures.is a.s pre.apart)
    ∙ part_node a.st W₀ a.s a.from a.a pre.held pre.has in
    let filled : Raw → Raw = λ r. with_cells r (over r.cells a.i a.a new) in
    let more : Raw → Raw = λ r. with_count r (n.result + a.a) in
    opened_now a.st W₀ W₃ a.t n.result pre.slot2 pre.held n.ensures.is a.i a.a new (omega arith)
    (length_part (rows_at a.st W₀ a.s) a.from a.a pre.has) (omega arith)
    (again more a.st W₀ W₂ W₃ a.t _ pre.slot2
    (again filled a.st W₀ W₁ W₂ a.t _ pre.slot2 c.raw_move.ensures (rw taken at c.raw_move-2.ensures)) c.raw_put_count.ensures)
