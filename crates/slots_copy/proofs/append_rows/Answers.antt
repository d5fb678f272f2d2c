-- `append_rows` meets its contract: the words that it copies are rows of node `s` of the source (`part_node`) and become rows of slot `t`
-- (`rows_brought`); with the count raised, in the one slot (`again`), they stand behind the rows of its node (`appended_now`). Assumes nothing.
use Prim.Native.Nat.{◌+◌, ◌≤◌}
use native.Mathlib.Omega.{arith}
use Rattle.words.specs.Words.{words}
use Rattle.slots_raw.specs.Slots.{Raw}
use Rattle.slots_write.specs.Puts.{with_count}
use Rattle.slots_raw.specs.Over.{part}
use Rattle.slots.specs.Nodes.{rows_at}
use Rattle.slots_raw.proofs.Over.{length_part}
use Rattle.slots_write.proofs.Puts.{rows_brought}
use Rattle.slots.proofs.Nodes.{fits_node, part_node, again, appended_now}
use Rattle.slots_copy.proofs.append_rows.Goals as goal

pub overflow_mul-from : goal.overflow_mul-from
overflow_mul-from c = omega (arith, (let it : c.args.from + c.args.n ≤ c.args.su.rows = omega (arith, fits_node c.args.su (words c.args.source.now) c.args.s c.requires.other) in it))

pub overflow_add-from : goal.overflow_add-from
overflow_add-from c = omega (arith, (let it : c.args.from + c.args.n ≤ c.args.su.rows = omega (arith, fits_node c.args.su (words c.args.source.now) c.args.s c.requires.other) in it))

pub overflow_add-a : goal.overflow_add-a
overflow_add-a c = omega (arith, (let it : c.args.from + c.args.n ≤ c.args.su.rows = omega (arith, fits_node c.args.su (words c.args.source.now) c.args.s c.requires.other) in it))

pub bring-requires : goal.bring-requires
bring-requires c = omega (arith, (let it : c.args.from + c.args.n ≤ c.args.su.rows = omega (arith, fits_node c.args.su (words c.args.source.now) c.args.s c.requires.other) in it))

pub returns : goal.returns
returns c =
    let m = c.count-m in
    let a = c.args in
    let pre = c.requires in
    let U = words a.source.now in
    let W₀ = words a.pool.now in
    let W₁ = words c.bring.new.pool in
    let W₂ = words c.raw_put_count.new.pool in
    let new = part (rows_at a.su U a.s) a.from a.n in
    let theirs = rows_brought a.su a.st U W₀ a.s a.t c.base-a.result c.base-b.result a.from m.result a.n
    (record { shape = pre.other.shape; slot = pre.theirs; within = let it : c.args.from + c.args.n ≤ c.args.su.rows = omega (arith, fits_node c.args.su (words c.args.source.now) c.args.s c.requires.other) in it })
    (record { shape = pre.held.shape; slot = pre.slot; within = omega arith }) c.base-a.ensures c.base-b.ensures in
    let more : Raw → Raw = λ r. with_count r (m.result + a.n) in
    appended_now a.st W₀ W₂ a.t m.result pre.slot pre.held m.ensures.is a.n new
    (length_part (rows_at a.su U a.s) a.from a.n pre.has) (omega arith)
    (again more a.st W₀ W₁ W₂ a.t _ pre.slot
    (rw (← c.bring.ensures.words, part_node a.su U a.s a.from a.n pre.other pre.has) at theirs) c.raw_put_count.ensures)
