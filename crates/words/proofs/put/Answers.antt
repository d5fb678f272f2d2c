-- `put` meets its contract: the eight bytes that it stores spell `v`, and no other byte changes (`words_written`, `same_written`). Assumes nothing.
use mathlib.Core.Path.{◌∙◌}
use native.Mathlib.Omega.{arith}
use lib.ListN.{length-set}
use Rattle.words.specs.Words.{spell}
use Rattle.words.proofs.Laws.{spelled, words_written, same_written}
use Rattle.words.proofs.put.Goals as goal

pub bounds-pool-p-2 : goal.bounds-pool-p-2
bounds-pool-p-2 c = simp length-set (omega arith)

pub bounds-pool-p-3 : goal.bounds-pool-p-3
bounds-pool-p-3 c = simp length-set (omega arith)

pub bounds-pool-p-4 : goal.bounds-pool-p-4
bounds-pool-p-4 c = simp length-set (omega arith)

pub bounds-pool-p-5 : goal.bounds-pool-p-5
bounds-pool-p-5 c = simp length-set (omega arith)

pub bounds-pool-p-6 : goal.bounds-pool-p-6
bounds-pool-p-6 c = simp length-set (omega arith)

pub bounds-pool-p-7 : goal.bounds-pool-p-7
bounds-pool-p-7 c = simp length-set (omega arith)

pub bounds-pool-p-8 : goal.bounds-pool-p-8
bounds-pool-p-8 c = simp length-set (omega arith)

pub shape_of-pool : goal.shape_of-pool
shape_of-pool c = simp length-set

pub returns : goal.returns
unfolding spell
returns c =
    let a = c.args in
    let e = c.to_le_bytes-bytes.ensures ∙ spelled a.v in
    rw e (record { words = words_written a.pool.now a.i c.place-p.result a.v c.requires c.place-p.ensures.is c.ranges.v.fits; same = same_written a.pool.now a.i c.place-p.result a.v c.requires c.place-p.ensures.is })
