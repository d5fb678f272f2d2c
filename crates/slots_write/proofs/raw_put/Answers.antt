-- `raw_put` meets its contract: the three words that it stores are row `i` of slot `s`, and no other slot changes (`row_put`). Assumes nothing.
use mathlib.Core.Path.{ap, ◌∙◌}
use Prim.Native.Nat.{ℕ, ◌+◌, ◌*◌}
use mathlib.Core.List.{List}
use lib.ListN.{set}
use Rattle.words.specs.Words.{words}
use Rattle.slots_raw.specs.Slots.{slot_head, row_len}
use Rattle.slots_write.proofs.Puts.{row_put}
use Rattle.slots_write.proofs.raw_put.Goals as goal

pub returns : goal.returns
returns c =
    let b = c.base in
    let a = c.args in
    let p = b.result + (slot_head + a.i * row_len) in
    rw (c.put-3.ensures.words
    ∙ ap (λ (l : List ℕ). set l (p + 2) a.row.size) c.put-2.ensures.words
    ∙ ap (λ (l : List ℕ). set (set l (p + 1) a.row.body) (p + 2) a.row.size) c.put.ensures.words)
    (row_put a.st (words a.pool.now) a.s c.requires.shape c.requires.slot b.result a.i a.row b.ensures c.requires.within)
