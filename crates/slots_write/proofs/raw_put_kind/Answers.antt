-- `raw_put_kind` meets its contract: the word that it stores is the kind of slot `s`, as the tree sees it, and no other slot changes (`kind_put`). Assumes nothing.
use mathlib.Core.Path.{ap, ◌∙◌}
use lib.ListN.{set}
use Rattle.words.specs.Words.{words}
use Rattle.slots_write.proofs.Puts.{kind_put}
use Rattle.slots_write.proofs.raw_put_kind.Goals as goal

pub returns : goal.returns
returns c =
    let stored = c.seen-stored in
    let b = c.base-b in
    let a = c.args in
    rw (c.put.ensures.words ∙ ap (set (words a.pool.now) b.result) stored.ensures)
    (kind_put a.st (words a.pool.now) a.s c.requires.0 c.requires.1 b.result a.kind b.ensures)
