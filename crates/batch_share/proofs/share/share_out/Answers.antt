-- `share_out` meets its contract: with a sibling before it that has room the child shares first, and the walk steps back (`Shares`). Assumes nothing.
use mathlib.Core.Path.{◌≡◌, refl, sym, ◌∙◌}
use mathlib.Core.Bool.{true}
use Rattle.words.specs.Words.{words}
use Rattle.slots.specs.Nodes.{nodes}
use Rattle.batch_share.specs.Children.{before_at, room_in}
use Rattle.batch_share.proofs.Shares.{out_some, out_asks, out_poised, out_ended, out_stayed}
use Rattle.batch_share.proofs.share.share_out.Goals as goal

pub overflow_sub-previous : goal.overflow_sub-previous
overflow_sub-previous c = out_some _ c.requires.steps (let it : let a = c.args in room_in a.st (before_at (nodes a.st (words a.pool.now)) a.at.height a.at.parent a.at.row) ≡ true = sym c.room_before.ensures ∙ c.if-room_before.true in it)

pub give_back-requires : goal.give_back-requires
give_back-requires c =
    let it = out_asks _ c.requires.steps (let it : let a = c.args in room_in a.st (before_at (nodes a.st (words a.pool.now)) a.at.height a.at.parent a.at.row) ≡ true = sym c.room_before.ensures ∙ c.if-room_before.true in it) c.requires.says.over in
    record { neighbours = it.0; lower = it.1.0; upper = it.1.1 }

pub share_next-spare-requires : goal.share_next-spare-requires
share_next-spare-requires c =
    out_poised _ _ c.requires.steps (let it : let a = c.args in room_in a.st (before_at (nodes a.st (words a.pool.now)) a.at.height a.at.parent a.at.row) ≡ true = sym c.room_before.ensures ∙ c.if-room_before.true in it) c.give_back.ensures

pub overflow_sub-result : goal.overflow_sub-result
overflow_sub-result c =
    out_some _ c.requires.steps (let it : let a = c.args in room_in a.st (before_at (nodes a.st (words a.pool.now)) a.at.height a.at.parent a.at.row) ≡ true = sym c.room_before.ensures ∙ c.if-room_before.true in it)

pub returns-then-room_before : goal.returns-then-room_before
returns-then-room_before c =
    out_ended _ _ _ _ c.requires.steps (let it : let a = c.args in room_in a.st (before_at (nodes a.st (words a.pool.now)) a.at.height a.at.parent a.at.row) ≡ true = sym c.room_before.ensures ∙ c.if-room_before.true in it) refl c.give_back.ensures c.share_next-spare.ensures

pub returns : goal.returns
returns c =
    out_stayed _ _ _ c.requires.steps (sym c.room_before.ensures ∙ c.if-room_before.false) refl
    c.share_next-spare-2.ensures
