-- `share_next` meets its contract: the last child is split at most, another shares first (`Shares`). Assumes nothing.
use mathlib.Core.Path.{◌≡◌, sym, ◌∙◌}
use Prim.Native.Nat.{◌+◌, ◌<◌}
use native.Mathlib.Omega.{arith}
use lib.ListN.{length}
use Rattle.words.specs.Words.{words}
use Rattle.slots.specs.Nodes.{nodes, nth}
use Rattle.model.specs.Tree.{len}
use Rattle.batch_share.specs.Children.{child_at}
use Rattle.batch_share.proofs.Places.{parent_in}
use Rattle.batch_share.proofs.Focuses.{poise_focus, focus_sits, focus_few}
use Rattle.batch_share.proofs.Shares.{fits_next, next_none, next_asks, next_poised, next_left}
use Rattle.batch_share.proofs.share.share_next.Goals as goal

pub count-n-requires : goal.count-n-requires
count-n-requires c = record { held = c.requires.family.held; slot = parent_in c.requires.family }

pub overflow_add-at : goal.overflow_add-at
overflow_add-at c = omega (arith, focus_few (poise_focus c.requires))

pub returns-then-at-n : goal.returns-then-at-n
returns-then-at-n c =
    next_none _ _ _ c.requires (c.if-at-n.true ∙ c.count-n.ensures.is) c.split_over.ensures

pub child_len-requires : goal.child_len-requires
child_len-requires c = focus_sits (poise_focus c.requires)

pub returns-then-child_len-st : goal.returns-then-child_len-st
returns-then-child_len-st c =
    fits_next c.requires (omega (arith, c.if-child_len-st.true, c.child_len.ensures))

pub give_on-requires : goal.give_on-requires
give_on-requires c =
    let s : let a = c.args in
    let ns = nodes a.st (words a.pool.now) in
    (a.st.order < len (child_at ns a.at.height a.at.parent a.at.row)) × (a.at.row + 1 ≡ length (nth ns a.at.parent).rows → ⊥) = (omega (arith, c.if-child_len-st.false, c.child_len.ensures), λ e. c.if-at-n.false (e ∙ sym c.count-n.ensures.is)) in let it = next_asks _ c.requires s.0 s.1 in
    record { neighbours = it.0; lower = it.1.0; upper = it.1.1 }

pub split_over-requires-2 : goal.split_over-requires-2
split_over-requires-2 c =
    let s : let a = c.args in
    let ns = nodes a.st (words a.pool.now) in
    (a.st.order < len (child_at ns a.at.height a.at.parent a.at.row)) × (a.at.row + 1 ≡ length (nth ns a.at.parent).rows → ⊥) = (omega (arith, c.if-child_len-st.false, c.child_len.ensures), λ e. c.if-at-n.false (e ∙ sym c.count-n.ensures.is)) in
    next_poised _ _ c.requires s.0 s.1 c.give_on.ensures

pub returns : goal.returns
returns c =
    let s : let a = c.args in
    let ns = nodes a.st (words a.pool.now) in
    (a.st.order < len (child_at ns a.at.height a.at.parent a.at.row)) × (a.at.row + 1 ≡ length (nth ns a.at.parent).rows → ⊥) = (omega (arith, c.if-child_len-st.false, c.child_len.ensures), λ e. c.if-at-n.false (e ∙ sym c.count-n.ensures.is)) in
    next_left _ _ _ _ c.requires s.0 s.1 c.give_on.ensures
    c.split_over-2.ensures
