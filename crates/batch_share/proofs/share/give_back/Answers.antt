-- `give_back` meets its contract: the rows moved are the model's, and the two rows in the parent are made new (`Turns`). Assumes nothing.
use mathlib.Core.Path.{sym, ◌∙◌}
use native.Mathlib.Omega.{arith}
use Rattle.batch_share.proofs.Places.{sits_row}
use Rattle.batch_share.proofs.Turns.{apart_two, beside_few, sits_lower, sits_upper, lower_named, upper_named, moved_renews, moved_came}
use Rattle.batch_share.proofs.Cuts.{gave_back}
use Rattle.batch_share.proofs.share.give_back.Goals as goal

pub child_at-p-requires : goal.child_at-p-requires
child_at-p-requires c = sits_row (sits_lower c.requires.neighbours)

pub overflow_add-at : goal.overflow_add-at
overflow_add-at c = omega (arith, beside_few c.requires.neighbours)

pub child_at-c-requires : goal.child_at-c-requires
child_at-c-requires c = sits_row (sits_upper c.requires.neighbours)

pub handed-a-requires : goal.handed-a-requires
handed-a-requires c =
    let t = c.requires.neighbours in
    let low = lower_named t c.child_at-p.ensures in
    let high = upper_named t c.child_at-c.ensures in
    record {
      held = t.family.held;
      slot = high.slot;
      slot2 = low.slot;
      some = omega (arith, high.count, c.requires.upper);
      few = omega (arith, low.count, c.requires.lower);
    }

pub share_back-requires : goal.share_back-requires
share_back-requires c =
    let t = c.requires.neighbours in
    let low = lower_named t c.child_at-p.ensures in
    let high = upper_named t c.child_at-c.ensures in
    record {
      held = t.family.held;
      slot = high.slot;
      slot2 = low.slot;
      apart = λ e. apart_two t (sym low.is ∙ sym e ∙ high.is);
      has = omega (arith, c.handed-a.ensures);
      room = omega (
        arith,
        c.handed-a.ensures,
        low.count,
        high.count,
        c.requires.lower,
        c.requires.upper,
      );
    }

pub renew_two-requires : goal.renew_two-requires
renew_two-requires c =
    let t = c.requires.neighbours in
    moved_renews t
    (gave_back t _ _ _ (lower_named t c.child_at-p.ensures).is (upper_named t c.child_at-c.ensures).is _
    c.handed-a.ensures c.share_back.ensures)

pub returns : goal.returns
returns c =
    let t = c.requires.neighbours in
    moved_came t
    (gave_back t _ _ _ (lower_named t c.child_at-p.ensures).is (upper_named t c.child_at-c.ensures).is _
    c.handed-a.ensures c.share_back.ensures) _
    c.renew_two.ensures
