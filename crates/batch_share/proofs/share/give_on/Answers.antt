-- `give_on` meets its contract: the rows moved are the model's, and the two rows in the parent are made new (`Turns`). Assumes nothing.
use mathlib.Core.Path.{sym, ◌∙◌}
use native.Mathlib.Omega.{arith}
use Rattle.batch_share.proofs.Places.{sits_row}
use Rattle.batch_share.proofs.Turns.{apart_two, beside_few, sits_lower, sits_upper, lower_named, upper_named, moved_renews, moved_came}
use Rattle.batch_share.proofs.Cuts.{gave_on}
use Rattle.batch_share.proofs.share.give_on.Goals as goal

pub child_at-c-requires : goal.child_at-c-requires
child_at-c-requires c = sits_row (sits_lower c.requires.neighbours)

pub overflow_add-at : goal.overflow_add-at
overflow_add-at c = omega (arith, beside_few c.requires.neighbours)

pub child_at-n-requires : goal.child_at-n-requires
child_at-n-requires c = sits_row (sits_upper c.requires.neighbours)

pub handed-a-requires : goal.handed-a-requires
handed-a-requires c =
    let t = c.requires.neighbours in
    let low = lower_named t c.child_at-c.ensures in
    let high = upper_named t c.child_at-n.ensures in
    record {
      held = t.family.held;
      slot = low.slot;
      slot2 = high.slot;
      some = omega (arith, low.count, c.requires.lower);
      few = omega (arith, high.count, c.requires.upper);
    }

pub share_forward-requires : goal.share_forward-requires
share_forward-requires c =
    let t = c.requires.neighbours in
    let low = lower_named t c.child_at-c.ensures in
    let high = upper_named t c.child_at-n.ensures in
    record {
      held = t.family.held;
      slot = low.slot;
      slot2 = high.slot;
      apart = λ e. apart_two t (sym low.is ∙ e ∙ high.is);
      has = omega (arith, c.handed-a.ensures);
      room = omega (
        arith,
        c.handed-a.ensures,
        low.count,
        high.count,
        c.requires.lower,
        c.requires.upper,
      );
    }

pub renew_two-requires : goal.renew_two-requires
renew_two-requires c =
    let t = c.requires.neighbours in
    moved_renews t
    (gave_on t _ _ _ (lower_named t c.child_at-c.ensures).is (upper_named t c.child_at-n.ensures).is _
    c.handed-a.ensures c.share_forward.ensures)

pub returns : goal.returns
returns c =
    let t = c.requires.neighbours in
    moved_came t
    (gave_on t _ _ _ (lower_named t c.child_at-c.ensures).is (upper_named t c.child_at-n.ensures).is _
    c.handed-a.ensures c.share_forward.ensures) _
    c.renew_two.ensures
