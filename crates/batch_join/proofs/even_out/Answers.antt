-- `even_out` meets its contract: levelled, the two are the model's halves, and their rows in the parent are made new (`Turns`). Assumes nothing.
use mathlib.Core.Path.{sym, ◌∙◌}
use native.Mathlib.Omega.{arith}
use Rattle.batch_share.proofs.Places.{sits_row}
use Rattle.batch_share.proofs.Turns.{apart_two, beside_few, sits_lower, sits_upper, lower_named, upper_named, moved_renews, moved_came}
use Rattle.batch_share.proofs.Cuts.{evened}
use Rattle.batch_join.proofs.even_out.Goals as goal

pub child_at-p-requires : goal.child_at-p-requires
child_at-p-requires c = sits_row (sits_lower c.requires.neighbours)

pub overflow_add-at : goal.overflow_add-at
overflow_add-at c = omega (arith, beside_few c.requires.neighbours)

pub child_at-c-requires : goal.child_at-c-requires
child_at-c-requires c = sits_row (sits_upper c.requires.neighbours)

pub level-requires : goal.level-requires
level-requires c =
    let t = c.requires.neighbours in
    let low = lower_named t c.child_at-p.ensures in
    let high = upper_named t c.child_at-c.ensures in
    record {
      held = t.family.held;
      slot = low.slot;
      slot2 = high.slot;
      apart = λ e. apart_two t (sym low.is ∙ e ∙ high.is);
      few = omega (arith, low.count, high.count, c.requires.lower, c.requires.upper);
    }

pub renew_two-requires : goal.renew_two-requires
renew_two-requires c =
    let t = c.requires.neighbours in
    moved_renews t (evened t _ _ _ (lower_named t c.child_at-p.ensures).is (upper_named t c.child_at-c.ensures).is c.level.ensures)

pub returns : goal.returns
returns c =
    let t = c.requires.neighbours in
    moved_came t (evened t _ _ _ (lower_named t c.child_at-p.ensures).is (upper_named t c.child_at-c.ensures).is c.level.ensures) _
    c.renew_two.ensures
