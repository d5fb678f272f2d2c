-- `merge` meets its contract: each step does to the pool what the model's join does to the two (`Merges`). Assumes nothing.
use native.Mathlib.Omega.{arith}
use Rattle.tree_spare.proofs.Spares.{spared_few}
use Rattle.batch_share.proofs.Places.{sits_row}
use Rattle.batch_share.proofs.Turns.{beside_few, sits_lower, sits_upper, lower_named, upper_named}
use Rattle.batch_join.proofs.Merges.{can_join, upper_out, both_renews, merged_left}
use Rattle.batch_join.proofs.merge.Goals as goal

pub child_at-p-requires : goal.child_at-p-requires
child_at-p-requires c = sits_row (sits_lower c.requires.neighbours)

pub overflow_add-at : goal.overflow_add-at
overflow_add-at c = omega (arith, beside_few c.requires.neighbours)

pub child_at-c-requires : goal.child_at-c-requires
child_at-c-requires c = sits_row (sits_upper c.requires.neighbours)

pub join-requires : goal.join-requires
join-requires c =
    let t = c.requires.neighbours in
    can_join t _ _ (lower_named t c.child_at-p.ensures).is (upper_named t c.child_at-c.ensures).is (omega (arith, c.requires.fits))

pub overflow_add-at-2 : goal.overflow_add-at-2
overflow_add-at-2 c =
    omega (arith, beside_few c.requires.neighbours)

pub remove_row-requires : goal.remove_row-requires
remove_row-requires c =
    let t = c.requires.neighbours in
    upper_out t _ _ (lower_named t c.child_at-p.ensures).is (upper_named t c.child_at-c.ensures).is _ c.join.ensures

pub renew-requires : goal.renew-requires
renew-requires c =
    let t = c.requires.neighbours in
    both_renews t _ _ (lower_named t c.child_at-p.ensures).is (upper_named t c.child_at-c.ensures).is _ c.join.ensures _
    c.remove_row.ensures

pub after_freeing-requires : goal.after_freeing-requires
after_freeing-requires c =
    spared_few _ _ c.requires.spared c.requires.neighbours.family.held

pub returns : goal.returns
returns c =
    let t = c.requires.neighbours in
    merged_left t _ _ (lower_named t c.child_at-p.ensures).is (upper_named t c.child_at-c.ensures).is _ c.join.ensures _
    c.remove_row.ensures _ c.requires.spared _ c.after_freeing.ensures _ c.renew.ensures
