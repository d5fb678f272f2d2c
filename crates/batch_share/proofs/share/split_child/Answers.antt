-- `split_child` meets its contract: each step does to the pool what the model's split of the child does to the family (`Splits`). Assumes nothing.
use native.Mathlib.Omega.{arith}
use Rattle.batch_share.proofs.Places.{sits_row}
use Rattle.batch_share.proofs.Focuses.{poise_focus, focus_sits, child_named, focus_few}
use Rattle.batch_share.proofs.Splits.{keeps_half, can_split, upper_weighs, upper_room, lower_renews, cut_taken, cut_left}
use Rattle.batch_share.proofs.share.split_child.Goals as goal

pub child_at-c-requires : goal.child_at-c-requires
child_at-c-requires c = sits_row (focus_sits (poise_focus c.requires))

pub count-n-requires : goal.count-n-requires
count-n-requires c =
    let t = c.requires in
    record { held = t.family.held; slot = (child_named (poise_focus t) c.child_at-c.ensures).slot }

pub split-requires : goal.split-requires
split-requires c =
    let t = c.requires in
    can_split t (keeps_half t (child_named (poise_focus t) c.child_at-c.ensures).is c.count-n.ensures.is c.half-keep.ensures)

pub weigh-row-requires : goal.weigh-row-requires
weigh-row-requires c =
    let t = c.requires in
    upper_weighs t (keeps_half t (child_named (poise_focus t) c.child_at-c.ensures).is c.count-n.ensures.is c.half-keep.ensures) _ c.split.ensures

pub overflow_add-at : goal.overflow_add-at
overflow_add-at c =
    omega (arith, focus_few (poise_focus c.requires))

pub insert_row-requires : goal.insert_row-requires
insert_row-requires c =
    let t = c.requires in
    upper_room t (keeps_half t (child_named (poise_focus t) c.child_at-c.ensures).is c.count-n.ensures.is c.half-keep.ensures) _ c.split.ensures

pub renew-requires : goal.renew-requires
renew-requires c =
    let t = c.requires in
    lower_renews t (keeps_half t (child_named (poise_focus t) c.child_at-c.ensures).is c.count-n.ensures.is c.half-keep.ensures) _ c.split.ensures _
    c.weigh-row.ensures _ c.insert_row.ensures

pub after_taking-requires : goal.after_taking-requires
after_taking-requires c =
    let t = c.requires in
    cut_taken t (keeps_half t (child_named (poise_focus t) c.child_at-c.ensures).is c.count-n.ensures.is c.half-keep.ensures) _ c.split.ensures _
    c.weigh-row.ensures _ c.insert_row.ensures _ c.renew.ensures

pub returns : goal.returns
returns c =
    let t = c.requires in
    cut_left t (keeps_half t (child_named (poise_focus t) c.child_at-c.ensures).is c.count-n.ensures.is c.half-keep.ensures) _ c.split.ensures _
    c.weigh-row.ensures _ c.insert_row.ensures _ c.renew.ensures _ c.after_taking.ensures
