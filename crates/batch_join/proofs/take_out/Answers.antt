-- `take_out` meets its contract: the child's slot is released and its row taken out, and both are what the model leaves (`Outs`). Assumes nothing.
use Rattle.tree_spare.proofs.Spares.{spared_few}
use Rattle.batch_share.proofs.Places.{sits_row}
use Rattle.batch_share.proofs.Focuses.{poise_focus, focus_sits, child_named}
use Rattle.batch_join.proofs.Outs.{child_out, taken_out}
use Rattle.batch_join.proofs.take_out.Goals as goal

pub child_at-c-requires : goal.child_at-c-requires
child_at-c-requires c = sits_row (focus_sits (poise_focus c.requires.steps))

pub release-requires : goal.release-requires
release-requires c =
    let t = c.requires.steps in
    record { held = t.family.held; slot = (child_named (poise_focus t) c.child_at-c.ensures).slot }

pub remove_row-requires : goal.remove_row-requires
remove_row-requires c =
    let t = c.requires.steps in
    child_out (poise_focus t) c.requires.says _ (child_named (poise_focus t) c.child_at-c.ensures).is _ c.release.ensures

pub after_freeing-requires : goal.after_freeing-requires
after_freeing-requires c =
    spared_few _ _ c.requires.steps.spared c.requires.steps.family.held

pub returns : goal.returns
returns c =
    let t = c.requires.steps in
    taken_out (poise_focus t) c.requires.says _ (child_named (poise_focus t) c.child_at-c.ensures).is _ c.release.ensures _
    c.remove_row.ensures _ c.requires.steps.spared _ c.one_back.ensures c.after_freeing.ensures
