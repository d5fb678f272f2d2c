-- `lift_child` meets its contract: the root's row taken out, the child's kind, and the child joined to the root lift it (`proofs/Sinks`). Assumes nothing.
use native.Mathlib.Omega.{arith}
use Rattle.tree_spare.proofs.Spares.{spared_few}
use Rattle.batch_root.proofs.Indexes.{keeps_root}
use Rattle.batch_root.proofs.Sinks.{to_join, child_lifted}
use Rattle.batch_root.proofs.shrink.lift_child.Goals as goal

pub child_at-child-requires : goal.child_at-child-requires
child_at-child-requires c =
    let pre = c.requires in
    record { held = pre.keeps.held; slot = keeps_root pre.keeps; within = omega (arith, pre.one) }

pub remove_row-requires : goal.remove_row-requires
remove_row-requires c =
    let pre = c.requires in
    record { held = pre.keeps.held; slot = keeps_root pre.keeps; within = omega (arith, pre.one) }

pub set_kind-requires : goal.set_kind-requires
set_kind-requires c =
    record { held = c.remove_row.ensures.held; slot = keeps_root c.requires.keeps }

pub join-requires : goal.join-requires
join-requires c =
    to_join c.requires c.child_at-child.ensures c.kind_for-k.ensures c.remove_row.ensures
    c.set_kind.ensures

pub after_freeing-requires : goal.after_freeing-requires
after_freeing-requires c =
    let pre = c.requires in
    spared_few _ _ pre.spared pre.keeps.held

pub returns : goal.returns
returns c =
    child_lifted c.requires c.child_at-child.ensures c.kind_for-k.ensures c.remove_row.ensures
    c.set_kind.ensures c.join.ensures c.after_freeing.ensures
