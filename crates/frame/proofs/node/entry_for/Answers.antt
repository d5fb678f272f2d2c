-- `entry_for` meets its contract: its test is the definition's. Assumes nothing.
use mathlib.Core.Path.{ap, ◌∙◌}
use Rattle.model.specs.declared.Totals.{Totals}
use Rattle.frame_text.specs.Contents.{of_entry, of_branch}
use Rattle.frame.proofs.Noded.{entry_low, entry_high}
use Rattle.frame.proofs.node.entry_for.Goals as goal

pub entry_of-e-requires : goal.entry_of-e-requires
entry_of-e-requires c = c.requires.sized c.if-height-eq0.true

pub returns-then-height-eq0 : goal.returns-then-height-eq0
returns-then-height-eq0 c =
    let a = c.args in
    c.leaf_entry.ensures ∙ ap of_entry c.entry_of-e.ensures
    ∙ entry_low a.height a.child a.row c.if-height-eq0.true

pub returns : goal.returns
returns c =
    let a = c.args in
    c.branch-row.ensures ∙ ap (λ (t : Totals). of_branch (record { key = a.row.key; child = a.child; totals = t })) c.child_totals.ensures
    ∙ entry_high a.height a.child a.row c.if-height-eq0.false
