-- `row_totals` meets its contract, by the height of the row's node. Assumes nothing.
use mathlib.Core.Path.{◌∙◌}
use Rattle.tree.proofs.Rows.{leaf_adds, inner_adds}
use Rattle.tree_rows.proofs.row_totals.Goals as goal

pub returns-then-height-eq0 : goal.returns-then-height-eq0
returns-then-height-eq0 c = let a = c.args in c.entry_totals.ensures ∙ leaf_adds a.height a.row c.if-height-eq0.true

pub returns : goal.returns
returns c = let a = c.args in c.child_totals.ensures ∙ inner_adds a.height a.row c.if-height-eq0.false
