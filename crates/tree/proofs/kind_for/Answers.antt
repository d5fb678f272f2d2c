-- `kind_for` meets its contract, by its two cases. Assumes nothing.
use Rattle.tree.proofs.Cells.{high_kind}
use Rattle.tree.proofs.kind_for.Goals as goal

pub returns-else-height-eq0 : goal.returns-else-height-eq0
returns-else-height-eq0 c = high_kind c.args.height c.if-height-eq0.false
