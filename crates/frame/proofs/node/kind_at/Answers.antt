-- `kind_at` meets its contract: its test is the definition's. Assumes nothing.
use Rattle.frame.proofs.Noded.{kind_high}
use Rattle.frame.proofs.node.kind_at.Goals as goal

pub returns : goal.returns
returns c = kind_high c.args.height c.if-height-eq0.false
