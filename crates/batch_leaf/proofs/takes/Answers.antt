-- `takes` meets its contract: each of its two tests is one of `goes_on`. Assumes nothing.
use mathlib.Core.Path.{sym, ◌∙◌}
use Rattle.batch_leaf.proofs.takes.Goals as goal

pub returns-then-is_due : goal.returns-then-is_due
returns-then-is_due c =
    rw (sym c.is_due.ensures ∙ c.if-is_due.true, c.count-n.ensures.is)

pub returns : goal.returns
returns c = rw (sym c.is_due.ensures ∙ c.if-is_due.false)
