-- `roams_on` meets its contract: it is asked in turn whether the next key is due, and whether there is a child. Assumes nothing.
use mathlib.Core.Path.{sym, ◌∙◌}
use Rattle.batch_seek.proofs.roams_on.Goals as goal

pub returns-then-is_due : goal.returns-then-is_due
returns-then-is_due c =
    rw (sym c.is_due.ensures ∙ c.if-is_due.true, c.count-n.ensures.is)

pub returns : goal.returns
returns c = rw (sym c.is_due.ensures ∙ c.if-is_due.false)
