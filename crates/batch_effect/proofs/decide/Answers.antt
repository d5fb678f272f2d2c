-- `decide` meets its contract: an action that is always wished, or one that is wished where its expectation is met. Assumes nothing.
use mathlib.Core.Path.{sym, ◌∙◌}
use Rattle.batch_effect.proofs.decide.Goals as goal

pub returns-in-Always : goal.returns-in-Always
returns-in-Always c = c.effect_of.ensures ∙ rw c.in-Always.is

pub returns-then-meets : goal.returns-then-meets
returns-then-meets c = c.effect_of-then-meets.ensures ∙ rw (c.in-IfMet.is, sym c.meets.ensures, c.if-meets.true)

pub returns-else-meets : goal.returns-else-meets
returns-else-meets c = rw (c.in-IfMet.is, sym c.meets.ensures, c.if-meets.false)
