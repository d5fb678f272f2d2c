-- `miscounted` meets its contract: only where each key brings its own reference are the two numbers compared with that of the keys. Assumes nothing.
use mathlib.Core.Path.{refl, sym, ◌∙◌}
use borrow.Author.Tests.{eq-eqb, ne_eqb}
use Rattle.index_refuse.proofs.call.miscounted.Goals as goal

pub returns-then-places-n : goal.returns-then-places-n
returns-then-places-n c = rw (sym c.is_each.ensures ∙ c.if-is_each.true) (simp (eq-eqb _ _ c.if-places-n.true) refl)

pub returns-then-is_each : goal.returns-then-is_each
returns-then-is_each c = rw (sym c.is_each.ensures ∙ c.if-is_each.true) (simp (ne_eqb _ _ c.if-places-n.false) refl)
