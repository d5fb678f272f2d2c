-- `entry_totals` meets its contract, by its two cases. Assumes nothing.
use mathlib.Core.Path.{refl, sym, ap, ◌∙◌}
use Rattle.model.specs.Tree.{is_mark}
use Rattle.tree_rows.proofs.entry_totals.Goals as goal

pub returns-then-is_mark : goal.returns-then-is_mark
returns-then-is_mark c = rw (sym (c.is_mark.ensures ∙ ap is_mark c.entry_place-place.ensures) ∙ c.if-is_mark.true) refl

pub returns : goal.returns
returns c = rw (sym (c.is_mark.ensures ∙ ap is_mark c.entry_place-place.ensures) ∙ c.if-is_mark.false) refl
