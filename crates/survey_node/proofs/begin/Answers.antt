-- `begin` meets its contract: its record is the definition's, with the totals of nothing. Assumes nothing.
use mathlib.Core.Path.{ap}
use Rattle.model.specs.declared.Totals.{Totals}
use Rattle.survey_node.proofs.begin.Goals as goal

pub returns : goal.returns
returns c = let a = c.args in ap (λ (t : Totals). record { last = a.last; totals = t; left = a.left }) c.no_totals.ensures
