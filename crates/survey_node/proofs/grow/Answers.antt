-- `grow` meets its contract: its record is the definition's, with the totals added. Assumes nothing.
use mathlib.Core.Path.{ap}
use Rattle.std.specs.Prelude.{Some}
use Rattle.model.specs.declared.Totals.{Totals}
use Rattle.survey_node.proofs.grow.Goals as goal

pub returns : goal.returns
returns c = let a = c.args in ap (λ (t : Totals). record { last = Some a.key; totals = t; left = a.left }) c.plus_totals.ensures
