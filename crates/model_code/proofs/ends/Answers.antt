-- `ends` meets its contract, bound by bound. Assumes nothing.
use mathlib.Core.Path.{sym, ap}
use Rattle.model.specs.declared.Bound.{Bound}
use Rattle.model.specs.Look as look
use Rattle.model_code.proofs.ends.Goals as goal

pub returns-in-Included : goal.returns-in-Included
returns-in-Included c = let a = c.args in sym (ap (λ (b : Bound). look.ends b a.key) c.in-Included.is)

pub returns-in-Excluded : goal.returns-in-Excluded
returns-in-Excluded c = let a = c.args in sym (ap (λ (b : Bound). look.ends b a.key) c.in-Excluded.is)
