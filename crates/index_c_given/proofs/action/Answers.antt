-- `action` meets its contract: each arm answers what the model makes of its flag. Assumes nothing.
use mathlib.Core.Path.{sym, ap}
use mathlib.Core.Bool.{Bool}
use Rattle.index_c_given.specs.Given.{action_for}
use Rattle.index_c_given.proofs.action.Goals as goal

pub returns-then-set : goal.returns-then-set
returns-then-set c = let a = c.args in ap (λ (b : Bool). action_for b a.place a.size) (sym c.if-set.true)
