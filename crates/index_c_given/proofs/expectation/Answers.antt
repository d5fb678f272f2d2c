-- `expectation` meets its contract: each arm answers what the model makes of its flag. Assumes nothing.
use mathlib.Core.Path.{sym, ap}
use mathlib.Core.Bool.{Bool}
use Rattle.index_c_given.specs.Given.{expectation_for}
use Rattle.index_c_given.proofs.expectation.Goals as goal

pub returns-then-holds : goal.returns-then-holds
returns-then-holds c = let a = c.args in ap (λ (b : Bool). expectation_for b a.place a.size) (sym c.if-holds.true)
