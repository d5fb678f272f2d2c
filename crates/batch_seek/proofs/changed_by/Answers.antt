-- `changed_by` meets its contract: result by result; all but the first are a change. Assumes nothing.
use mathlib.Core.Path.{◌∙◌}
use Rattle.batch_seek.proofs.Seeks.{or_false, or_true, or_same}
use Rattle.batch_seek.proofs.changed_by.Goals as goal

pub returns-in-Unchanged : goal.returns-in-Unchanged
returns-in-Unchanged c = or_false c.args.was ∙ or_same c.args.was c.in-Unchanged.is

pub returns-in-Remove : goal.returns-in-Remove
returns-in-Remove c = or_true c.args.was ∙ or_same c.args.was c.in-Remove.is

pub returns-in-Absorb : goal.returns-in-Absorb
returns-in-Absorb c = or_true c.args.was ∙ or_same c.args.was c.in-Absorb.is

pub returns-in-Changed : goal.returns-in-Changed
returns-in-Changed c = or_true c.args.was ∙ or_same c.args.was c.in-Changed.is

pub returns-in-Split : goal.returns-in-Split
returns-in-Split c = or_true c.args.was ∙ or_same c.args.was c.in-Split.is
