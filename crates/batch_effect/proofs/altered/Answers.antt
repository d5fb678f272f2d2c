-- `altered` meets its contract: case by case. Assumes nothing.
use mathlib.Core.Path.{sym}
use mathlib.Core.Bool.{or-false, or-true}
use Rattle.batch_effect.proofs.altered.Goals as goal

pub returns-in-Leave : goal.returns-in-Leave
returns-in-Leave c = rw c.in-Leave.is (sym (or-false c.args.was))

pub returns-in-Add : goal.returns-in-Add
returns-in-Add c = rw c.in-Add.is (sym (or-true c.args.was))

pub returns-in-Replace : goal.returns-in-Replace
returns-in-Replace c = rw c.in-Replace.is (sym (or-true c.args.was))

pub returns-in-Remove : goal.returns-in-Remove
returns-in-Remove c = rw c.in-Remove.is (sym (or-true c.args.was))
