-- `counted` meets its contract: case by case. Assumes nothing.
use native.Mathlib.Numerals.{add-one}
use Rattle.batch_effect.proofs.counted.Goals as goal

pub returns-in-Leave : goal.returns-in-Leave
returns-in-Leave c = rw (c.in-Leave.is, add-one)

pub returns-in-Add : goal.returns-in-Add
returns-in-Add c = rw (c.in-Add.is, add-one)

pub returns-in-Replace : goal.returns-in-Replace
returns-in-Replace c = rw (c.in-Replace.is, add-one)

pub returns-in-Remove : goal.returns-in-Remove
returns-in-Remove c = rw (c.in-Remove.is, add-one)
