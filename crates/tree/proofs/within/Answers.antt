-- `within` meets its contract: the flag that it ends with is the test that decides. Assumes nothing.
use Rattle.tree.proofs.Opening.{tells_most, tells_least}
use Rattle.tree.proofs.within.Goals as goal

pub returns-then-low-n : goal.returns-then-low-n
returns-then-low-n c = let a = c.args in tells_most a.low a.n a.high c.if-low-n.true

pub returns-else-low-n : goal.returns-else-low-n
returns-else-low-n c = let a = c.args in tells_least a.low a.n a.high c.if-low-n.false
