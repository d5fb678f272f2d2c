-- `read_set` meets its contract: what is read is the rows of a `set`, by value. Assumes nothing.
use mathlib.Core.Path.{refl}
use Rattle.desk_orders.proofs.Asks.{set_good}
use Rattle.desk_orders.proofs.read.read_set.Goals as goal

pub returns : goal.returns
returns c = let e = c.in-Some.ensures in set_good _ _ _ _ _ e.read e.few e.lent e.past _ refl
