-- `read_drop` meets its contract: what is read is the rows of a `drop`, by value. Assumes nothing.
use mathlib.Core.Path.{refl}
use Rattle.desk_orders.proofs.Asks.{drop_good}
use Rattle.desk_orders.proofs.read.read_drop.Goals as goal

pub returns : goal.returns
returns c = let e = c.in-Some.ensures in drop_good _ _ _ _ _ e.read e.few e.lent e.past _ refl
