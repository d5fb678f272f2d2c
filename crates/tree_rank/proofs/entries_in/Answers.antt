-- `entries_in` meets its contract: what the row stores of its child is read, and its two counts make up the weight. Assumes nothing.
use mathlib.Core.Path.{ap}
use Prim.Native.Nat.{◌+◌}
use Rattle.model.specs.declared.Totals.{Totals}
use Rattle.tree_rank.proofs.entries_in.Goals as goal

pub returns : goal.returns
returns c = ap (λ (t : Totals). t.live + t.dead) c.child_totals-t.ensures
