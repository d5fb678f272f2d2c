-- `totals` meets its contract: in a sound pool the root's rows add up to the totals of the tree. Assumes nothing.
use mathlib.Core.Path.{◌∙◌}
use Rattle.look.proofs.Sounds.{pool_weighs, pool_totals}
use Rattle.look.proofs.calls.totals.Goals as goal

pub stats-requires : goal.stats-requires
stats-requires c = let a = c.args in pool_weighs a.pool.now a.st a.height c.requires

pub returns : goal.returns
returns c = let a = c.args in c.stats.ensures ∙ pool_totals a.pool.now a.st a.height c.requires
