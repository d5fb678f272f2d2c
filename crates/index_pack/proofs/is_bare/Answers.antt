-- `is_bare` meets its contract: a tree that is no leaf is not bare, and a leaf is where it has no rows (`leaf_bare`). Assumes nothing.
use Rattle.look.proofs.Sounds.{pool_weighs}
use Rattle.index_pack.proofs.Asks.{leaf_bare}
use Rattle.index_pack.proofs.is_bare.Goals as goal

pub count-requires : goal.count-requires
count-requires c = let w = pool_weighs _ _ _ c.requires in record { held = w.held; slot = w.slot }

pub returns-then-height-eq0 : goal.returns-then-height-eq0
returns-then-height-eq0 c = leaf_bare _ _ _ c.requires c.if-height-eq0.true c.count.result c.count.ensures.is
