-- `settle_root` meets its contract: of each result the root is left as the model leaves it (`proofs/Settled`). Assumes nothing.
use mathlib.Core.Path.{refl}
use Rattle.batch_root.proofs.Indexes.{keeps_root}
use Rattle.batch.proofs.Settled.{to_halve, split_settled, gone_settled, stays_settled}
use Rattle.batch.proofs.settle_root.Goals as goal

pub split_root-spare-requires : goal.split_root-spare-requires
split_root-spare-requires c = to_halve c.requires c.in-Split.is

pub returns-in-Split : goal.returns-in-Split
returns-in-Split c =
    split_settled c.requires c.in-Split.is c.split_root-spare.ensures

pub set_kind-requires : goal.set_kind-requires
set_kind-requires c = let keeps = c.requires.keeps in record { held = keeps.held; slot = keeps_root keeps }

pub returns-in-Remove : goal.returns-in-Remove
returns-in-Remove c =
    gone_settled c.requires c.in-Remove.is c.set_kind.ensures

pub returns-in-Unchanged : goal.returns-in-Unchanged
returns-in-Unchanged c = stays_settled c.requires c.in-Unchanged.is refl

pub returns-in-Absorb : goal.returns-in-Absorb
returns-in-Absorb c = stays_settled c.requires c.in-Absorb.is refl

pub returns-in-Changed : goal.returns-in-Changed
returns-in-Changed c = stays_settled c.requires c.in-Changed.is refl
