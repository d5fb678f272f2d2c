-- `settle_child` meets its contract: an unchanged child stays as it is; for another the row is made new, and each result goes on from there (`Arms`).
-- Assumes nothing.
use mathlib.Core.Path.{refl}
use Rattle.model.specs.declared.ChangeResult.TheVariants.{Remove, Absorb, Split, Changed}
use Rattle.batch_settle.proofs.Arms.{arm_rests, start_renews, arm_asks, arm_stays, arm_ends}
use Rattle.batch_settle.proofs.settle_child.Goals as goal

pub renew_child-requires : goal.renew_child-requires
renew_child-requires c = start_renews c.requires

pub take_out-requires : goal.take_out-requires
take_out-requires c =
    let it = arm_asks c.requires _ c.renew_child.ensures Remove c.in-Remove.is in
    record { steps = it.0; says = it.1 }

pub renew_child-requires-in-Absorb : goal.renew_child-requires-in-Absorb
renew_child-requires-in-Absorb c = start_renews c.requires

pub absorb-requires : goal.absorb-requires
absorb-requires c =
    let it = arm_asks c.requires _ c.renew_child-in-Absorb.ensures Absorb c.in-Absorb.is in
    record { steps = it.0; says = it.1 }

pub renew_child-requires-in-Changed : goal.renew_child-requires-in-Changed
renew_child-requires-in-Changed c = start_renews c.requires

pub renew_child-requires-in-Split : goal.renew_child-requires-in-Split
renew_child-requires-in-Split c = start_renews c.requires

pub share_out-requires : goal.share_out-requires
share_out-requires c =
    let it = arm_asks c.requires _ c.renew_child-in-Split.ensures Split c.in-Split.is in
    record { steps = it.0; says = it.1 }

pub returns-in-Unchanged : goal.returns-in-Unchanged
returns-in-Unchanged c = arm_rests c.requires _ c.in-Unchanged.is refl refl

pub returns-in-Remove : goal.returns-in-Remove
returns-in-Remove c =
    arm_ends c.requires _ c.renew_child.ensures Remove _ _ c.in-Remove.is
    c.take_out.ensures

pub returns-in-Absorb : goal.returns-in-Absorb
returns-in-Absorb c =
    arm_ends c.requires _ c.renew_child-in-Absorb.ensures Absorb _ _ c.in-Absorb.is
    c.absorb.ensures

pub returns-in-Changed : goal.returns-in-Changed
returns-in-Changed c =
    arm_stays c.requires _ c.renew_child-in-Changed.ensures Changed _ c.in-Changed.is refl refl refl

pub returns-in-Split : goal.returns-in-Split
returns-in-Split c =
    arm_ends c.requires _ c.renew_child-in-Split.ensures Split _ _ c.in-Split.is
    c.share_out.ensures
