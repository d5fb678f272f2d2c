-- `absorb` meets its contract: an only child stays, another is joined (`Joins`). Assumes nothing.
use mathlib.Core.Path.{refl, sym, ◌∙◌}
use Rattle.batch_share.proofs.Places.{parent_in}
use Rattle.batch_join.proofs.Joins.{alone_ended, absorb_asks, absorbed}
use Rattle.batch_join.proofs.absorb.Goals as goal

pub count-requires : goal.count-requires
count-requires c = record { held = c.requires.steps.family.held; slot = parent_in c.requires.steps.family }

pub returns-then-count-eq1 : goal.returns-then-count-eq1
returns-then-count-eq1 c = alone_ended _ _ _ c.requires.steps (sym c.count.ensures.is ∙ c.if-count-eq1.true) refl refl

pub join_children-spare-requires : goal.join_children-spare-requires
join_children-spare-requires c =
    let it = absorb_asks _ _ _ c.requires.steps c.requires.says (λ e. c.if-count-eq1.false (c.count.ensures.is ∙ e)) c.one_back.ensures in
    record { neighbours = it.0; lower = it.1.0; upper = it.1.1.0; spared = it.1.1.1 }

pub returns : goal.returns
returns c =
    absorbed _ _ _ _ c.requires.steps (λ e. c.if-count-eq1.false (c.count.ensures.is ∙ e)) c.one_back.ensures
    c.join_children-spare.ensures
