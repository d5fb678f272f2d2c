-- `child_len` meets its contract: the slot in the row is the child's, which has the rows of its node. Assumes nothing.
use mathlib.Core.Path.{◌∙◌}
use Rattle.batch_share.proofs.Places.{sits_row, named_at}
use Rattle.batch_share.proofs.renew.child_len.Goals as goal

pub child_at-c-requires : goal.child_at-c-requires
child_at-c-requires c = sits_row c.requires

pub count-requires : goal.count-requires
count-requires c =
    record { held = c.requires.held; slot = (named_at c.requires c.child_at-c.ensures).slot }

pub returns : goal.returns
returns c = c.count.ensures.is ∙ (named_at c.requires c.child_at-c.ensures).count
