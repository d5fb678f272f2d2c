-- `room_before` meets its contract: the test is that of the sibling before the child. Assumes nothing.
use Rattle.batch_share.proofs.Shares.{room_sits, room_told}
use Rattle.batch_share.proofs.share.room_before.Goals as goal

pub child_len-requires : goal.child_len-requires
child_len-requires c = room_sits _ c.requires c.if-at-eq0.false

pub returns : goal.returns
returns c = room_told _ c.requires c.if-at-eq0.false _ c.child_len.ensures
