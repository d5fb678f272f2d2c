-- `set_kind` meets its contract: a slot with another kind holds its node with that kind (`kind_now`). Assumes nothing.
use Rattle.words.specs.Words.{words}
use Rattle.slots.proofs.Nodes.{kind_now}
use Rattle.slots.proofs.set_kind.Goals as goal

pub returns : goal.returns
returns c =
    let a = c.args in
    kind_now a.st (words a.pool.now) (words c.raw_put_kind.new.pool) a.s a.k c.requires.slot c.requires.held c.raw_put_kind.ensures
