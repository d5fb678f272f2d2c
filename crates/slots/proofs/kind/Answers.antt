-- `kind` meets its contract: the kind of a slot is that of its node (`kind_node`). Assumes nothing.
use mathlib.Core.Path.{◌∙◌}
use Rattle.words.specs.Words.{words}
use Rattle.slots.proofs.Nodes.{kind_node}
use Rattle.slots.proofs.kind.Goals as goal

pub returns : goal.returns
returns c =
    let a = c.args in
    c.raw_kind.ensures ∙ kind_node a.st (words a.pool.now) a.s
