-- `last_key` meets its contract: a node without rows has no last key (`no_key`), and another's is that of its last row (`key_last`). Assumes nothing.
use mathlib.Core.Path.{◌∙◌}
use Rattle.words.specs.Words.{words}
use Rattle.slots.specs.Nodes.{rows_at}
use Rattle.tree_node.proofs.Weights.{key_last}
use Rattle.tree_node.proofs.last_key.Goals as goal

pub returns : goal.returns
returns c =
    let a = c.args in
    let rows = c.count-n in
    c.key_at.ensures ∙ key_last (rows_at a.st (words a.pool.now) a.s) rows.result rows.ensures.is c.if-n-eq0.false
