-- `nodes_under` meets its contract: a leaf's row stands for no node, an interior's for its child's. Assumes nothing.
use mathlib.Core.Path.{◌∙◌}
use native.Mathlib.Omega.{arith}
use lib.ListN.{get_or}
use Rattle.words.specs.Words.{words}
use Rattle.slots.specs.Nodes.{nodes, nth}
use Rattle.slots_raw.specs.Slots.{blank}
use Rattle.frame.proofs.Noded.{under_leaf}
use Rattle.frame.proofs.Walks.{standing_row, standing_down, nodes_child}
use Rattle.frame.proofs.node.nodes_under.Goals as goal

pub returns-then-height-eq0 : goal.returns-then-height-eq0
returns-then-height-eq0 c =
    let a = c.args in
    let W = words a.pool.now in
    let ns = nodes a.st W in
    let rs = (nth ns a.s).rows in
    under_leaf ns a.height (get_or rs a.j blank) c.if-height-eq0.true

pub child_at-child-requires : goal.child_at-child-requires
child_at-child-requires c =
    let a = c.args in
    standing_row a.st (words a.pool.now) a.height a.s a.j c.requires.stands c.requires.within

pub nodes_in-requires : goal.nodes_in-requires
nodes_in-requires c =
    let a = c.args in
    standing_down a.st (words a.pool.now) a.height a.s a.j c.child_at-child.result c.requires.stands (omega arith) c.requires.within
    c.child_at-child.ensures

pub returns : goal.returns
returns c =
    let a = c.args in
    let W = words a.pool.now in
    let ns = nodes a.st W in
    let rs = (nth ns a.s).rows in
    c.nodes_in.ensures ∙ nodes_child ns a.height c.child_at-child.result (get_or rs a.j blank) (omega arith) c.child_at-child.ensures
