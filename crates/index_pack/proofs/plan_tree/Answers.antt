-- `plan_tree` meets its contract: height and nodes are worked out from the tree's own entries (`counts_asked`, `planned`). Assumes nothing.
use Rattle.index_pack.proofs.Plans.{order_narrow, counts_asked, planned}
use Rattle.index_pack.proofs.plan_tree.Goals as goal

pub height_for-high-requires : goal.height_for-high-requires
height_for-high-requires c = order_narrow _ _ _ c.requires c.entries_in-count.result c.entries_in-count.ensures

pub nodes_for-requires : goal.nodes_for-requires
nodes_for-requires c =
    counts_asked _ _ _ c.requires c.entries_in-count.result c.entries_in-count.ensures c.height_for-high.result
    c.height_for-high.ensures

pub returns : goal.returns
returns c =
    planned _ _ _ c.requires c.entries_in-count.result c.entries_in-count.ensures c.height_for-high.result
    c.height_for-high.ensures c.nodes_for.result c.nodes_for.ensures.nodes
