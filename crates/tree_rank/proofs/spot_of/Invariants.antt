-- `spot_of` meets its contract. The loop's invariant: entry r of the whole tree is entry `row` of the tree of height h in slot `leaf` (`Under`). Assumes
-- nothing.
use Prim.Native.Nat.{suc}
use Rattle.words.specs.Words.{words}
use Rattle.slots.specs.Nodes.{nodes}
use Rattle.model.specs.Tree.{entries}
use Rattle.tree.specs.Bridge.{tree_at}
use Rattle.tree_rank.proofs.Ranks.{Under}
use Rattle.tree_rank.proofs.spot_of.Given as goal

abbrev pub invariant-loop-h : goal.invariant-loop-h
invariant-loop-h l =
    let W = words l.pool in Under l.st W (entries (suc l.height) (tree_at (nodes l.st W) l.height l.s)) l.r l._h l.leaf l.row
