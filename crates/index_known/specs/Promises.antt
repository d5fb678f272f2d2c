-- What is known of a tree of a pool, and so. Assumes nothing.
use Rattle.std.specs.Prelude.{ℕ, List}
use Rattle.tree.specs.Pool.{nodes_in}
use Rattle.tree_spare.specs.Spared.{Spared}
use Rattle.tree.specs.Promises.{InPool}
use Rattle.index_known.specs.declared.Known.{Known}

-- a tree's number is the slot of its root: so it is 0 or 1, since the settings are the tree's own
pub record Knows (l : List ℕ) (k : Known) : Type 0 where
  pub pool : InPool l k.settings k.height
  pub spared : Spared (nodes_in l k.settings.root) k.spare
