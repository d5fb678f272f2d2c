-- What the calls ask and promise, and what a key's way down a tree does. Assumes nothing.
use Rattle.std.specs.Prelude.{ℕ, zero, suc, ◌<◌, ◌≡◌, Bool, List, ◌≢◌, length}
use Rattle.model.specs.declared.Settings.{Settings}
use Rattle.model.specs.Look.{Listing}
use Rattle.look_output.specs.Output.{output_of}
use Rattle.slots.specs.Nodes.{nodes, Held}
use Rattle.model.specs.Lists.{All}
use Rattle.model.specs.Tree.{len, entries}
use Rattle.model.specs.Plain.{held}
use Rattle.model.specs.Sound.{Whole, Sorted}
use Rattle.tree.specs.Bridge.{Holds, tree_at}

-- THE CALLS

-- a listing stands in an output that was out₀: its entries in front, and every byte behind them as it was
pub record Written (g : Listing) (out₀ : List ℕ) (written : ℕ) (more : Bool) (out : List ℕ) : Type 0 where
  pub count : written ≡ length g.written
  pub due : more ≡ g.more
  pub bytes : out ≡ output_of g.written out₀

-- A KEY'S WAY DOWN a tree, to the leaf where it stands, if it is present

-- the tree of height h in slot s can be searched: the nodes hold it, an interior has a child, no node below is empty, and the keys ascend
pub record ToDescend (st : Settings) (W : List ℕ) (h s : ℕ) : Type 0 where
  pub pool : Held st W
  pub tree : Holds (nodes st W) h (tree_at (nodes st W) h s)
  pub some : h ≢ 0 → 0 < len (tree_at (nodes st W) h s)
  pub whole : All (Whole st h) (tree_at (nodes st W) h s).items
  pub sorted : Sorted (entries (suc h) (tree_at (nodes st W) h s))

-- from the tree in slot s a key leads to a leaf: it is held there exactly as it is held in the whole tree
pub record Led (st : Settings) (W : List ℕ) (h key s leaf : ℕ) : Type 0 where
  pub grown : ToDescend st W zero leaf
  pub same : held key (entries 1 (tree_at (nodes st W) zero leaf)) ≡ held key (entries (suc h) (tree_at (nodes st W) h s))
