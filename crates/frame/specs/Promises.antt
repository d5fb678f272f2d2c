-- What the preorder walk over a pool's slots relies on, and the node that it finds. Assumes nothing.
use Rattle.std.specs.Prelude.{ℕ, suc, ◌+◌, ◌≤◌, ◌<◌, ◌≡◌, List, length}
use Rattle.std.specs.declared.ops.ControlFlow.{ControlFlow}
use Rattle.std.specs.declared.ops.ControlFlow.TheVariants.{Continue, Break}
use Rattle.std.proofs.Math.Option.{some}
use Rattle.std.proofs.Math.ListN.{get_elem?}
use Rattle.slots.specs.Nodes.{Held, nodes, nth}
use Rattle.model.specs.declared.Settings.{Settings}
use Rattle.model.specs.Lists.{All}
use Rattle.model.specs.Tree.{entries, slots}
use Rattle.model.specs.Frame.{frames_from}
use Rattle.model.specs.Sound.{Fits}
use Rattle.tree.specs.Bridge.{tree_at, Holds}
use Rattle.frame.specs.declared.Stop.{Stop}
use Rattle.frame.specs.Frames.{frame_at}

-- in slot s stands a tree of height h, and all of it is right, as in a sound pool
pub record ToFind (st : Settings) (W : List ℕ) (h s : ℕ) : Type 0 where
  pub held : Held st W
  pub stands : Holds (nodes st W) h (tree_at (nodes st W) h s)
  pub low : All (λ x. x < st.nodes) (slots (suc h) (tree_at (nodes st W) h s))
  pub few : length (slots (suc h) (tree_at (nodes st W) h s)) ≤ 16384
  pub fit : All Fits (entries (suc h) (tree_at (nodes st W) h s))
  pub light : length (entries (suc h) (tree_at (nodes st W) h s)) < 1048576
  pub narrow : (x : ℕ) → length (nth (nodes st W) x).rows ≤ 32

-- the walk stops at node i of that tree in preorder, or goes on behind it with how many numbers are left where the tree has fewer
abbrev pub Located : Settings → List ℕ → ℕ → ℕ → ℕ → ControlFlow Stop ℕ → Type 0
Located st W h s i (Break node) =
    ToFind st W node.height node.slot × ((i < length (slots (suc h) (tree_at (nodes st W) h s)))
    × ((k : ℕ) → get_elem? (frames_from h k (tree_at (nodes st W) h s)) i
    ≡ some (frame_at node.height (k + i) (tree_at (nodes st W) node.height node.slot))))
Located st W h s i (Continue left) = i ≡ length (slots (suc h) (tree_at (nodes st W) h s)) + left
