-- One batch on the index that a pool holds: the model's `batch`. Assumes nothing.
use Rattle.std.specs.Prelude.{ℕ, ◌≡◌, List}
use Rattle.slots_raw.specs.Slots.{head_in}
use Rattle.slots.specs.Nodes.{Held, nodes}
use Rattle.model.specs.declared.Settings.{Settings}
use Rattle.model.specs.Tree.{Index, slots_of}
use Rattle.model.specs.Change.{Batched, batch}
use Rattle.model.specs.Refuse.{Call, tasks_of, refusal}
use Rattle.model.specs.Sound.{Sound}
use Rattle.model.specs.Demands.{Lent}
use Rattle.tree.specs.Bridge.{HoldsIndex, Frame}
use Rattle.tree_spare.specs.Spared.{Spared}
use Rattle.batch_root.specs.declared.Root.{Root}
use Rattle.batch_root.specs.Roots.{index_at}
use Rattle.batch.specs.declared.Ran.{Ran}

-- a batch that is not refused, of a sound index beside some slots that are in use elsewhere
pub record ToBatch (st : Settings) (W : List ℕ) (root : Root) (c : Call) : Type 0 where
  pub held : Held st W
  pub holds : HoldsIndex (nodes st W) (index_at st.root (nodes st W) root.height)
  pub elsewhere : List ℕ
  pub sound : Sound st elsewhere (index_at st.root (nodes st W) root.height)
  pub spared : Spared (nodes st W) root.spare
  pub lent : Lent c
  pub accepted : refusal st c (index_at st.root (nodes st W) root.height) ≡ 0

-- the pool holds the model's index, every slot in use outside the index before is as it was, and the answer is of it
pub record IndexChanged (st : Settings) (W W' : List ℕ) (x : Index) (b : Batched) (r : Ran) : Type 0 where
  pub held : Held st W'
  pub header : head_in W' ≡ head_in W
  pub holds : HoldsIndex (nodes st W') b.index
  pub frame : Frame (nodes st W) (nodes st W') (slots_of x)
  pub counts : r.counts ≡ b.counts
  pub height : r.root.height ≡ b.index.height
  pub spared : Spared (nodes st W') r.root.spare

abbrev pub Changed : Settings → List ℕ → List ℕ → ℕ → Call → Ran → Type 0
Changed st W W' h c r = let x = index_at st.root (nodes st W) h in IndexChanged st W W' x (batch st (tasks_of c) x) r
