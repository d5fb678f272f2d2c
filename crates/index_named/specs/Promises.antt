-- What is found of the tree that a call names. Assumes nothing.
use Rattle.std.specs.Prelude.{ℕ, ◌≡◌, cond, List, ltb, Result, Ok}
use Rattle.model.specs.declared.Refusal.{Refusal}
use Rattle.model.specs.Answer.{code}
use Rattle.tree.specs.Pool.{nodes_in, SoundPool}
use Rattle.tree.specs.Promises.{InPool}
use Rattle.tree_spare.specs.Spared.{Spared}
use Rattle.index_promise.specs.Promise.{Where}
use Rattle.index_named.specs.declared.Named.{Named}

-- the pool is sound and has a tree i: its settings, which name it by its root, its height, and the unused slots as it sees them
pub record TreeFound (l : List ℕ) (i : ℕ) (r : Named) : Type 0 where
  pub number : r.settings.root ≡ i
  pub pool : InPool l r.settings r.height
  pub spared : Spared (nodes_in l i) r.spare

-- n is the refusal of a call that names tree i of the bytes l, or 0: 2 where they are no sound pool, and else 19 where i is not 0 or 1
abbrev pub Refused : List ℕ → ℕ → ℕ → Type 0
Refused l i n = Where (SoundPool l) (cond (ltb i 2) 0 19) 2 n

pub record Finds (l : List ℕ) (i : ℕ) (r : Result Named Refusal) : Type 0 where
  pub refusal : Refused l i (code r)
  pub tree : (t : Named) → r ≡ Ok t → TreeFound l i t
