-- Two trees in one pool, over one set of unused slots (document 02, A4): the forest, what a sound one is, and a batch on one of its trees. A tree is
-- named by its number, 0 or 1. Assumes nothing.
use Rattle.std.specs.Prelude.{cond, List, [], ℕ, zero, suc, ◌-◌, ltb}
use Rattle.model.specs.declared.PoolSettings.{PoolSettings}
use Rattle.model.specs.Lists.{up_from}
use Rattle.model.specs.Tree.{Tree, Index, slots_of}
use Rattle.model.specs.Change.{Batched, batch}
use Rattle.model.specs.Answer.{Answer, refused, done, unless}
use Rattle.model.specs.Refuse.{Call, tasks_of, refusal}
use Rattle.model.specs.Sound.{handed, PoolLimits, Sound}

-- THE FOREST

-- a tree without the unused slots
pub record Planted : Type 0 where
  pub height : ℕ
  pub root : Tree height

pub record Forest : Type 0 where
  pub first : Planted
  pub second : Planted
  pub unused : List ℕ

abbrev pub planted : ℕ → Forest → Planted
planted zero f = f.first
planted (suc i) f = f.second

-- a planted tree with some unused slots
abbrev pub index_with : Planted → List ℕ → Index
index_with p us = record { height = p.height; root = p.root; unused = us }

-- tree i, with the forest's unused slots
abbrev pub tree_of : ℕ → Forest → Index
tree_of i f = index_with (planted i f) f.unused

abbrev pub other : ℕ → ℕ
other zero = 1
other (suc i) = 0

-- the slots that are in use outside tree i
abbrev pub elsewhere : ℕ → Forest → List ℕ
elsewhere i f = slots_of (tree_of (other i) f)

-- the tree of an index without its unused slots
abbrev pub planted_of : Index → Planted
planted_of x = record { height = x.height; root = x.root }

-- x in the place of tree i, with its unused slots; the other tree as it was
abbrev pub replant : ℕ → Index → Forest → Forest
replant zero x f = record { first = planted_of x; second = f.second; unused = x.unused }
replant (suc i) x f = record { first = f.first; second = planted_of x; unused = x.unused }

-- an empty leaf in slot s
abbrev pub bare_leaf : ℕ → Planted
bare_leaf s = record { height = zero; root = record { slot = s; items = [] } }

-- a new pool of n nodes is two empty leaves, in slots 0 and 1
abbrev pub new_forest : ℕ → Forest
new_forest n = record { first = bare_leaf 0; second = bare_leaf 1; unused = up_from 2 (n - 2) }

-- each tree is sound beside the other
pub record SoundForest (g : PoolSettings) (f : Forest) : Type 0 where
  pub limits : PoolLimits g
  pub trees : (i : ℕ) → Sound (handed g i) (elsewhere i f) (tree_of i f)

-- CALLS

-- 19, the number of a tree is not 0 or 1, stands before every other refusal of a call that names tree i
abbrev pub named : {A : Type 0} → ℕ → Answer A → Answer A
named i a = cond (ltb i 2) a (refused 19)

-- so before 3 to 7 of a batch
abbrev pub refusal_at : PoolSettings → ℕ → Call → Forest → ℕ
refusal_at g i c f = cond (ltb i 2) (refusal (handed g i) c (tree_of i f)) 19

-- what it does where it is not refused
abbrev pub batch_at : PoolSettings → ℕ → Call → Forest → Batched
batch_at g i c f = batch (handed g i) (tasks_of c) (tree_of i f)

abbrev pub answer_at : PoolSettings → ℕ → Call → Forest → Answer Batched
answer_at g i c f =
    let b = batch_at g i c f in
    unless (refusal_at g i c f) b

-- a refused call leaves the forest as it was
abbrev pub forest_after : ℕ → Forest → Answer Batched → Forest
forest_after i f (refused n) = f
forest_after i f (done b) = replant i b.index f
