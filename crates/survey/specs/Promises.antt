-- What the survey of a pool promises, and what the pass over its slots tells. Assumes nothing.
use Rattle.std.specs.Prelude.{ℕ, zero, suc, ◌≡◌, true, List, length, Option, Some, is_some}
use Rattle.words.specs.Words.{words}
use Rattle.model.specs.Answer.{Tells}
use Rattle.model.specs.Sound.{PoolLimits}
use Rattle.slots_pool.specs.Header.{layout_number, layout_of, Reserved}
use Rattle.tree.specs.Pool.{pool_len, given_in, nodes_in, index_of, SoundPool}
use Rattle.tree_spare.specs.declared.Spare.{Spare}
use Rattle.tree_spare.specs.Spared.{Spared}
use Rattle.slots_raw.specs.Slots.{raw_at}
use Rattle.slots.specs.Nodes.{unused_kind, nodes, nth, unused, raw_for}
use Rattle.model.specs.declared.Settings.{Settings}
use Rattle.survey.specs.declared.Findings.{Findings}

-- THE SURVEY

-- what is found of the sound pool l: its settings, the heights of its trees, and its unused slots
pub record Found (l : List ℕ) (f : Findings) : Type 0 where
  pub given : f.given ≡ given_in l
  pub first : f.first ≡ (index_of l 0).height
  pub second : f.second ≡ (index_of l 1).height
  pub spared : Spared (nodes_in l 0) f.spare

-- Any bytes l are surveyed: r is the answer.
pub record Surveyed (l : List ℕ) (r : Option Findings) : Type 0 where
  pub sound : Tells (is_some r) (SoundPool l)
  pub found : (f : Findings) → r ≡ Some f → Found l f

-- the height of tree i, as it was found
abbrev pub height_for : ℕ → Findings → ℕ
height_for zero r = r.first
height_for (suc i) r = r.second

-- what the header and the length say of a sound pool
pub record Headed (l : List ℕ) : Type 0 where
  pub layout : layout_of (words l) ≡ layout_number
  pub reserved : Reserved (words l)
  pub settings : PoolLimits (given_in l)
  pub exact : length l ≡ pool_len (given_in l)

-- THE PASS OVER THE SLOTS

-- an unused slot has nothing but zeros
abbrev pub Idle : Settings → List ℕ → ℕ → Type 0
Idle st W s = (nth (nodes st W) s).kind ≡ unused_kind → raw_at st W s ≡ raw_for st.rows unused

-- r tells whether every unused slot is so; if so, which they are
pub record SlotsTold (st : Settings) (W : List ℕ) (r : Option Spare) : Type 0 where
  pub idle : Tells (is_some r) ((s : ℕ) → Idle st W s)
  pub spared : (spare : Spare) → r ≡ Some spare → Spared (nodes st W) spare
