-- What the walk over a tree tests, node by node, and what it has found when it comes back from one. Assumes nothing.
use Rattle.std.specs.Prelude.{ℕ, suc, ◌+◌, ◌-◌, ◌≤◌, ◌<◌, ◌≡◌, List, length, Option, Some, is_some}
use Rattle.slots_raw.specs.declared.Row.{Row}
use Rattle.slots_raw.specs.Slots.{raw_at}
use Rattle.slots.specs.Nodes.{nodes, nth, rows_at, Canon}
use Rattle.model.specs.declared.Settings.{Settings}
use Rattle.model.specs.Answer.{Tells}
use Rattle.model.specs.Lists.{All}
use Rattle.model.specs.Tree.{len, entries, slots, slots_of, total}
use Rattle.model.specs.Sound.{Whole, Sorted, Fits}
use Rattle.tree.specs.Bridge.{kind_for, child_of, child_totals, entry_of, tree_at}
use Rattle.tree.specs.Pool.{index_in, Kinds, EachChild, Separates, Totalled, SoundNodes}
use Rattle.survey_node.specs.declared.Part.{Part}
use Rattle.survey_node.specs.Parts.{after, Beyond}

-- A NODE

-- slot s is there, with a node of height h
pub record There (st : Settings) (W : List ℕ) (h s : ℕ) : Type 0 where
  pub slot : s < st.nodes
  pub kind : (nth (nodes st W) s).kind ≡ kind_for h

-- each of some rows names a node of height h
abbrev pub EachThere : Settings → List ℕ → ℕ → List Row → Type 0
EachThere st W h rs = All (λ r. There st W h (child_of r)) rs

-- what is tested before its rows are: a walk that may open `left` more nodes comes to slot s, where a node of height h with `least` items or more is to be
pub record Head (st : Settings) (W : List ℕ) (h s least left : ℕ) : Type 0 where
  pub there : There st W h s
  pub some : least ≤ length (rows_at st W s)
  pub few : length (rows_at st W s) ≤ st.order
  pub opens : 0 < left

-- what is tested of an interior before the walk goes down from it: each of its rows names a node one level below
pub record Opened (st : Settings) (W : List ℕ) (h s least left : ℕ) : Type 0 where
  pub head : Head st W h s least left
  pub children : EachThere st W (h - 1) (rows_at st W s)

-- nothing but zeros is past the rows of slot s
abbrev pub Tail : Settings → List ℕ → ℕ → Type 0
Tail st W s = Canon st.rows (raw_at st W s)

-- the tree of height h in slot s is as in a sound pool, its keys are above p, and it has at most `left` nodes
pub record Right (st : Settings) (W : List ℕ) (h s least : ℕ) (p : Option ℕ) (left : ℕ) : Type 0 where
  pub kinds : Kinds (nodes st W) h s
  pub some : least ≤ len (tree_at (nodes st W) h s)
  pub few : len (tree_at (nodes st W) h s) ≤ st.order
  pub whole : All (Whole st h) (tree_at (nodes st W) h s).items
  pub sorted : Sorted (entries (suc h) (tree_at (nodes st W) h s))
  pub beyond : All (Beyond p) (entries (suc h) (tree_at (nodes st W) h s))
  pub fit : All Fits (entries (suc h) (tree_at (nodes st W) h s))
  pub separators : EachChild Separates (nodes st W) h s
  pub totals : EachChild Totalled (nodes st W) h s
  pub tails : All (Tail st W) (slots (suc h) (tree_at (nodes st W) h s))
  pub most : length (slots (suc h) (tree_at (nodes st W) h s)) ≤ left

-- what is found of it: the last key, the tree's totals, and how many nodes may still be opened
pub record PartOf (st : Settings) (W : List ℕ) (h s : ℕ) (p : Option ℕ) (left : ℕ) (part : Part) : Type 0 where
  pub last : part.last ≡ after p (entries (suc h) (tree_at (nodes st W) h s))
  pub totals : part.totals ≡ total (suc h) (tree_at (nodes st W) h s)
  pub rest : part.left + length (slots (suc h) (tree_at (nodes st W) h s)) ≡ left

-- r tells whether it is; if so, what is found of it
pub record Checked (st : Settings) (W : List ℕ) (h s least : ℕ) (p : Option ℕ) (left : ℕ) (r : Option Part) : Type 0 where
  pub right : Tells (is_some r) (Right st W h s least p left)
  pub found : (part : Part) → r ≡ Some part → PartOf st W h s p left part

-- A ROW

-- a leaf's row: an entry of a sound pool, above p
pub record EntryRight (p : Option ℕ) (r : Row) : Type 0 where
  pub beyond : Beyond p (entry_of r)
  pub fits : Fits (entry_of r)

-- an interior's row, beside what the walk found of the child that it names
pub record RowRight (r : Row) (child : Part) : Type 0 where
  pub key : child.last ≡ Some r.key
  pub totals : child_totals r ≡ child.totals

-- A TREE, from its root

-- the nodes are sound, and each that is reached has zeros past its rows
pub record SoundTree (st : Settings) (W : List ℕ) : Type 0 where
  pub sound : SoundNodes st (nodes st W)
  pub tails : All (Tail st W) (slots_of (index_in st.root (nodes st W)))

-- a walk that may open `left` nodes comes through it
pub record Passable (st : Settings) (W : List ℕ) (left : ℕ) : Type 0 where
  pub tree : SoundTree st W
  pub most : length (slots_of (index_in st.root (nodes st W))) ≤ left

-- r tells whether it does; if so, how many nodes may still be opened
pub record Walked (st : Settings) (W : List ℕ) (left : ℕ) (r : Option ℕ) : Type 0 where
  pub passes : Tells (is_some r) (Passable st W left)
  pub rest : (n : ℕ) → r ≡ Some n → n + length (slots_of (index_in st.root (nodes st W))) ≡ left
