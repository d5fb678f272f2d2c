-- What building a packed tree in the slots of a pool asks, and what it leaves. Assumes nothing.
use Rattle.std.specs.Prelude.{ℕ, suc, ◌+◌, ◌≤◌, ◌<◌, ◌≡◌, ◌≢◌, ◌⊎◌, List, [], map, length, take, drop, set}
use Rattle.slots_raw.specs.Slots.{head_in}
use Rattle.slots.specs.Nodes.{leaf_kind, nodes, nth, rows_at, unused, Held}
use Rattle.slots.specs.Promises.{NodesPut}
use Rattle.model.specs.declared.Entry.{Entry}
use Rattle.model.specs.declared.Settings.{Settings}
use Rattle.model.specs.Lists.{All}
use Rattle.model.specs.Tree.{Tree}
use Rattle.model.specs.Frame.{nodes_in}
use Rattle.model_pack.specs.Pack.{capacity}
use Rattle.model.specs.Sound.{Fits}
use Rattle.tree.specs.Bridge.{entry_row, tree_at, Holds}
use Rattle.tree.specs.Promises.{ToWeigh}
use Rattle.pack.specs.declared.Source.{Source}
use Rattle.pack.specs.declared.Piece.{Piece}
use Rattle.pack.specs.Build.{entries_in, tree_for, bare}

-- THE SOURCE

-- the entries of its tree can be read by rank, and what they add up to fits a row
pub record Readable (k : Source) (U : List ℕ) : Type 0 where
  pub held : Held k.settings U
  pub stands : Holds (nodes k.settings U) k.height (tree_at (nodes k.settings U) k.height k.settings.root)
  pub light : length (entries_in k U) < 1048576
  pub fit : All Fits (entries_in k U)

-- A PIECE of it

-- slot s has no rows yet, whatever its kind
pub record Empty (st : Settings) (W : List ℕ) (s : ℕ) : Type 0 where
  pub held : Held st W
  pub slot : s < st.nodes
  pub empty : rows_at st W s ≡ []

-- there are entries for the piece, a tree of height h can hold them, and its slots are free: its root's has no rows, and those of the other nodes are
-- unused
pub record ToBuild (st : Settings) (W : List ℕ) (k : Source) (U : List ℕ) (h : ℕ) (p : Piece) : Type 0 where
  pub root : Empty st W p.slot
  pub source : Readable k U
  pub within : p.from + p.count ≤ length (entries_in k U)
  pub tall : h ≤ 7
  pub fits : p.count ≤ capacity st.order h
  pub before : p.slot < p.next
  pub inside : p.next + nodes_in (suc h) (tree_for st (entries_in k U) h p) ≤ suc st.nodes
  pub free : (x : ℕ) → p.next ≤ x → suc x < p.next + nodes_in (suc h) (tree_for st (entries_in k U) h p) → nth (nodes st W) x ≡ unused

-- the pool holds the tree t, whose other nodes have the slots from `next` on; r is the first slot behind them, and no other slot has changed
pub record Built (st : Settings) (W W' : List ℕ) (h : ℕ) (t : Tree h) (next r : ℕ) : Type 0 where
  pub held : Held st W'
  pub header : head_in W' ≡ head_in W
  pub tree : Holds (nodes st W') h t
  pub others : (x : ℕ) → x ≢ t.slot → (x < next) ⊎ (r ≤ x) → nth (nodes st W') x ≡ nth (nodes st W) x
  pub end : suc r ≡ next + nodes_in (suc h) t

-- A LEAF

-- the slot is a leaf that has no rows yet, and there are entries for it
pub record ToFill (st : Settings) (W : List ℕ) (k : Source) (U : List ℕ) (p : Piece) : Type 0 where
  pub held : Held st W
  pub slot : p.slot < st.nodes
  pub leaf : nth (nodes st W) p.slot ≡ bare 0
  pub source : Readable k U
  pub within : p.from + p.count ≤ length (entries_in k U)
  pub fits : p.count ≤ st.order

-- slot s is a leaf of these entries, and no other slot has changed
abbrev pub Filled : Settings → List ℕ → List ℕ → ℕ → List Entry → ℕ → ℕ → Type 0
Filled st W W' s es from n = NodesPut st W W' (set (nodes st W) s (record { kind = leaf_kind; rows = map entry_row (take n (drop from es)) }))

-- A CHILD'S ROW

-- node s has i rows and room for another, and its child can be weighed
pub record ToHang (st : Settings) (W : List ℕ) (below s i child : ℕ) : Type 0 where
  pub weighs : ToWeigh st W below child
  pub slot : s < st.nodes
  pub rows : i ≡ length (rows_at st W s)
  pub room : i < st.rows
