-- What a sound index is: document 01's list, of trees. What it says of bytes (stored separators and totals, zeros) stands in crate tree.
-- Assumes nothing.
use Rattle.std.specs.Prelude.{◌≡◌, cond, List, ◌++◌, ℕ, zero, suc, ◌+◌, ◌*◌, ◌/◌, ◌^◌, ◌≤◌, ◌<◌, max, ltb}
use Rattle.model.specs.declared.Entry.{Entry}
use Rattle.model.specs.declared.Limits.{Limits}
use Rattle.model.specs.declared.PoolSettings.{PoolSettings}
use Rattle.model.specs.declared.Settings.{Settings}
use Rattle.model.specs.Lists.{All, Ordered, times}
use Rattle.model.specs.Frame.{Branch, Frame, leaf, interior}
use Rattle.model.specs.Tree.{Node, Item, Tree, Index, len, depth, entries_of, slots_of}

-- A POOL HAS TWO TREES, 0 and 1. A call refuses any other number before it looks, and so whatever is said here of 1 may be said of those above it too.

-- the limits of tree i
abbrev pub limits_for : PoolSettings → ℕ → Limits
limits_for given zero = given.first
limits_for given (suc i) = given.second

-- its root never moves
abbrev pub root_for : ℕ → ℕ
root_for zero = 0
root_for (suc i) = 1

-- a freed slot serves either tree, and so each has room for twice as many rows as the larger order. This is shut: what is used of it stands in
-- proofs/Layers.
unfoldable pub rows_for : PoolSettings → ℕ
rows_for given = 2 * max given.first.order given.second.order

-- what every layer is handed of tree i
abbrev pub handed : PoolSettings → ℕ → Settings
handed given i =
    record { nodes = given.nodes; order = (limits_for given i).order; minimum = (limits_for given i).minimum; rows = rows_for given; root = root_for i }

-- N is 8 to 16,384; order 4 to 32; minimum 1 up to (order + 1) / 2 rounded down
pub record InLimits (st : Settings) : Type 0 where
  pub many : 8 ≤ st.nodes
  pub bounded : st.nodes ≤ 16384
  pub wide : 4 ≤ st.order
  pub narrow : st.order ≤ 32
  pub some : 1 ≤ st.minimum
  pub least : st.minimum ≤ (st.order + 1) / 2

-- of both trees
abbrev pub PoolLimits : PoolSettings → Type 0
PoolLimits given = InLimits (handed given 0) × InLimits (handed given 1)

-- NODES

-- 1 to order items
pub record Stocked (st : Settings) {X : Type 0} (n : Node X) : Type 0 where
  pub some : 0 < len n
  pub few : len n ≤ st.order

-- every node of an item is stocked
abbrev pub Whole : Settings → (h : ℕ) → Item h → Type 0
Whole st zero e = Unit {0}
Whole st (suc h) n = Stocked st n × All (Whole st h) n.items

-- a leaf root holds 0 to order entries, an interior root 2 to order
abbrev pub Rooted : Settings → (h : ℕ) → Tree h → Type 0
Rooted st zero n = len n ≤ st.order
Rooted st (suc h) n = (2 ≤ len n) × (len n ≤ st.order)

-- KEYS

-- keys strictly ascend
abbrev pub Sorted : List Entry → Type 0
Sorted es = Ordered (λ e f. e.key < f.key) es

-- an entry has a key and a place of 8 bytes, and a size of 4
pub record Fits (e : Entry) : Type 0 where
  pub key : e.key < 2 ^ 64
  pub place : e.place < 2 ^ 64
  pub size : e.size < 2 ^ 32

-- an interior entry of a frame has 8 bytes of key, 4 each of child number, live and dead, and 8 of size sum
pub record BranchFits (b : Branch) : Type 0 where
  pub key : b.key < 2 ^ 64
  pub child : b.child < 2 ^ 32
  pub live : b.totals.live < 2 ^ 32
  pub dead : b.totals.dead < 2 ^ 32
  pub size : b.totals.size < 2 ^ 64

abbrev pub FrameFits : Frame → Type 0
FrameFits (leaf es) = All Fits es
FrameFits (interior bs) = All BranchFits bs

-- SLOTS

-- the unused ones ascend; that none is there twice, `Once` says
abbrev pub Ascending : List ℕ → Type 0
Ascending us = Ordered (λ u v. u ≤ v) us

-- each slot below n is used once or unused once, and no other is
abbrev pub Once : ℕ → List ℕ → List ℕ → Type 0
Once n used unused = (s : ℕ) → times s used + times s unused ≡ cond (ltb s n) 1 0

-- THE INDEX, in a pool that has some slots in use elsewhere
pub record Sound (st : Settings) (elsewhere : List ℕ) (x : Index) : Type 0 where
  pub settings : InLimits st
  pub root_slot : x.root.slot ≡ st.root
  pub once : Once st.nodes (elsewhere ++ slots_of x) x.unused
  pub shallow : depth x ≤ 8
  pub rooted : Rooted st x.height x.root
  pub whole : All (Whole st x.height) x.root.items
  pub sorted : Sorted (entries_of x)
  pub fit : All Fits (entries_of x)
  pub ascending : Ascending x.unused
