-- Packing two trees into one pool (document 02, A1 as A4 amends it): tree 0 first, then tree 1; the call; and what is demanded of it.
-- proofs/PackForest.antt proves the statements here. Assumes nothing.
use Rattle.std.specs.Prelude.{◌≡◌, ◌≢◌, Bool, true, ◌&&◌, ◌||◌, not, cond, List, ◌∷◌, ℕ, suc, ◌+◌, ◌-◌, ◌≤◌, length, ltb}
use Rattle.model.specs.declared.Entry.{Entry}
use Rattle.model.specs.declared.PoolSettings.{PoolSettings}
use Rattle.model.specs.declared.Settings.{Settings}
use Rattle.model.specs.Lists.{up_from}
use Rattle.model.specs.Tree.{Index, entries_of, slots_of}
use Rattle.model.specs.Answer.{Answer, done, unless}
use Rattle.model.specs.Frame.{nodes_in}
use Rattle.model_pack.specs.Pack.{height_for, packed, differ, is_new}
use Rattle.model_pack.specs.Packing.{level, Full, Over, Least}
use Rattle.model.specs.Sound.{handed, PoolLimits}
use Rattle.model.specs.Forest.{Planted, Forest, tree_of, new_forest, SoundForest}

-- THE FOREST

-- some entries as a tree whose levels are full: its root in its slot, its other nodes in those from i on
abbrev pub packed_tree : Settings → ℕ → List Entry → Planted
packed_tree st i es =
    let h = height_for st.order (length es) in
    record { height = h; root = packed st.order h st.root i es }

-- how many nodes a tree has
abbrev pub node_count : Planted → ℕ
node_count p = nodes_in (suc p.height) p.root

-- tree 0's other nodes come straight after the roots, and then tree 1's
abbrev pub packed_forest : PoolSettings → List Entry → List Entry → Forest
packed_forest g es fs =
    let p = packed_tree (handed g 0) 2 es in
    let q = packed_tree (handed g 1) (node_count p + 1) fs in
    let k = node_count p + node_count q in
    record { first = p; second = q; unused = up_from k (g.nodes - k) }

-- how many nodes both trees have together
abbrev pub nodes_used : Forest → ℕ
nodes_used f = node_count f.first + node_count f.second

-- THE CALL

-- a new pool is two empty leaves
abbrev pub is_new_forest : Forest → Bool
is_new_forest f = is_new (tree_of 0 f) && is_new (tree_of 1 f)

-- the order or the minimum of either tree differs
abbrev pub forests_differ : PoolSettings → PoolSettings → Bool
forests_differ g u = differ g.first u.first || differ g.second u.second

-- the packed forest of a source f, in a pool of the settings u
abbrev pub packed_from : PoolSettings → Forest → Forest
packed_from u f = packed_forest u (entries_of (tree_of 0 f)) (entries_of (tree_of 1 f))

-- The first of 17, 18 and 7 that applies to a source f and a target y, of the settings g and u; 0 where none does.
abbrev pub pack_forest_refusal : PoolSettings → PoolSettings → Forest → Forest → ℕ
pack_forest_refusal g u f y =
    cond (forests_differ g u) 17
    (cond (not (is_new_forest y)) 18
    (cond (ltb u.nodes (nodes_used (packed_from u f))) 7 0))

-- what becomes of the target
abbrev pub pack_forest : PoolSettings → PoolSettings → Forest → Forest → Answer Forest
pack_forest g u f y = unless (pack_forest_refusal g u f y) (packed_from u f)

-- WHAT PACKING SHOULD GIVE

-- of a tree of order o over some entries, with its root in slot s and its other nodes in those from i on
pub record IsPackedTree (o s i : ℕ) (es : List Entry) (x : Index) : Type 0 where
  -- the same entries in the same order
  pub same : entries_of x ≡ es
  -- in each level every node is full but the last one
  pub full : (j : ℕ) → Full o (level j x)
  -- slots go out in preorder
  pub preorder : slots_of x ≡ s ∷ up_from i (length (slots_of x) - 1)

-- of two: the second's nodes come after the first's
pub record IsPackedForest (g : PoolSettings) (es fs : List Entry) (f : Forest) : Type 0 where
  pub first : IsPackedTree g.first.order 0 2 es (tree_of 0 f)
  pub second : IsPackedTree g.second.order 1 (length (slots_of (tree_of 0 f)) + 1) fs (tree_of 1 f)

pub record PacksForest (g : PoolSettings) (es fs : List Entry) : Type 0 where
  pub packed : IsPackedForest g es fs (packed_forest g es fs)
  -- no sound tree of that order over these entries is smaller
  pub least_first : Least g.first.order es (tree_of 0 (packed_forest g es fs))
  pub least_second : Least g.second.order fs (tree_of 1 (packed_forest g es fs))
  -- where the pool has nodes enough, it is sound
  pub sound : nodes_used (packed_forest g es fs) ≤ g.nodes → SoundForest g (packed_forest g es fs)
  -- and no other sound forest over these entries is packed
  pub only : (z : Forest) → SoundForest g z → IsPackedForest g es fs z → z ≡ packed_forest g es fs

-- of the entries of two sound trees x and y of these orders, wherever they stand
abbrev pub PackingForest : Type 0
PackingForest =
    (g : PoolSettings) (es fs : List Entry) (x y : Index) → PoolLimits g → Over g.first.order es x → Over g.second.order fs y
    → PacksForest g es fs

-- so what becomes of a target that is not refused is sound, and packed over the source's entries, tree by tree
abbrev pub PackForestDone : Type 0
PackForestDone =
    (g u : PoolSettings) (f y z : Forest) → SoundForest g f → SoundForest u y → pack_forest g u f y ≡ done z
    → SoundForest u z × IsPackedForest u (entries_of (tree_of 0 f)) (entries_of (tree_of 1 f)) z

-- a target with as many nodes as the source is never refused for room
abbrev pub PackForestRoom : Type 0
PackForestRoom = (g u : PoolSettings) (f y : Forest) → SoundForest g f → g.nodes ≤ u.nodes → pack_forest_refusal g u f y ≢ 7

-- A NEW POOL: the sound forests of two empty leaves are what opening makes
abbrev pub NewForestIs : Type 0
NewForestIs = (g : PoolSettings) (y : Forest) → SoundForest g y → is_new_forest y ≡ true → y ≡ new_forest g.nodes

abbrev pub NewForestIsNew : Type 0
NewForestIsNew = (n : ℕ) → is_new_forest (new_forest n) ≡ true
