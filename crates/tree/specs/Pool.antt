-- The image of a forest in a pool's bytes, the forest that a pool's bytes hold, and what a sound pool is. Assumes nothing.
use Rattle.std.specs.Prelude.{ℕ, zero, suc, ◌+◌, ◌*◌, ◌≤◌, ◌≡◌, cond, List, [], ◌∷◌, ◌++◌, map, length, eqb}
use Rattle.words.specs.Words.{words, bytes_of}
use Rattle.slots_raw.specs.declared.Row.{Row}
use Rattle.slots_raw.specs.Slots.{width, head_len, raw_at}
use Rattle.slots_pool.specs.Header.{layout_number, layout_of, settings_of, header_of, Reserved}
use Rattle.slots.specs.Nodes.{unused_kind, leaf_kind, interior_kind, node_seen, nodes, nth, unused, Canon}
use Rattle.slots.specs.Nodes as S
use Rattle.slots_pool.specs.Image.{image}
use Rattle.model.specs.declared.PoolSettings.{PoolSettings}
use Rattle.model.specs.declared.Settings.{Settings}
use Rattle.model.specs.Lists.{up_from, All}
use Rattle.model.specs.Tree.{Tree, Index, depth, entries_of, slots_of, greatest_key, total}
use Rattle.model.specs.Sound.{rows_for, root_for, handed, PoolLimits, Whole, Rooted, Sorted, Fits, Once}
use Rattle.model.specs.Forest.{Forest, planted_of, tree_of}
use Rattle.tree.specs.Bridge.{Cell, cells, child_of, child_totals, tree_at, unused_of}

-- THE EXACT LENGTH of a pool, in bytes
abbrev pub pool_len : PoolSettings → ℕ
pool_len given = 8 * (head_len + given.nodes * width (rows_for given))

-- THE IMAGE of a forest

-- the node that some cells put into slot s
abbrev pub node_in : List Cell → ℕ → S.Node
node_in [] s = unused
node_in (c ∷ cs) s = cond (eqb s c.slot) c.node (node_in cs s)

-- every node of a tree, with its slot
abbrev pub tree_cells : Index → List Cell
tree_cells x = cells (suc x.height) x.root

-- of both trees, as the first one sees them
abbrev pub seen_cell : Cell → Cell
seen_cell c = record { slot = c.slot; node = node_seen 1 c.node }

abbrev pub forest_cells : Forest → List Cell
forest_cells f = tree_cells (tree_of 0 f) ++ map seen_cell (tree_cells (tree_of 1 f))

abbrev pub nodes_of : ℕ → Forest → List S.Node
nodes_of n f = map (node_in (forest_cells f)) (up_from 0 n)

-- the words of its pool, header and nodes; and the bytes
abbrev pub words_of : PoolSettings → Forest → List ℕ
words_of given f = header_of given ++ image 0 (rows_for given) (nodes_of given.nodes f)

abbrev pub image_of : PoolSettings → Forest → List ℕ
image_of given f = bytes_of (words_of given f)

-- THE FOREST that a pool holds

abbrev pub first_child : List Row → ℕ
first_child [] = 0
first_child (r ∷ rs) = child_of r

-- how many interiors there are down the left edge from slot s, at most so many
abbrev pub height_at : List S.Node → ℕ → ℕ → ℕ
height_at ns zero s = 0
height_at ns (suc most) s = cond (eqb (nth ns s).kind interior_kind) (suc (height_at ns most (first_child (nth ns s).rows))) 0

-- of the root in some slot; a tree that is deeper than 8 is seen as one of depth 9
abbrev pub index_in : ℕ → List S.Node → Index
index_in root ns = record { height = height_at ns 8 root; root = tree_at ns (height_at ns 8 root) root; unused = unused_of ns }

-- the settings that it was opened with, and those that the layers are handed of tree i
abbrev pub given_in : List ℕ → PoolSettings
given_in l = settings_of (words l)

abbrev pub settings_in : List ℕ → ℕ → Settings
settings_in l i = handed (given_in l) i

-- its nodes as tree i sees them
abbrev pub nodes_in : List ℕ → ℕ → List S.Node
nodes_in l i = nodes (settings_in l i) (words l)

-- tree i
abbrev pub index_of : List ℕ → ℕ → Index
index_of l i = index_in (root_for i) (nodes_in l i)

abbrev pub forest_of : List ℕ → Forest
forest_of l = record { first = planted_of (index_of l 0); second = planted_of (index_of l 1); unused = unused_of (nodes_in l 0) }

-- A SOUND POOL: document 01's list, in its order

-- the nodes of height 0 are leaves, those above interiors
abbrev pub Kinds : List S.Node → (h : ℕ) → ℕ → Type 0
Kinds ns zero s = (nth ns s).kind ≡ leaf_kind
Kinds ns (suc h) s = ((nth ns s).kind ≡ interior_kind) × All (λ r. Kinds ns h (child_of r)) (nth ns s).rows

-- P holds of every interior row and the child that it names
abbrev pub EachChild : ((h : ℕ) → Row → Tree h → Type 0) → List S.Node → (h : ℕ) → ℕ → Type 0
EachChild P ns zero s = Unit {0}
EachChild P ns (suc h) s = All (λ r. P h r (tree_at ns h (child_of r)) × EachChild P ns h (child_of r)) (nth ns s).rows

abbrev pub Separates : (h : ℕ) → Row → Tree h → Type 0
Separates h r c = r.key ≡ greatest_key (suc h) c

abbrev pub Totalled : (h : ℕ) → Row → Tree h → Type 0
Totalled h r c = child_totals r ≡ total (suc h) c

-- a slot has zeros past its rows, and nothing but zeros if it is unused
pub record Zeros (st : Settings) (W : List ℕ) (s : ℕ) : Type 0 where
  pub tail : Canon st.rows (raw_at st W s)
  pub whole : (nth (nodes st W) s).kind ≡ unused_kind → nth (nodes st W) s ≡ unused

-- of a tree with the settings st, whose nodes, as it sees them, are ns
pub record SoundNodes (st : Settings) (ns : List S.Node) : Type 0 where
  -- leaves share one depth, at most 8
  pub kinds : Kinds ns (index_in st.root ns).height st.root
  pub shallow : depth (index_in st.root ns) ≤ 8
  -- a leaf root holds 0 to order entries, an interior root 2 to order, any other node 1 to order
  pub rooted : Rooted st (index_in st.root ns).height (index_in st.root ns).root
  pub whole : All (Whole st (index_in st.root ns).height) (index_in st.root ns).root.items
  -- keys strictly ascend over the whole walk; a size is of 4 bytes, though its word has 8
  pub sorted : Sorted (entries_of (index_in st.root ns))
  pub fit : All Fits (entries_of (index_in st.root ns))
  -- each separator is its child's greatest key
  pub separators : EachChild Separates ns (index_in st.root ns).height st.root
  -- stored totals are right
  pub totals : EachChild Totalled ns (index_in st.root ns).height st.root

-- of a pool's bytes
pub record SoundPool (l : List ℕ) : Type 0 where
  pub layout : layout_of (words l) ≡ layout_number
  pub reserved : Reserved (words l)
  -- the settings are in limits, and the length is exact
  pub settings : PoolLimits (given_in l)
  pub exact : length l ≡ pool_len (given_in l)
  -- each node in use is reached once from one root, and no unused one is
  pub once : Once (given_in l).nodes (slots_of (index_of l 0) ++ slots_of (index_of l 1)) (unused_of (nodes_in l 0))
  pub trees : (i : ℕ) → SoundNodes (settings_in l i) (nodes_in l i)
  -- unused slots, and what is past a node's rows, are all zero
  pub zeros : (s : ℕ) → Zeros (settings_in l 0) (words l) s
