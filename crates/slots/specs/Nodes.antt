-- The slots of a pool as nodes, a kind and a list of rows each; and a pool in order (`Held`), whose slots hold their node and zeros. Assumes nothing.
use Rattle.std.specs.Prelude.{ℕ, ◌+◌, ◌-◌, ◌≤◌, ◌≡◌, List, [], ◌++◌, map, length, take, drop, get_or, set, replicate}
use Rattle.model.specs.declared.Settings.{Settings}
use Rattle.slots_raw.specs.declared.Row.{Row}
use Rattle.slots_raw.specs.Slots.{blank, Raw, seen, slots, raw_at}
use Rattle.slots_raw.specs.Promises.{Shape}

-- ---- nodes

-- the kinds: of a slot that holds no node, of a leaf, of an interior node
abbrev pub unused_kind : ℕ
unused_kind = 0

abbrev pub leaf_kind : ℕ
leaf_kind = 1

abbrev pub interior_kind : ℕ
interior_kind = 2

pub record Node : Type 0 where
  pub kind : ℕ
  pub rows : List Row

-- an unused slot
abbrev pub unused : Node
unused = record { kind = unused_kind; rows = [] }

-- the node in a slot: the rows past the count are no rows of it
unfoldable pub node_of : Raw → Node
node_of r = record { kind = r.kind; rows = take r.count r.cells }

-- a node as the tree with its root in slot `root` sees it
abbrev pub node_seen : ℕ → Node → Node
node_seen root n = record { kind = seen root n.kind; rows = n.rows }

-- the nodes of a pool's words
unfoldable pub nodes : Settings → List ℕ → List Node
nodes st W = map node_of (slots st W)

-- node s of some nodes; an unused one past the end
abbrev pub nth : List Node → ℕ → Node
nth ns s = get_or ns s unused

-- the rows of node s of a pool's words
abbrev pub rows_at : Settings → List ℕ → ℕ → List Row
rows_at st W s = (nth (nodes st W) s).rows

-- ---- a pool in order

-- rows, and blank rows after them, m in all
unfoldable pub pad : ℕ → List Row → List Row
pad m l = l ++ replicate (m - length l) blank

-- the slot that holds a node, with room for m rows
unfoldable pub raw_for : ℕ → Node → Raw
raw_for m n = record { kind = n.kind; count = length n.rows; cells = pad m n.rows }

-- a slot holds its node and nothing else
pub record Canon (m : ℕ) (r : Raw) : Type 0 where
  pub fits : length (node_of r).rows ≤ m
  pub same : r ≡ raw_for m (node_of r)

-- every slot of a pool does
pub record Held (st : Settings) (W : List ℕ) : Type 0 where
  pub shape : Shape st W
  pub each : (s : ℕ) → Canon st.rows (raw_at st W s)

-- ---- one node changed

-- the nodes with other rows in node s
unfoldable pub put_rows : List Node → ℕ → List Row → List Node
put_rows ns s l = set ns s (record { kind = (nth ns s).kind; rows = l })

-- the nodes with another kind of node s
unfoldable pub put_kind : List Node → ℕ → ℕ → List Node
put_kind ns s k = set ns s (record { kind = k; rows = (nth ns s).rows })

-- l with `new` put in at place i
abbrev pub put_in : List Row → ℕ → List Row → List Row
put_in l i new = take i l ++ new ++ drop i l

-- l without the n rows from i on
abbrev pub without : List Row → ℕ → ℕ → List Row
without l i n = take i l ++ drop (i + n) l

-- ---- two nodes changed

-- the nodes with a for node t, and then b for node s
abbrev pub put2 : List Node → ℕ → Node → ℕ → Node → List Node
put2 ns t a s b = set (set ns t a) s b

-- a node with other rows
abbrev pub with_rows : Node → List Row → Node
with_rows n l = record { kind = n.kind; rows = l }

-- node s keeps its first k rows, and the others go to `new`, which gets the kind of s
abbrev pub split_nodes : List Node → ℕ → ℕ → ℕ → List Node
split_nodes ns s new k = let n = nth ns s in put2 ns new (with_rows n (drop k n.rows)) s (with_rows n (take k n.rows))

-- the first a rows of node s go to the end of node `prev`
abbrev pub back_nodes : List Node → ℕ → ℕ → ℕ → List Node
back_nodes ns prev s a =
    put2 ns prev (with_rows (nth ns prev) ((nth ns prev).rows ++ take a (nth ns s).rows)) s (with_rows (nth ns s) (drop a (nth ns s).rows))

-- the last a rows of node s go to the front of node `next`
abbrev pub forward_nodes : List Node → ℕ → ℕ → ℕ → List Node
forward_nodes ns s next a =
    let l = (nth ns s).rows in
    put2 ns next (with_rows (nth ns next) (drop (length l - a) l ++ (nth ns next).rows)) s (with_rows (nth ns s) (take (length l - a) l))

-- the rows of node `high` go to the end of node `low`, and `high` is unused
abbrev pub join_nodes : List Node → ℕ → ℕ → List Node
join_nodes ns low high = put2 ns low (with_rows (nth ns low) ((nth ns low).rows ++ (nth ns high).rows)) high unused
