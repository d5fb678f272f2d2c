-- From nodes back to words: header and nodes determine every word of a pool. Assumes nothing.
use Rattle.std.specs.Prelude.{ℕ, ◌-◌, List, [], ◌∷◌, ◌++◌, replicate}
use Rattle.slots_raw.specs.declared.Row.{Row}
use Rattle.slots_raw.specs.Slots.{Raw, viewed}
use Rattle.slots.specs.Nodes.{Node, leaf_kind, unused, node_seen, raw_for}

-- the words of some rows
unfoldable pub flat_rows : List Row → List ℕ
flat_rows [] = []
flat_rows (r ∷ l) = r.key ∷ r.body ∷ r.size ∷ flat_rows l

-- the words of a slot
unfoldable pub block : Raw → List ℕ
block r = r.kind ∷ r.count ∷ flat_rows r.cells

-- the words of some nodes, slot after slot, each with room for m rows. The nodes are those that the tree with its root in slot `root` sees.
unfoldable pub image : ℕ → ℕ → List Node → List ℕ
image root m [] = []
image root m (n ∷ ns) = block (viewed root (raw_for m n)) ++ image root m ns

-- the n nodes of a pool that was just opened, as its first tree sees them: an empty leaf of each tree in slots 0 and 1, and every other slot unused
abbrev pub empty_leaf : Node
empty_leaf = record { kind = leaf_kind; rows = [] }

abbrev pub new_nodes : ℕ → List Node
new_nodes n = empty_leaf ∷ node_seen 1 empty_leaf ∷ replicate (n - 2) unused
