-- The index at the root of a pool, and what the functions on the root make of it. Assumes nothing.
use Rattle.std.specs.Prelude.{ℕ, List, [], ◌∷◌, set}
use Rattle.slots.specs.Nodes.{interior_kind, nth, put2, with_rows}
use Rattle.slots.specs.Nodes as S
use Rattle.model.specs.Tree.{Index, release}
use Rattle.model.specs.Change.{collapse}
use Rattle.tree.specs.Bridge.{tree_at, unused_of}
use Rattle.batch_share.specs.Children.{child_at}
use Rattle.tree_node.specs.Ask.{row_over}

-- the index of height h that the nodes hold, with its root in some slot
abbrev pub index_at : ℕ → List S.Node → ℕ → Index
index_at root ns h = record { height = h; root = tree_at ns h root; unused = unused_of ns }

-- the rows of the root in a new node of its kind
abbrev pub moved : ℕ → List S.Node → ℕ → List S.Node
moved root ns new = put2 ns new (nth ns root) root (with_rows (nth ns root) [])

-- the root as the parent of two nodes of height h
abbrev pub crowned : ℕ → List S.Node → ℕ → ℕ → ℕ → List S.Node
crowned root ns h lower upper =
    set ns root (record { kind = interior_kind; rows = row_over h lower (nth ns lower).rows ∷ row_over h upper (nth ns upper).rows ∷ [] })

-- the root with the items of its one child, of height h ..
abbrev pub lifted : ℕ → List S.Node → ℕ → Index
lifted root ns h =
    let c = child_at ns h root 0 in
    record { height = h; root = record { slot = root; items = c.items }; unused = release c.slot (unused_of ns) }

-- .. as long as there is one
abbrev pub collapsed : Index → Index
collapsed x = collapse x.height x.root.slot x.root.items x.unused
