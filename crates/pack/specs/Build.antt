-- The entries of the source, the pieces of them that are built, and the nodes that this puts into slots. Assumes nothing.
use Rattle.std.specs.Prelude.{ℕ, suc, List, [], ◌∷◌, ◌++◌, take, drop}
use Rattle.slots.specs.Nodes.{nodes, nth}
use Rattle.slots.specs.Nodes as S
use Rattle.model.specs.declared.Entry.{Entry}
use Rattle.model.specs.declared.Settings.{Settings}
use Rattle.model.specs.Tree.{Tree, entries}
use Rattle.model_pack.specs.Pack.{packed}
use Rattle.tree.specs.Bridge.{kind_for, tree_at}
use Rattle.tree_node.specs.Ask.{row_over}
use Rattle.pack.specs.declared.Source.{Source}
use Rattle.pack.specs.declared.Piece.{Piece}

-- the entries of the source's tree
abbrev pub entries_in : Source → List ℕ → List Entry
entries_in k U = entries (suc k.height) (tree_at (nodes k.settings U) k.height k.settings.root)

-- those of a piece
abbrev pub taken : List Entry → Piece → List Entry
taken es p = take p.count (drop p.from es)

-- the packed tree of height h over these
abbrev pub tree_for : Settings → List Entry → (h : ℕ) → Piece → Tree h
tree_for st es h p = packed st.order h p.slot p.next (taken es p)

-- a node of height h that has no rows yet
abbrev pub bare : ℕ → S.Node
bare h = record { kind = kind_for h; rows = [] }

-- the nodes with the row of node `child`, of height `below`, behind the rows of node s
abbrev pub hung : List S.Node → ℕ → ℕ → ℕ → List S.Node
hung ns below s child = S.put_rows ns s ((nth ns s).rows ++ (row_over below child (nth ns child).rows ∷ []))
