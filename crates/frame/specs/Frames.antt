-- What a frame says of a row of a node, and of a tree. Assumes nothing.
use Rattle.std.specs.Prelude.{ℕ, zero, suc, ◌+◌, List}
use Rattle.slots_raw.specs.declared.Row.{Row}
use Rattle.slots.specs.Nodes as S
use Rattle.model.specs.Tree.{Item, Tree}
use Rattle.model.specs.Frame.{Frame, leaf, interior, branches}
use Rattle.tree.specs.Bridge.{entry_of, child_of, child_totals, tree_at}
use Rattle.frame_text.specs.declared.Kind.{Kind}
use Rattle.frame_text.specs.declared.Kind.TheVariants.{Leaf, Interior}
use Rattle.frame_text.specs.declared.FrameEntry.{FrameEntry}
use Rattle.frame_text.specs.Contents.{of_entry, of_branch}

-- ROWS

-- the item of level h that a row says: an entry, or the tree in the slot that the row names
abbrev pub item_at : List S.Node → (h : ℕ) → Row → Item h
item_at ns zero r = entry_of r
item_at ns (suc h) r = tree_at ns h (child_of r)

-- the frame's entry of a row in a node of height h; a child has the number n
abbrev pub entry_for : ℕ → Row → ℕ → FrameEntry
entry_for zero r n = of_entry (entry_of r)
entry_for (suc h) r n = of_branch (record { key = r.key; child = n; totals = child_totals r })

-- TREES

-- the kind of a tree's root
abbrev pub kind_at : ℕ → Kind
kind_at zero = Leaf
kind_at (suc h) = Interior

-- the frame of a tree's root, whose number is i
abbrev pub frame_at : (h : ℕ) → ℕ → Tree h → Frame
frame_at zero i n = leaf n.items
frame_at (suc h) i n = interior (branches (suc h) (i + 1) n.items)
