-- A model tree in a pool: which node stands in which slot, the tree that is read off the nodes, and nodes that hold an index. Assumes nothing.
use Rattle.std.specs.Prelude.{ℕ, zero, suc, ◌+◌, ◌*◌, ◌/◌, ◌%◌, ◌≤◌, ◌≡◌, ◌≢◌, cond, List, [], ◌∷◌, map, eqb}
use Rattle.slots_raw.specs.declared.Row.{Row}
use Rattle.slots.specs.Nodes.{leaf_kind, interior_kind, unused_kind, nth, unused}
use Rattle.slots.specs.Nodes as S
use Rattle.model.specs.declared.Totals.{Totals}
use Rattle.model.specs.declared.Entry.{Entry}
use Rattle.model.specs.Lists.{concat, times, All}
use Rattle.model.specs.Tree.{Item, Tree, Index, greatest_key, adds, total, slots}
use Rattle.model.specs.Sound.{root_for}
use Rattle.model.specs.Forest.{Forest, planted}

-- ROWS AND NODES

abbrev pub kind_for : ℕ → ℕ
kind_for zero = leaf_kind
kind_for (suc h) = interior_kind

-- a leaf's row is an entry
abbrev pub entry_row : Entry → Row
entry_row e = record { key = e.key; body = e.place; size = e.size }

abbrev pub entry_of : Row → Entry
entry_of r = record { key = r.key; place = r.body; size = r.size }

-- an interior's row is a child: its separator, its slot beside its live and dead entries, and its size sum
abbrev pub child_row : ℕ → ℕ → Totals → Row
child_row key slot t = record { key = key; body = slot * 1099511627776 + t.live * 1048576 + t.dead; size = t.size }

abbrev pub row_for : (h : ℕ) → Item h → Row
row_for zero e = entry_row e
row_for (suc h) n = child_row (greatest_key (suc h) n) n.slot (total (suc h) n)

-- read again from an interior's row: the slot that it names, and the totals that it stores
abbrev pub child_of : Row → ℕ
child_of r = r.body / 1099511627776

abbrev pub child_totals : Row → Totals
child_totals r = record { live = r.body / 1048576 % 1048576; dead = r.body % 1048576; size = r.size }

-- what a row of a node of height h adds to the node's totals
abbrev pub row_totals : ℕ → Row → Totals
row_totals zero r = adds (entry_of r)
row_totals (suc h) r = child_totals r

-- the node of a tree's root
abbrev pub node_for : (h : ℕ) → Tree h → S.Node
node_for h t = record { kind = kind_for h; rows = map (row_for h) t.items }

-- THE CELLS OF A TREE: every node of it, with its slot

pub record Cell : Type 0 where
  pub slot : ℕ
  pub node : S.Node

abbrev pub cells : (h : ℕ) → Item h → List Cell
cells zero e = []
cells (suc h) n = record { slot = n.slot; node = node_for h n } ∷ concat (map (cells h) n.items)

abbrev pub cells_of : (h : ℕ) → List (Item h) → List Cell
cells_of h xs = concat (map (cells h) xs)

abbrev pub Stands : List S.Node → Cell → Type 0
Stands ns c = nth ns c.slot ≡ c.node

-- the nodes hold a tree: each of its nodes stands in its slot
abbrev pub Holds : List S.Node → (h : ℕ) → Tree h → Type 0
Holds ns h t = All (Stands ns) (cells (suc h) t)

-- READ OFF the nodes: the tree of height h in slot s
abbrev pub tree_at : List S.Node → (h : ℕ) → ℕ → Tree h
tree_at ns zero s = record { slot = s; items = map entry_of (nth ns s).rows }
tree_at ns (suc h) s = record { slot = s; items = map (λ r. tree_at ns h (child_of r)) (nth ns s).rows }

-- THE UNUSED SLOTS, ascending
abbrev pub unused_from : ℕ → List S.Node → List ℕ
unused_from s [] = []
unused_from s (n ∷ ns) = cond (eqb n.kind unused_kind) (s ∷ unused_from (suc s) ns) (unused_from (suc s) ns)

abbrev pub unused_of : List S.Node → List ℕ
unused_of ns = unused_from 0 ns

-- an unused slot holds nothing
abbrev pub Blank : List S.Node → Type 0
Blank ns = (s : ℕ) → (nth ns s).kind ≡ unused_kind → nth ns s ≡ unused

-- the nodes hold an index: its tree, its unused slots, and nothing in those
pub record HoldsIndex (ns : List S.Node) (x : Index) : Type 0 where
  pub tree : Holds ns x.height x.root
  pub unused : unused_of ns ≡ x.unused
  pub blank : Blank ns

-- the nodes, as the first tree sees them, hold a forest: each tree as it sees them, the unused slots, and nothing in those
pub record HoldsForest (ns : List S.Node) (f : Forest) : Type 0 where
  pub trees : (i : ℕ) → Holds (map (S.node_seen (root_for i)) ns) (planted i f).height (planted i f).root
  pub unused : unused_of ns ≡ f.unused
  pub blank : Blank ns

-- no slot of a tree is taken twice
abbrev pub Apart : (h : ℕ) → Tree h → Type 0
Apart h t = (x : ℕ) → times x (slots (suc h) t) ≤ 1

-- every slot in use that is not one of `mine` is as it was
abbrev pub Frame : List S.Node → List S.Node → List ℕ → Type 0
Frame ns ms mine = (x : ℕ) → (nth ns x).kind ≢ unused_kind → times x mine ≡ 0 → nth ms x ≡ nth ns x
