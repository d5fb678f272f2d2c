-- Nodes of any level, with their entries, separators, totals and slots; and the index, a tree with the unused slots. Assumes nothing.
use Rattle.std.specs.Prelude.{Bool, not, cond, List, [], ◌∷◌, map, ℕ, zero, suc, ◌+◌, length, ltb, eqb}
use Rattle.model.specs.declared.Entry.{Entry}
use Rattle.model.specs.declared.Totals.{Totals}
use Rattle.model.specs.Lists.{concat}

-- NODES

-- A node is its slot and its items. An item of level 0 is an entry; one of level h + 1 is a node over items of level h.
-- So a leaf is an item of level 1, and the leaves of a tree share one depth.
pub record Node (X : Type 0) : Type 0 where
  pub slot : ℕ
  pub items : List X

abbrev pub Item : ℕ → Type 0
Item zero = Entry
Item (suc h) = Node (Item h)

-- a tree of depth h + 1
abbrev pub Tree : ℕ → Type 0
Tree h = Node (Item h)

module _ {X : Type 0} where
  abbrev pub len : Node X → ℕ
  len n = length n.items

  -- the same slot with other items
  abbrev pub refill : Node X → List X → Node X
  refill n xs = record { slot = n.slot; items = xs }

-- the entries of an item, left to right
abbrev pub entries : (h : ℕ) → Item h → List Entry
entries zero e = e ∷ []
entries (suc h) n = concat (map (entries h) n.items)

-- the slots of an item's nodes, in preorder
abbrev pub slots : (h : ℕ) → Item h → List ℕ
slots zero e = []
slots (suc h) n = n.slot ∷ concat (map (slots h) n.items)

-- SEPARATORS AND TOTALS are worked out here and not stored, so they are always right. The pool stores them (crate tree).

abbrev pub last_of : List ℕ → ℕ
last_of [] = 0
last_of (k ∷ []) = k
last_of (k ∷ (j ∷ ks)) = last_of (j ∷ ks)

-- a node's separator, the greatest key below it: that of its last item
abbrev pub greatest_key : (h : ℕ) → Item h → ℕ
greatest_key zero e = e.key
greatest_key (suc h) n = last_of (map (greatest_key h) n.items)

-- place 0 marks a deletion
abbrev pub is_mark : ℕ → Bool
is_mark place = eqb place 0

abbrev pub is_live : Entry → Bool
is_live e = not (is_mark e.place)

abbrev pub no_totals : Totals
no_totals = record { live = 0; dead = 0; size = 0 }

-- what an entry adds to a total: a dead one is counted, but its size is not
abbrev pub adds : Entry → Totals
adds e = record { live = cond (is_live e) 1 0; dead = cond (is_live e) 0 1; size = cond (is_live e) e.size 0 }

-- interior totals are the field sums
abbrev pub plus : Totals → Totals → Totals
plus a b = record { live = a.live + b.live; dead = a.dead + b.dead; size = a.size + b.size }

abbrev pub sum_of : List Totals → Totals
sum_of [] = no_totals
sum_of (t ∷ ts) = plus t (sum_of ts)

abbrev pub total : (h : ℕ) → Item h → Totals
total zero e = adds e
total (suc h) n = sum_of (map (total h) n.items)

-- UNUSED SLOTS: a list that ascends in every sound index (specs/Sound), so that its head is the lowest

-- 0 where there is none: the root's slot, which is never unused
abbrev pub lowest : List ℕ → ℕ
lowest [] = 0
lowest (u ∷ unused) = u

abbrev pub others : List ℕ → List ℕ
others [] = []
others (u ∷ unused) = unused

-- a freed slot takes its place among them
abbrev pub release : ℕ → List ℕ → List ℕ
release s [] = s ∷ []
release s (u ∷ unused) = cond (ltb s u) (s ∷ u ∷ unused) (u ∷ release s unused)

-- THE INDEX: a tree of any depth, and the unused slots

pub record Index : Type 0 where
  pub height : ℕ
  pub root : Tree height
  pub unused : List ℕ

-- a lone leaf is depth 1
abbrev pub depth : Index → ℕ
depth x = suc x.height

abbrev pub entries_of : Index → List Entry
entries_of x = entries (suc x.height) x.root

abbrev pub slots_of : Index → List ℕ
slots_of x = slots (suc x.height) x.root

abbrev pub totals_of : Index → Totals
totals_of x = total (suc x.height) x.root
