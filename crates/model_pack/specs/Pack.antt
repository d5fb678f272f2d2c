-- Packing: some entries as a tree whose levels are full, in slots that go out in preorder; and the call that copies an index so. Assumes nothing.
use Rattle.std.specs.Prelude.{Bool, ◌&&◌, not, cond, List, [], ◌∷◌, ℕ, zero, suc, ◌+◌, ◌*◌, take, drop, leb, eqb}
use Rattle.model.specs.declared.Entry.{Entry}
use Rattle.model.specs.declared.Limits.{Limits}
use Rattle.model.specs.Tree.{Tree, Index, len}
use Rattle.model.specs.Frame.{nodes_in}

-- HEIGHT

-- how many entries a tree of order o and height h can hold
abbrev pub capacity : ℕ → ℕ → ℕ
capacity o zero = o
capacity o (suc h) = o * capacity o h

-- the least height from h on, `more` above it at most, whose trees can hold n entries
abbrev pub height_from : ℕ → ℕ → ℕ → ℕ → ℕ
height_from zero o n h = h
height_from (suc more) o n h = let on = height_from more o n (suc h) in cond (leb n (capacity o h)) h on

-- a tree of depth 8 has height 7
abbrev pub height_for : ℕ → ℕ → ℕ
height_for o n = height_from 7 o n 0

-- THE TREE

-- a list cut into pieces of n, the last of them what is left; `most` pieces at most
abbrev pub pieces : {A : Type 0} → ℕ → ℕ → List A → List (List A)
pieces zero n l = []
pieces (suc most) n [] = []
pieces (suc most) n (x ∷ l) = take n (x ∷ l) ∷ pieces most n (drop n (x ∷ l))

-- siblings: the first has slot i, the nodes below it come next, and then the others
abbrev pub in_preorder : (h : ℕ) → (ℕ → ℕ → List Entry → Tree h) → ℕ → List (List Entry) → List (Tree h)
in_preorder h pack i [] = []
in_preorder h pack i (p ∷ ps) =
    let c = pack i (suc i) p in
    c ∷ in_preorder h pack (i + nodes_in (suc h) c) ps

-- the tree of order o and height h over some entries: its root in slot s, its other nodes in those from i on. Each child takes as many entries as it
-- can hold, and the last one what is left.
abbrev pub packed : ℕ → (h : ℕ) → ℕ → ℕ → List Entry → Tree h
packed o zero s i es = record { slot = s; items = es }
packed o (suc h) s i es = record { slot = s; items = in_preorder h (packed o h) i (pieces o (capacity o h) es) }

-- THE CALL

-- the orders or the minimums of two trees differ
abbrev pub differ : Limits → Limits → Bool
differ a b = not (eqb a.order b.order && eqb a.minimum b.minimum)

-- a new index is one empty leaf
abbrev pub is_new : Index → Bool
is_new y = eqb y.height 0 && eqb (len y.root) 0
