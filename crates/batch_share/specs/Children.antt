-- The children of a node in the pool, and what making rows new, handing rows over and evening out make of nodes. Assumes nothing.
use Rattle.std.specs.Prelude.{ℕ, suc, ◌+◌, ◌-◌, min, Bool, false, not, length, take, drop, get_or, set}
use mathlib.Core.List.{List, [], ◌∷◌, ◌++◌, map, reverse_aux}
use Rattle.slots_raw.specs.Slots.{blank}
use Rattle.slots.specs.Nodes.{nth, rows_at, put2, with_rows, put_rows}
use Rattle.slots.specs.Nodes as S
use Rattle.model.specs.declared.Settings.{Settings}
use Rattle.model.specs.Tree.{Tree, Node}
use Rattle.tree.specs.Bridge.{tree_at, child_of}
use Rattle.model.specs.Share.{full, half}
use Rattle.tree_node.specs.Ask.{row_over}

-- an interior node in slot s with these children
abbrev pub inner : (h : ℕ) → ℕ → List (Tree h) → Tree (suc h)
inner h s ys = record { slot = s; items = ys }

-- THE CHILDREN of slot s, of height h; child i, those before it, the nearest first, and those after it

abbrev pub kids_at : List S.Node → (h : ℕ) → ℕ → List (Tree h)
kids_at ns h s = map (λ r. tree_at ns h (child_of r)) (nth ns s).rows

abbrev pub child_at : List S.Node → (h : ℕ) → ℕ → ℕ → Tree h
child_at ns h s i = tree_at ns h (child_of (get_or (nth ns s).rows i blank))

abbrev pub before_at : List S.Node → (h : ℕ) → ℕ → ℕ → List (Tree h)
before_at ns h s i = reverse_aux (take i (kids_at ns h s)) []

abbrev pub after_at : List S.Node → (h : ℕ) → ℕ → ℕ → List (Tree h)
after_at ns h s i = drop (suc i) (kids_at ns h s)

-- whether there is a previous sibling, and it has room
abbrev pub room_in : Settings → {X : Type 0} → List (Node X) → Bool
room_in st [] = false
room_in st (p ∷ before) = not (full st p)

-- THE PARENT'S ROWS made new

-- row i of node s made that of node c
abbrev pub renewed : List S.Node → ℕ → ℕ → ℕ → ℕ → List S.Node
renewed ns h s i c = put_rows ns s (set (nth ns s).rows i (row_over h c (nth ns c).rows))

-- rows i and i + 1 of node s made those of nodes p and c
abbrev pub renewed_two : List S.Node → ℕ → ℕ → ℕ → ℕ → ℕ → List S.Node
renewed_two ns h s i p c = put_rows ns s (set (set (nth ns s).rows i (row_over h p (nth ns p).rows)) (i + 1) (row_over h c (nth ns c).rows))

-- AMOUNTS

-- how many rows node c hands to node t
abbrev pub handed_rows : Settings → List ℕ → ℕ → ℕ → ℕ
handed_rows st W c t = min (st.order - length (rows_at st W t)) (length (rows_at st W c) - st.minimum)

-- the rows of two nodes, the half of them in each
abbrev pub level_nodes : List S.Node → ℕ → ℕ → List S.Node
level_nodes ns p c =
    let l = (nth ns p).rows ++ (nth ns c).rows in
    put2 ns p (with_rows (nth ns p) (take (half (length l)) l)) c (with_rows (nth ns c) (drop (half (length l)) l))
