-- Sound nodes hold the tree that is read off them: stored separators, slots and totals make each row the row of its child. Assumes nothing.
use mathlib.Core.Path.{◌≡◌, refl, sym, ap, ◌∙◌}
use mathlib.Core.List.{List, [], ◌∷◌, map}
use Prim.Native.Nat.{ℕ, zero, suc}
use Rattle.slots_raw.specs.declared.Row.{Row}
use Rattle.slots.specs.Nodes.{nth}
use Rattle.slots.specs.Nodes as S
use Rattle.model.specs.declared.Entry.{Entry}
use Rattle.model.specs.declared.Settings.{Settings}
use Rattle.model.specs.Lists.{All, none, one}
use Rattle.model.specs.Tree.{Tree, total}
use Rattle.model.proofs.Lists.{all_append}
use Rattle.tree.specs.Bridge.{entry_row, entry_of, child_row, child_of, row_for, node_for, Cell, cells_of, Stands, Holds, tree_at}
use Rattle.tree.specs.Pool.{index_in, Kinds, EachChild, Separates, Totalled, SoundNodes}
use Rattle.tree.proofs.Rows.{row_back}

-- ROWS

pub slot_read : (ns : List S.Node) (h s : ℕ) → (tree_at ns h s).slot ≡ s
slot_read ns zero s = refl
slot_read ns (suc h) s = refl

pub rows_again : (rs : List Row) → map entry_row (map entry_of rs) ≡ rs
rows_again [] = refl
rows_again (r ∷ rs) = ap (λ (l : List Row). r ∷ l) (rows_again rs)

-- a row with the right separator and totals is the row of the child that it names
row_again : (ns : List S.Node) (h : ℕ) (r : Row) → Separates h r (tree_at ns h (child_of r)) → Totalled h r (tree_at ns h (child_of r)) → row_for (suc h) (tree_at ns h (child_of r)) ≡ r
row_again ns h r k t =
    let child : Tree h = tree_at ns h (child_of r) in
    ap (λ (key : ℕ). child_row key child.slot (total (suc h) child)) (sym k)
    ∙ ap (λ (slot : ℕ). child_row r.key slot (total (suc h) child)) (slot_read ns h (child_of r))
    ∙ ap (child_row r.key (child_of r)) (sym t)
    ∙ row_back r

-- CELLS

pub leaf_cells : (P : Cell → Type 0) (es : List Entry) → All P (cells_of zero es)
leaf_cells P [] = none
leaf_cells P (e ∷ es) = leaf_cells P es

module _ (ns : List S.Node) (h : ℕ) where
  abbrev kids_at : List Row → List (Tree h)
  kids_at rs = map (λ r. tree_at ns h (child_of r)) rs

  abbrev Each : ((h : ℕ) → Row → Tree h → Type 0) → List Row → Type 0
  Each P rs = All (λ r. P h r (tree_at ns h (child_of r)) × EachChild P ns h (child_of r)) rs

  kids_rows : {rs : List Row} → Each Separates rs → Each Totalled rs → map (row_for (suc h)) (kids_at rs) ≡ rs
  kids_rows none none = refl
  kids_rows (one {x = r} k ks) (one t ts) = rw (row_again ns h r k.0 t.0, kids_rows ks ts)

  module _ (f : (s : ℕ) → Kinds ns h s → EachChild Separates ns h s → EachChild Totalled ns h s → Holds ns h (tree_at ns h s)) where
    kids_hold : {rs : List Row} → All (λ r. Kinds ns h (child_of r)) rs → Each Separates rs → Each Totalled rs → All (Stands ns) (cells_of (suc h) (kids_at rs))
    kids_hold none none none = none
    kids_hold (one {x = r} q qs) (one k ks) (one t ts) = all_append (f (child_of r) q k.1 t.1) (kids_hold qs ks ts)

pub read_holds : (ns : List S.Node) (h s : ℕ) → Kinds ns h s → EachChild Separates ns h s → EachChild Totalled ns h s → Holds ns h (tree_at ns h s)
read_holds ns zero s k a b =
    let rows : (nth ns s).rows ≡ map entry_row (map entry_of (nth ns s).rows) = sym (rows_again (nth ns s).rows) in
    one {x = record { slot = s; node = node_for zero (tree_at ns zero s) }} (λ j. record { kind = k j; rows = rows j }) (leaf_cells (Stands ns) (tree_at ns zero s).items)
read_holds ns (suc h) s k a b =
    let rows : (nth ns s).rows ≡ map (row_for (suc h)) (map (λ r. tree_at ns h (child_of r)) (nth ns s).rows) = sym (kids_rows ns h a b) in
    one {x = record { slot = s; node = node_for (suc h) (tree_at ns (suc h) s) }} (λ j. record { kind = k.0 j; rows = rows j })
    (kids_hold ns h (read_holds ns h) k.1 a b)

-- THE NODES OF A SOUND POOL hold the tree of its index
pub sound_holds : (st : Settings) (ns : List S.Node) → SoundNodes st ns → Holds ns (index_in st.root ns).height (index_in st.root ns).root
sound_holds st ns s = read_holds ns (index_in st.root ns).height st.root s.kinds s.separators s.totals
