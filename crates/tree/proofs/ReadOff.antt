-- A tree that the nodes hold is the tree that is read off them, as long as it has fewer than 2 ^ 20 entries. Assumes nothing.
use mathlib.Core.Path.{◌≡◌, refl, sym, ap, ◌∙◌, subst}
use mathlib.Core.List.{List, [], ◌∷◌, map}
use Prim.Native.Nat.{ℕ, zero, suc, ◌+◌, ◌<◌}
use native.Mathlib.Omega.{arith}
use lib.ListN.{length, length-append}
use Rattle.slots_raw.specs.declared.Row.{Row}
use Rattle.slots.specs.Nodes.{nth}
use Rattle.slots.specs.Nodes as S
use Rattle.model.specs.declared.Entry.{Entry}
use Rattle.model.specs.declared.Totals.{Totals}
use Rattle.model.specs.Lists.{All, none, one}
use Rattle.model.specs.Tree.{Item, Tree, entries, greatest_key, total}
use Rattle.model.specs.Promises.{flat}
use Rattle.model.proofs.Lists.{all_left, all_right, all_head, all_tail}
use Rattle.model.proofs.Trees.{list_totals, total_list, totals_count}
use Rattle.tree.specs.Bridge.{entry_of, entry_row, child_of, row_for, cells, cells_of, Stands, Holds, tree_at}
use Rattle.tree.proofs.Rows.{slot_back}

-- LIGHT TREES: with fewer entries than a row can count

abbrev pub Light : (h : ℕ) → Tree h → Type 0
Light h t = length (entries (suc h) t) < 1048576

abbrev pub Lights : (h : ℕ) → List (Tree h) → Type 0
Lights h cs = length (flat (suc h) cs) < 1048576

pub light_first : (h : ℕ) (c : Tree h) (cs : List (Tree h)) → Lights h (c ∷ cs) → Light h c
light_first h c cs few = omega (arith, length-append (entries (suc h) c) (flat (suc h) cs))

pub light_rest : (h : ℕ) (c : Tree h) (cs : List (Tree h)) → Lights h (c ∷ cs) → Lights h cs
light_rest h c cs few = omega (arith, length-append (entries (suc h) c) (flat (suc h) cs))

-- live and dead entries together are the entries
pub total_count : (h : ℕ) (i : Item h) → (total h i).live + (total h i).dead ≡ length (entries h i)
total_count h i =
    let e : total h i ≡ list_totals (entries h i) = total_list h i in
    ap (λ (t : Totals). t.live + t.dead) e ∙ totals_count (entries h i)

-- so the slot in a child's row can be read again
pub child_slot : (h : ℕ) (n : Tree h) → Light h n → child_of (row_for (suc h) n) ≡ n.slot
child_slot h n few =
    slot_back (greatest_key (suc h) n) n.slot (total (suc h) n) (omega (arith, total_count (suc h) n)) (omega (arith, total_count (suc h) n))

-- WHAT IS HELD IS READ

pub entries_back : (es : List Entry) → map entry_of (map entry_row es) ≡ es
entries_back [] = refl
entries_back (e ∷ es) = ap (e ∷◌) (entries_back es)

module _ (ns : List S.Node) (h : ℕ) (f : (t : Tree h) → Light h t → Holds ns h t → tree_at ns h t.slot ≡ t) where
  kids_by : (ys : List (Tree h)) → Lights h ys → All (Stands ns) (cells_of (suc h) ys) → map (λ (r : Row). tree_at ns h (child_of r)) (map (row_for (suc h)) ys) ≡ ys
  kids_by [] few k = refl
  kids_by (y ∷ ys) few k =
      let light : Light h y = light_first h y ys few in
      let e : tree_at ns h (child_of (row_for (suc h) y)) ≡ y =
      ap (tree_at ns h) (child_slot h y light) ∙ f y light (all_left (cells (suc h) y) (cells_of (suc h) ys) k) in
      ap (λ (t : Tree h). t ∷ map (λ (r : Row). tree_at ns h (child_of r)) (map (row_for (suc h)) ys)) e
      ∙ ap (λ (l : List (Tree h)). y ∷ l) (kids_by ys (light_rest h y ys few) (all_right (cells (suc h) y) (cells_of (suc h) ys) k))

pub held_tree : (ns : List S.Node) (h : ℕ) (t : Tree h) → Light h t → Holds ns h t → tree_at ns h t.slot ≡ t
held_tree ns zero t few k =
    ap (λ (es : List Entry). record { slot = t.slot; items = es }) (ap (λ (n : S.Node). map entry_of n.rows) (all_head k) ∙ entries_back t.items)
held_tree ns (suc h) t few k =
    ap (λ (ys : List (Tree h)). record { slot = t.slot; items = ys })
    (ap (λ (n : S.Node). map (λ (r : Row). tree_at ns h (child_of r)) n.rows) (all_head k) ∙ kids_by ns h (held_tree ns h) t.items few (all_tail k))

-- the children that the rows of some children name
pub kids_read : (ns : List S.Node) (h : ℕ) (ys : List (Tree h)) → Lights h ys → All (Stands ns) (cells_of (suc h) ys)
    → map (λ (r : Row). tree_at ns h (child_of r)) (map (row_for (suc h)) ys) ≡ ys
kids_read ns h ys few k = kids_by ns h (held_tree ns h) ys few k

-- THE ROWS OF A HELD NODE: what holds of each child's own row holds of each row in the node

module _ (ns : List S.Node) (h : ℕ) (R : Row → Type 0) (f : (c : Tree h) → Light h c → Holds ns h c → R (row_for (suc h) c)) where
  kids_have : (cs : List (Tree h)) → Lights h cs → All (Stands ns) (cells_of (suc h) cs) → All R (map (row_for (suc h)) cs)
  kids_have [] few k = none
  kids_have (c ∷ cs) few k =
      one (f c (light_first h c cs few) (all_left (cells (suc h) c) (cells_of (suc h) cs) k))
      (kids_have cs (light_rest h c cs few) (all_right (cells (suc h) c) (cells_of (suc h) cs) k))

  pub rows_have : (t : Tree (suc h)) → Light (suc h) t → Holds ns (suc h) t → All R (nth ns t.slot).rows
  rows_have t few k = subst (λ (n : S.Node). All R n.rows) (sym (all_head k)) (kids_have t.items few (all_tail k))
