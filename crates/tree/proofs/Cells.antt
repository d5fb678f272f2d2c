-- A tree is what its own slots hold: the frame law, every node of it is in use, and no used slot is unused. Assumes nothing.
use mathlib.Core.Path.{◌≡◌, refl, sym, ap, ◌∙◌, subst}
use mathlib.Core.Logic.{◌≢◌}
use mathlib.Core.List.{List, [], ◌∷◌, ◌++◌, map, reverse_aux}
use Prim.Native.Nat.{ℕ, zero, suc, ◌+◌, ◌≤◌, ◌<◌}
use native.Mathlib.Omega.{arith}
use native.Mathlib.Decide.{ℕ_discrete}
use Rattle.slots.specs.Nodes.{unused_kind, interior_kind, nth}
use Rattle.slots.specs.Nodes as S
use Rattle.slots_raw.proofs.Over.{map_append}
use Rattle.model.specs.Lists.{times, All, none, one}
use Rattle.model.specs.Tree.{Item, Tree, slots}
use Rattle.model.proofs.Lists.{all_append, all_left, all_right, all_both, parts_append, hit_same, hit_other, times_append}
use Rattle.model.proofs.Trees.{slots_in}
use Rattle.tree.specs.Bridge.{kind_for, node_for, Cell, cells, cells_of, Stands, Holds}

-- THE SLOTS OF CELLS are the tree's

abbrev pub places : List Cell → List ℕ
places cs = map (λ c. c.slot) cs

module _ (h : ℕ) (f : (i : Item h) → places (cells h i) ≡ slots h i) where
  list_places : (xs : List (Item h)) → places (cells_of h xs) ≡ slots_in h xs
  list_places [] = refl
  list_places (i ∷ xs) =
      map_append (λ (c : Cell). c.slot) (cells h i) (cells_of h xs) ∙ ap (λ (l : List ℕ). l ++ places (cells_of h xs)) (f i)
      ∙ ap (λ (l : List ℕ). slots h i ++ l) (list_places xs)

pub cell_places : (h : ℕ) (i : Item h) → places (cells h i) ≡ slots h i
cell_places zero e = refl
cell_places (suc h) n = ap (λ (l : List ℕ). n.slot ∷ l) (list_places h (cell_places h) n.items)

pub items_places : (h : ℕ) (xs : List (Item h)) → places (cells_of h xs) ≡ slots_in h xs
items_places h xs = list_places h (cell_places h) xs

pub cells_append : (h : ℕ) (xs ys : List (Item h)) → cells_of h (xs ++ ys) ≡ cells_of h xs ++ cells_of h ys
cells_append h xs ys = parts_append (cells h) xs ys

-- of children in reverse
module _ (P : Cell → Type 0) (h : ℕ) where
  pub turned_cells : (b r : List (Item h)) → All P (cells_of h b) → All P (cells_of h r) → All P (cells_of h (reverse_aux b r))
  turned_cells [] r p q = q
  turned_cells (c ∷ b) r p q = turned_cells b (c ∷ r) (all_right (cells h c) (cells_of h b) p) (all_append (all_left (cells h c) (cells_of h b) p) q)

  pub cells_rest : (b r : List (Item h)) → All P (cells_of h (reverse_aux b r)) → All P (cells_of h r)
  cells_rest [] r p = p
  cells_rest (c ∷ b) r p = all_right (cells h c) (cells_of h r) (cells_rest b (c ∷ r) p)

  pub cells_before : (b r : List (Item h)) → All P (cells_of h (reverse_aux b r)) → All P (cells_of h b)
  cells_before [] r p = none
  cells_before (c ∷ b) r p = all_append (all_left (cells h c) (cells_of h r) (cells_rest b (c ∷ r) p)) (cells_before b (c ∷ r) p)

pub slots_turned : (x h : ℕ) (b r : List (Item h)) → times x (slots_in h (reverse_aux b r)) ≡ times x (slots_in h b) + times x (slots_in h r)
slots_turned x h [] r = omega arith
slots_turned x h (c ∷ b) r =
    omega (arith, slots_turned x h b (c ∷ r), times_append x (slots h c) (slots_in h r), times_append x (slots h c) (slots_in h b))

-- THE FRAME LAW: nodes that agree on the slots of some cells hold them alike

pub by_place : (P : Cell → Type 0) (cs : List Cell) → ((c : Cell) → 0 < times c.slot (places cs) → P c) → All P cs
by_place P [] f = none
by_place P (c ∷ cs) f = one (f c (omega (arith, hit_same c.slot c.slot refl))) (by_place P cs (λ d h. f d (omega arith)))

pub agree : (ns ms : List S.Node) (cs : List Cell) → ((x : ℕ) → 0 < times x (places cs) → nth ms x ≡ nth ns x) → All (Stands ns) cs → All (Stands ms) cs
agree ns ms cs f h =
    all_both (λ c g k. g ∙ k) (by_place (λ (c : Cell). nth ms c.slot ≡ nth ns c.slot) cs (λ c g. f c.slot g)) h

pub agree_tree : (ns ms : List S.Node) (h : ℕ) (t : Tree h) → ((x : ℕ) → 0 < times x (slots (suc h) t) → nth ms x ≡ nth ns x) → Holds ns h t → Holds ms h t
agree_tree ns ms h t f k = agree ns ms (cells (suc h) t) (λ x g. f x (subst (λ (l : List ℕ). 0 < times x l) (cell_places (suc h) t) g)) k

pub agree_items : (ns ms : List S.Node) (h : ℕ) (xs : List (Item h)) → ((x : ℕ) → 0 < times x (slots_in h xs) → nth ms x ≡ nth ns x)
    → All (Stands ns) (cells_of h xs) → All (Stands ms) (cells_of h xs)
agree_items ns ms h xs f k = agree ns ms (cells_of h xs) (λ x g. f x (subst (λ (l : List ℕ). 0 < times x l) (items_places h xs) g)) k

-- EVERY NODE OF A TREE IS IN USE

pub kind_used : (h : ℕ) → kind_for h ≢ unused_kind
kind_used zero e = absurd (omega arith)
kind_used (suc h) e = absurd (omega arith)

-- what holds of each kind that a node of a tree can have holds of every node of it
module _ (P : ℕ → Type 0) (p : (h : ℕ) → P (kind_for h)) where
  list_kinds : (h : ℕ) → ((i : Item h) → All (λ c. P c.node.kind) (cells h i)) → (xs : List (Item h)) → All (λ c. P c.node.kind) (cells_of h xs)
  list_kinds h f [] = none
  list_kinds h f (i ∷ xs) = all_append (f i) (list_kinds h f xs)

  pub each_kind : (h : ℕ) (i : Item h) → All (λ c. P c.node.kind) (cells h i)
  each_kind zero e = none
  each_kind (suc h) n = one {x = record { slot = n.slot; node = node_for h n }} (p h) (list_kinds h (each_kind h) n.items)

  pub items_kind : (h : ℕ) (xs : List (Item h)) → All (λ c. P c.node.kind) (cells_of h xs)
  items_kind h xs = list_kinds h (each_kind h) xs

abbrev pub Full : Cell → Type 0
Full c = c.node.kind ≢ unused_kind

pub full : (h : ℕ) (i : Item h) → All Full (cells h i)
full = each_kind (λ k. k ≢ unused_kind) kind_used

-- what holds of the kinds of cells that stand in some nodes holds of the kinds in their slots
pub kinds_by : (P : ℕ → Type 0) (ns : List S.Node) (cs : List Cell) → All (λ c. P c.node.kind) cs → All (Stands ns) cs → (x : ℕ) → 0 < times x (places cs)
    → P (nth ns x).kind
kinds_by P ns [] none none x h = absurd (omega arith)
kinds_by P ns (c ∷ cs) (one a us) (one b bs) x h = by (kinds_by P ns cs us bs x) (ℕ_discrete x c.slot)
  where
    by : (0 < times x (places cs) → P (nth ns x).kind) → Dec (x ≡ c.slot) → P (nth ns x).kind
    by r (yes e) = subst P (ap (λ (n : S.Node). n.kind) (sym b) ∙ ap (λ (y : ℕ). (nth ns y).kind) (sym e)) a
    by r (no e) = r (omega (arith, hit_other x c.slot e))

pub used_by : (ns : List S.Node) (cs : List Cell) → All Full cs → All (Stands ns) cs → (x : ℕ) → 0 < times x (places cs) → (nth ns x).kind ≢ unused_kind
used_by = kinds_by (λ k. k ≢ unused_kind)

pub used_items : (ns : List S.Node) (h : ℕ) (xs : List (Item h)) → All (Stands ns) (cells_of h xs) → (x : ℕ) → 0 < times x (slots_in h xs) → (nth ns x).kind ≢ unused_kind
used_items ns h xs k x g = used_by ns (cells_of h xs) (items_kind (λ k. k ≢ unused_kind) kind_used h xs) k x (subst (λ (l : List ℕ). 0 < times x l) (sym (items_places h xs)) g)

pub used_tree : (ns : List S.Node) (h : ℕ) (t : Tree h) → Holds ns h t → (x : ℕ) → 0 < times x (slots (suc h) t) → (nth ns x).kind ≢ unused_kind
used_tree ns h t k x g = used_by ns (cells (suc h) t) (full (suc h) t) k x (subst (λ (l : List ℕ). 0 < times x l) (sym (cell_places (suc h) t)) g)

pub high_kind : (h : ℕ) → h ≢ 0 → interior_kind ≡ kind_for h
high_kind zero ne = absurd (ne refl)
high_kind (suc h) ne = refl

-- a tree's own nodes are of the two kinds that it sees as its own
own_few : (h : ℕ) → kind_for h ≤ interior_kind
own_few zero = omega arith
own_few (suc h) = omega arith

pub own_tree : (ns : List S.Node) (h : ℕ) (t : Tree h) → Holds ns h t → (x : ℕ) → 0 < times x (slots (suc h) t) → (nth ns x).kind ≤ interior_kind
own_tree ns h t k x g =
    kinds_by (λ j. j ≤ interior_kind) ns (cells (suc h) t) (each_kind (λ j. j ≤ interior_kind) own_few (suc h) t) k x
    (subst (λ (l : List ℕ). 0 < times x l) (sym (cell_places (suc h) t)) g)
