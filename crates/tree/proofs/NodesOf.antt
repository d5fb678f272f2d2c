-- The nodes of a forest and no others hold it: `nodes_of` holds a sound forest, and nodes that do are `nodes_of`. Assumes nothing.
use mathlib.Core.Path.{◌≡◌, refl, sym, ap, ◌∙◌, subst}
use mathlib.Core.Logic.{◌≢◌, ◌⊎◌, inl, inr}
use mathlib.Core.Bool.{cond}
use mathlib.Core.List.{List, [], ◌∷◌, ◌++◌, map}
use Prim.Native.Nat.{ℕ, zero, suc, ◌+◌, ◌≤◌, ◌<◌}
use native.Mathlib.Omega.{arith}
use native.Mathlib.Decide.{ℕ_discrete, dec_lt}
use lib.Dec.{eqb, ltb}
use lib.ListN.{length, length-map, get_or-eq_default}
use lib.Seq.{ext_get_or}
use borrow.Author.Tests.{lt-ltb, le-ltb, eq-eqb, ne_eqb, eqb-true, eqb-false}
use Rattle.slots_raw.proofs.Over.{map_append}
use Rattle.slots.specs.Nodes.{unused_kind, node_seen, nth, unused}
use Rattle.slots.specs.Nodes as S
use Rattle.slots.proofs.Others.{node_twice, nodes_own, nth_seen}
use Rattle.model.specs.declared.PoolSettings.{PoolSettings}
use Rattle.model.specs.Lists.{times, up_from, All, none, one}
use Rattle.model.specs.Tree.{slots_of}
use Rattle.model.specs.Sound.{root_for}
use Rattle.model.specs.Forest.{Forest, planted, tree_of, SoundForest}
use Rattle.model.proofs.Lists.{by_test, all_append, all_left, all_right, all_both, all_map, all_of, hit_same, hit_other, times_append}
use Rattle.model.proofs.Numbers.{ascending_same, length_up, map_up}
use Rattle.tree.specs.Bridge.{Cell, Stands, Holds, Blank, unused_of, HoldsForest}
use Rattle.tree.specs.Pool.{node_in, tree_cells, seen_cell, forest_cells, nodes_of}
use Rattle.tree.proofs.Cells.{places, cell_places, by_place, used_tree}
use Rattle.tree.proofs.Unused.{used_none, unused_one, unused_past, unused_up, used_seen}

-- THE NODE IN A SLOT, of some cells

module _ (n : ℕ) (cs : List Cell) where
  abbrev nodes_from : List S.Node
  nodes_from = map (node_in cs) (up_from 0 n)

  length_from : length nodes_from ≡ n
  length_from = length-map (up_from 0 n) (node_in cs) ∙ length_up 0 n

  nth_from : (s : ℕ) → s < n → nth nodes_from s ≡ node_in cs s
  nth_from s h = let z : 0 + s ≡ s = omega arith in map_up (node_in cs) 0 n s unused h ∙ ap (node_in cs) z

  nth_past : (s : ℕ) → n ≤ s → nth nodes_from s ≡ unused
  nth_past s h = get_or-eq_default nodes_from unused (omega (arith, length_from))

-- what holds of an unused node and of each cell's holds of the node in any slot
node_has : (P : S.Node → Type 0) → P unused → {cs : List Cell} → All (λ c. P c.node) cs → (s : ℕ) → P (node_in cs s)
node_has P u none s = u
node_has P u (one {x = c} {xs = cs} h hs) s = by_test P (eqb s c.slot) (λ e. h) (λ e. node_has P u hs s)

pub nodes_of_have : (P : S.Node → Type 0) → P unused → (n : ℕ) (f : Forest) → All (λ c. P c.node) (forest_cells f) → (s : ℕ) → P (nth (nodes_of n f) s)
nodes_of_have P u n f h s = by (dec_lt s n)
  where
    by : Dec (s < n) → P (nth (nodes_of n f) s)
    by (yes g) = subst P (sym (nth_from n (forest_cells f) s g)) (node_has P u h s)
    by (no g) = let le : n ≤ s = omega arith in subst P (sym (nth_past n (forest_cells f) s le)) u

-- a slot of no cell is unused
node_none : (cs : List Cell) (s : ℕ) → times s (places cs) ≡ 0 → node_in cs s ≡ unused
node_none [] s h = refl
node_none (c ∷ cs) s h =
    by_test (λ (n : S.Node). n ≡ unused) (eqb s c.slot) (λ e. absurd (omega (arith, hit_same s c.slot (eqb-true s c.slot e))))
    (λ e. node_none cs s (omega arith))

-- each cell is found in its slot, if no slot is taken twice
node_own : (cs : List Cell) → ((s : ℕ) → times s (places cs) ≤ 1) → All (λ c. node_in cs c.slot ≡ c.node) cs
node_own [] h = none
node_own (c ∷ cs) h =
    one {x = c} (rw (eq-eqb c.slot c.slot refl))
    (all_both (λ d g e. later d g e) (by_place (λ (d : Cell). 0 < times d.slot (places cs)) cs (λ d g. g)) (node_own cs (λ s. omega (arith, h s))))
  where
    later : (d : Cell) → 0 < times d.slot (places cs) → node_in cs d.slot ≡ d.node → node_in (c ∷ cs) d.slot ≡ d.node
    later d g e = rw (ne_eqb d.slot c.slot (λ q. omega (arith, h d.slot, hit_same d.slot c.slot q))) e

pub length_nodes_of : (n : ℕ) (f : Forest) → length (nodes_of n f) ≡ n
length_nodes_of n f = length_from n (forest_cells f)

-- THE CELLS OF BOTH TREES

seen_places : (cs : List Cell) → places (map seen_cell cs) ≡ places cs
seen_places [] = refl
seen_places (c ∷ cs) = ap (λ (l : List ℕ). c.slot ∷ l) (seen_places cs)

-- their slots
forest_places : (f : Forest) (s : ℕ) → times s (places (forest_cells f)) ≡ times s (slots_of (tree_of 0 f)) + times s (slots_of (tree_of 1 f))
forest_places f s =
    let a : List Cell = tree_cells (tree_of 0 f) in
    let b : List Cell = tree_cells (tree_of 1 f) in
    ap (times s) (map_append (λ (c : Cell). c.slot) a (map seen_cell b) ∙ ap (places a ++◌) (seen_places b)) ∙ times_append s (places a) (places b)
    ∙ ap (λ (l : List ℕ). times s l + times s (places b)) (cell_places (suc f.first.height) f.first.root)
    ∙ ap (λ (l : List ℕ). times s (slots_of (tree_of 0 f)) + times s l) (cell_places (suc f.second.height) f.second.root)

-- a cell of the second tree stands where it sees the nodes, and its image where the first does
stands_seen : (ns : List S.Node) (c : Cell) → Stands (map (node_seen 1) ns) c → Stands ns (seen_cell c)
stands_seen ns c e = sym (node_twice 1 (nth ns c.slot)) ∙ ap (node_seen 1) (sym (nth_seen 1 ns c.slot) ∙ e)

stands_back : (ns : List S.Node) (c : Cell) → Stands ns (seen_cell c) → Stands (map (node_seen 1) ns) c
stands_back ns c e = nth_seen 1 ns c.slot ∙ ap (node_seen 1) e ∙ node_twice 1 c.node

all_seen : (ns : List S.Node) (cs : List Cell) → All (Stands ns) (map seen_cell cs) → All (Stands (map (node_seen 1) ns)) cs
all_seen ns [] none = none
all_seen ns (c ∷ cs) (one h hs) = one {x = c} (stands_back ns c h) (all_seen ns cs hs)

-- nodes hold a forest where its cells stand in them
both_hold : (ns : List S.Node) (f : Forest) → All (Stands ns) (forest_cells f) → (i : ℕ) → Holds (map (node_seen (root_for i)) ns) (planted i f).height (planted i f).root
both_hold ns f h zero =
    subst (λ (ms : List S.Node). Holds ms f.first.height f.first.root) (sym (nodes_own ns))
    (all_left (tree_cells (tree_of 0 f)) (map seen_cell (tree_cells (tree_of 1 f))) h)
both_hold ns f h (suc i) = all_seen ns (tree_cells (tree_of 1 f)) (all_right (tree_cells (tree_of 0 f)) (map seen_cell (tree_cells (tree_of 1 f))) h)

cells_stand : (ns : List S.Node) (f : Forest) → ((i : ℕ) → Holds (map (node_seen (root_for i)) ns) (planted i f).height (planted i f).root) → All (Stands ns) (forest_cells f)
cells_stand ns f h =
    all_append (subst (λ (ms : List S.Node). Holds ms f.first.height f.first.root) (nodes_own ns) (h 0))
    (all_of seen_cell (all_map (stands_seen ns) (h 1)))

-- a node that some cells put into its slot, or that is unused
node_found : (ns : List S.Node) {cs : List Cell} → All (Stands ns) cs → (s : ℕ) → (times s (places cs) ≡ 0 → nth ns s ≡ unused) → nth ns s ≡ node_in cs s
node_found ns none s f = f refl
node_found ns (one {x = c} {xs = cs} k ks) s f =
    by_test (λ (n : S.Node). nth ns s ≡ n) (eqb s c.slot) (λ e. ap (nth ns) (eqb-true s c.slot e) ∙ k)
    (λ e. node_found ns ks s (λ z. f (omega (arith, hit_other s c.slot (eqb-false s c.slot e)))))

-- A FOREST IS HELD where its trees stand and its unused slots hold nothing: there are no other slots

module _ (u : PoolSettings) (f : Forest) (s : SoundForest u f) (ns : List S.Node) (size : length ns ≡ u.nodes)
    (trees : (i : ℕ) → Holds (map (node_seen (root_for i)) ns) (planted i f).height (planted i f).root)
    (free : (x : ℕ) → 0 < times x f.unused → nth ns x ≡ unused) where
  in_use : (i x : ℕ) → 0 < times x (slots_of (tree_of i f)) → (nth ns x).kind ≢ unused_kind
  in_use i x on =
      used_seen (root_for i) ns x (used_tree (map (node_seen (root_for i)) ns) (planted i f).height (planted i f).root (trees i) x on)

  -- a slot is one of a tree's or an unused one
  abbrev Either : ℕ → Type 0
  Either x = (((nth ns x).kind ≢ unused_kind) × (times x f.unused ≡ 0)) ⊎ ((nth ns x ≡ unused) × (times x f.unused ≡ 1))

  each : (x : ℕ) → x < u.nodes → Either x
  each x lt = by (dec_lt 0 (times x (slots_of (tree_of 0 f)))) (dec_lt 0 (times x (slots_of (tree_of 1 f))))
    where
      once : times x (slots_of (tree_of 0 f)) + times x (slots_of (tree_of 1 f)) + times x f.unused ≡ 1
      once = omega (arith, rw (lt-ltb x u.nodes lt) at ((s.trees 1).once x), times_append x (slots_of (tree_of 0 f)) (slots_of (tree_of 1 f)))

      by : Dec (0 < times x (slots_of (tree_of 0 f))) → Dec (0 < times x (slots_of (tree_of 1 f))) → Either x
      by (yes on) d = inl (in_use 0 x on, omega (arith, once))
      by (no off) (yes on) = inl (in_use 1 x on, omega (arith, once))
      by (no off) (no out) = let is : times x f.unused ≡ 1 = omega (arith, once) in inr (free x (omega (arith, is)), is)

  same : (x : ℕ) → times x (unused_of ns) ≡ times x f.unused
  same x = by (dec_lt x u.nodes)
    where
      at_slot : x < u.nodes → Either x → times x (unused_of ns) ≡ times x f.unused
      at_slot lt (inl k) = used_none ns x k.0 ∙ sym k.1
      at_slot lt (inr k) = unused_one ns x (omega (arith, size)) (ap (λ (n : S.Node). n.kind) k.0) ∙ sym k.1

      by : Dec (x < u.nodes) → times x (unused_of ns) ≡ times x f.unused
      by (yes lt) = at_slot lt (each x lt)
      by (no past) =
          omega (arith, unused_past ns x (omega (arith, size)), rw (le-ltb x u.nodes (omega arith)) at ((s.trees 1).once x))

  blank : Blank ns
  blank x e = by (dec_lt x u.nodes)
    where
      at_slot : Either x → nth ns x ≡ unused
      at_slot (inl k) = absurd (k.0 e)
      at_slot (inr k) = k.0

      by : Dec (x < u.nodes) → nth ns x ≡ unused
      by (yes lt) = at_slot (each x lt)
      by (no past) = get_or-eq_default ns unused (omega (arith, size))

  pub forest_held : HoldsForest ns f
  forest_held = record { trees = trees; unused = ascending_same (unused_up ns) (s.trees 0).ascending same; blank = blank }

-- NODESOF HOLDS A SOUND FOREST

module _ (given : PoolSettings) (f : Forest) (sound : SoundForest given f) where
  abbrev n : ℕ
  n = given.nodes

  used : (s : ℕ) → times s (places (forest_cells f)) + times s f.unused ≡ cond (ltb s n) 1 0
  used s =
      omega (arith, forest_places f s, times_append s (slots_of (tree_of 1 f)) (slots_of (tree_of 0 f)), (sound.trees 0).once s)

  inside : (s : ℕ) → s < n → times s (places (forest_cells f)) + times s f.unused ≡ 1
  inside s h = used s ∙ rw (lt-ltb s n h)

  outside : (s : ℕ) → n ≤ s → times s (places (forest_cells f)) + times s f.unused ≡ 0
  outside s h = used s ∙ rw (le-ltb s n h)

  low : (s : ℕ) → 0 < times s (places (forest_cells f)) → s < n
  low s h = by (dec_lt s n)
    where
      by : Dec (s < n) → s < n
      by (yes g) = g
      by (no g) = let le : n ≤ s = omega arith in absurd (omega (arith, outside s le))

  apart : (s : ℕ) → times s (places (forest_cells f)) ≤ 1
  apart s = by (dec_lt s n)
    where
      by : Dec (s < n) → times s (places (forest_cells f)) ≤ 1
      by (yes g) = omega (arith, inside s g)
      by (no g) = let le : n ≤ s = omega arith in omega (arith, outside s le)

  nodes_of_stand : All (Stands (nodes_of n f)) (forest_cells f)
  nodes_of_stand =
      all_both (λ c g e. nth_from n (forest_cells f) c.slot (low c.slot g) ∙ e)
      (by_place (λ (c : Cell). 0 < times c.slot (places (forest_cells f))) (forest_cells f) (λ c g. g)) (node_own (forest_cells f) apart)

  unused_free : (s : ℕ) → 0 < times s f.unused → nth (nodes_of n f) s ≡ unused
  unused_free s on = by (dec_lt s n)
    where
      by : Dec (s < n) → nth (nodes_of n f) s ≡ unused
      by (yes h) = nth_from n (forest_cells f) s h ∙ node_none (forest_cells f) s (omega (arith, inside s h))
      by (no h) = nth_past n (forest_cells f) s (omega arith)

  pub nodes_of_hold : HoldsForest (nodes_of n f) f
  nodes_of_hold = forest_held given f sound (nodes_of n f) (length_nodes_of n f) (both_hold (nodes_of n f) f nodes_of_stand) unused_free

  -- NODES THAT HOLD IT ARE NODESOF

  module _ (ns : List S.Node) (size : length ns ≡ n) (k : HoldsForest ns f) where
    unheld : (s : ℕ) → s < n → times s (places (forest_cells f)) ≡ 0 → nth ns s ≡ unused
    unheld s h e = k.blank s (by (ℕ_discrete (nth ns s).kind unused_kind))
      where
        one_unused : times s (unused_of ns) ≡ 1
        one_unused = ap (times s) k.unused ∙ omega (arith, inside s h)

        by : Dec ((nth ns s).kind ≡ unused_kind) → (nth ns s).kind ≡ unused_kind
        by (yes q) = q
        by (no q) = absurd (omega (arith, one_unused, used_none ns s q))

    pub held_nodes_of : ns ≡ nodes_of n f
    held_nodes_of =
        ext_get_or unused ns (nodes_of n f) (size ∙ sym (length_nodes_of n f))
        (λ s h. let g : s < n = omega arith in node_found ns (cells_stand ns f k.trees) s (unheld s g) ∙ sym (nth_from n (forest_cells f) s g))
