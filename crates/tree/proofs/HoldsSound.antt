-- Nodes that hold a sound index are sound nodes, and the index that is read off them is that index. Assumes nothing.
use mathlib.Core.Path.{◌≡◌, refl, sym, ap, ◌∙◌, subst}
use mathlib.Core.List.{List, [], ◌∷◌, map}
use Prim.Native.Nat.{ℕ, zero, suc, ◌≤◌, ◌<◌}
use native.Mathlib.Omega.{arith}
use lib.ListN.{length}
use Rattle.slots_raw.specs.declared.Row.{Row}
use Rattle.slots.specs.Nodes as S
use Rattle.model.specs.declared.Settings.{Settings}
use Rattle.model.specs.Lists.{All, one}
use Rattle.model.specs.Tree.{Tree, Index, len, depth, entries_of}
use Rattle.model.specs.Sound.{Whole, Rooted, Sorted, Fits, Sound}
use Rattle.model.proofs.Lists.{all_left, all_head, all_tail}
use Rattle.tree.specs.Bridge.{child_of, row_for, cells, cells_of, Stands, Holds, tree_at, unused_of}
use Rattle.tree.specs.Pool.{first_child, height_at, index_in, Kinds, EachChild, Separates, Totalled, SoundNodes}
use Rattle.tree.proofs.ReadOff.{Light, Lights, light_first, child_slot, held_tree, rows_have}
use Rattle.tree.proofs.Sums.{child_total}
use Rattle.tree.proofs.Few.{entries_most}

-- KINDS

held_kinds : (ns : List S.Node) (h : ℕ) (t : Tree h) → Light h t → Holds ns h t → Kinds ns h t.slot
held_kinds ns zero t few k = ap (λ (n : S.Node). n.kind) (all_head k)
held_kinds ns (suc h) t few k = (ap (λ (n : S.Node). n.kind) (all_head k), rows_have ns h (λ r. Kinds ns h (child_of r)) (below (held_kinds ns h)) t few k)
  where
    below : ((c : Tree h) → Light h c → Holds ns h c → Kinds ns h c.slot) → (c : Tree h) → Light h c → Holds ns h c → Kinds ns h (child_of (row_for (suc h) c))
    below f c light mine = subst (Kinds ns h) (sym (child_slot h c light)) (f c light mine)

-- SEPARATORS AND TOTALS: what holds of each child's own row holds of the rows in the nodes

module _ (P : (h : ℕ) → Row → Tree h → Type 0) (p : (h : ℕ) (c : Tree h) → Light h c → P h (row_for (suc h) c) c) where
  held_each : (ns : List S.Node) (h : ℕ) (t : Tree h) → Light h t → Holds ns h t → EachChild P ns h t.slot
  held_each ns zero t few k = tt
  held_each ns (suc h) t few k = rows_have ns h (λ r. P h r (tree_at ns h (child_of r)) × EachChild P ns h (child_of r)) (below (held_each ns h)) t few k
    where
      below : ((c : Tree h) → Light h c → Holds ns h c → EachChild P ns h c.slot) → (c : Tree h) → Light h c → Holds ns h c
          → P h (row_for (suc h) c) (tree_at ns h (child_of (row_for (suc h) c))) × EachChild P ns h (child_of (row_for (suc h) c))
      below f c light mine =
          let slot : child_of (row_for (suc h) c) ≡ c.slot = child_slot h c light in
          let child : tree_at ns h (child_of (row_for (suc h) c)) ≡ c = ap (tree_at ns h) slot ∙ held_tree ns h c light mine in
          (subst (P h (row_for (suc h) c)) (sym child) (p h c light), subst (EachChild P ns h) (sym slot) (f c light mine))

own_separator : (h : ℕ) (c : Tree h) → Light h c → Separates h (row_for (suc h) c) c
own_separator h c few = refl

own_totals : (h : ℕ) (c : Tree h) → Light h c → Totalled h (row_for (suc h) c) c
own_totals h c few = child_total h c few

-- THE HEIGHT is found down the left edge

module _ (st : Settings) (ns : List S.Node) where
  edge : (most h : ℕ) → ((c : Tree h) → Whole st (suc h) c → Light h c → Holds ns h c → height_at ns most c.slot ≡ h)
      → (t : Tree (suc h)) → 0 < len t → All (Whole st (suc h)) t.items → Light (suc h) t → Holds ns (suc h) t → height_at ns (suc most) t.slot ≡ suc h
  edge most h f t some w few k = rw (all_head k) (down t.items some w few (all_tail k))
    where
      down : (cs : List (Tree h)) → 0 < length cs → All (Whole st (suc h)) cs → Lights h cs → All (Stands ns) (cells_of (suc h) cs)
          → suc (height_at ns most (first_child (map (row_for (suc h)) cs))) ≡ suc h
      down [] some w few k = absurd (omega arith)
      down (c ∷ cs) some (one w ws) few k =
          let light : Light h c = light_first h c cs few in
          ap (λ (s : ℕ). suc (height_at ns most s)) (child_slot h c light) ∙ ap suc (f c w light (all_left (cells (suc h) c) (cells_of (suc h) cs) k))

  height_below : (most h : ℕ) → h ≤ most → (t : Tree h) → Whole st (suc h) t → Light h t → Holds ns h t → height_at ns most t.slot ≡ h
  height_below zero zero le t w few k = refl
  height_below zero (suc h) le t w few k = absurd (omega arith)
  height_below (suc most) zero le t w few k = rw (all_head k)
  height_below (suc most) (suc h) le t w few k = edge most h (height_below most h (omega arith)) t w.0.some w.1 few k

  -- a leaf root may be empty
  held_height : (most h : ℕ) → h ≤ most → (t : Tree h) → Rooted st h t → All (Whole st h) t.items → Light h t → Holds ns h t → height_at ns most t.slot ≡ h
  held_height zero zero le t r w few k = refl
  held_height zero (suc h) le t r w few k = absurd (omega arith)
  held_height (suc most) zero le t r w few k = rw (all_head k)
  held_height (suc most) (suc h) le t r w few k = edge most h (height_below most h (omega arith)) t (omega (arith, r.0)) w few k

-- THE INDEX

-- beside whatever is in use elsewhere
module _ (st : Settings) {elsewhere : List ℕ} (ns : List S.Node) (x : Index) (sound : Sound st elsewhere x) (k : Holds ns x.height x.root) (u : unused_of ns ≡ x.unused) where
  light_root : Light x.height x.root
  light_root = omega (arith, entries_most st x sound)

  -- the index that is read off is the one that is held
  pub held_index : index_in st.root ns ≡ x
  held_index =
      let height : height_at ns 8 st.root ≡ x.height =
      ap (height_at ns 8) (sym sound.root_slot) ∙ held_height st ns 8 x.height (omega (arith, sound.shallow)) x.root sound.rooted sound.whole light_root k in
      let root : tree_at ns x.height st.root ≡ x.root = ap (tree_at ns x.height) (sym sound.root_slot) ∙ held_tree ns x.height x.root light_root k in
      ap (λ (h : ℕ). record { height = h; root = tree_at ns h st.root; unused = unused_of ns }) height
      ∙ ap (λ (t : Tree x.height). record { height = x.height; root = t; unused = unused_of ns }) root
      ∙ ap (λ (l : List ℕ). record { height = x.height; root = x.root; unused = l }) u

  pub held_sound : SoundNodes st ns
  held_sound =
      let e : x ≡ index_in st.root ns = sym held_index in
      let light : Light x.height x.root = light_root in
      let at-root : (P : ℕ → Type 0) → P x.root.slot → P st.root = λ P p. subst P sound.root_slot p in
      record {
        kinds = subst (λ (y : Index). Kinds ns y.height st.root) e (at-root (Kinds ns x.height) (held_kinds ns x.height x.root light k));
        shallow = subst (λ (y : Index). depth y ≤ 8) e sound.shallow;
        rooted = subst (λ (y : Index). Rooted st y.height y.root) e sound.rooted;
        whole = subst (λ (y : Index). All (Whole st y.height) y.root.items) e sound.whole;
        sorted = subst (λ (y : Index). Sorted (entries_of y)) e sound.sorted;
        fit = subst (λ (y : Index). All Fits (entries_of y)) e sound.fit;
        separators = subst (λ (y : Index). EachChild Separates ns y.height st.root) e
            (at-root (EachChild Separates ns x.height) (held_each Separates own_separator ns x.height x.root light k));
        totals = subst (λ (y : Index). EachChild Totalled ns y.height st.root) e
            (at-root (EachChild Totalled ns x.height) (held_each Totalled own_totals ns x.height x.root light k));
      }
