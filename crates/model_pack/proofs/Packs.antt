-- The packed tree: it has the entries in their order, levels that are full, and slots in preorder; and it is whole. So the packed index is sound
-- where the pool has nodes enough. Assumes nothing.
use mathlib.Core.Path.{◌≡◌, refl, sym, ap, ◌∙◌, subst}
use mathlib.Core.Bool.{true}
use mathlib.Core.List.{List, [], ◌∷◌, ◌++◌, map, append-nil}
use Prim.Native.Nat.{ℕ, zero, suc, ◌+◌, ◌-◌, ◌*◌, ◌≤◌, ◌<◌}
use native.Mathlib.Omega.{arith}
use native.Mathlib.Decide.{dec_lt}
use native.Mathlib.Nat.{le_trans, suc-mul, mul-le-mul_right}
use lib.Dec.{eqb}
use lib.ListN.{length, length-append}
use borrow.Author.Tests.{eqb-true}
use Rattle.model.specs.declared.Entry.{Entry}
use Rattle.model.specs.declared.Settings.{Settings}
use Rattle.model.specs.Lists.{concat, up_from, All, none, one}
use Rattle.model.specs.Tree.{Tree, Index, len, entries, slots, entries_of, slots_of}
use Rattle.model.specs.Frame.{nodes_in}
use Rattle.model.specs.Sound.{InLimits, Whole, Rooted, Sorted, Fits, Ascending, Once, Sound}
use Rattle.model.specs.Promises.{flat}
use Rattle.model_pack.specs.Pack.{capacity, height_for, pieces, in_preorder, packed, is_new}
use Rattle.model_pack.specs.Packing.{lengths_at, Full, Over}
use Rattle.model.specs.Forest.{bare_leaf, index_with}
use Rattle.model_pack.specs.PackForest.{packed_tree, IsPackedTree}
use Rattle.model.proofs.Lists.{by_test, both_left, both_right, all_append, all_every, all_both}
use Rattle.model.proofs.Trees.{flat_zero, slots_in, leaf_bare, root_few}
use Rattle.model.proofs.Numbers.{up_append}
use Rattle.model_pack.proofs.Pieces.{capacity_some, capacity_up, height_fits, height_most, height_least, full_append, pieces_join, pieces_few, pieces_small, pieces_some, pieces_full, pieces_even, pieces_all, pieces_one, pieces_two}

-- SIBLINGS, made by a function that packs each

module _ (h : ℕ) (pack : ℕ → ℕ → List Entry → Tree h) where
  pub siblings_count : (i : ℕ) (ps : List (List Entry)) → length (in_preorder h pack i ps) ≡ length ps
  siblings_count i [] = refl
  siblings_count i (p ∷ ps) = ap suc (siblings_count (i + nodes_in (suc h) (pack i (suc i) p)) ps)

  -- what the pieces are like the siblings are
  siblings_all : (P : List Entry → Type 0) (Q : Tree h → Type 0) → ((s i : ℕ) (p : List Entry) → P p → Q (pack s i p))
      → (i : ℕ) {ps : List (List Entry)} → All P ps → All Q (in_preorder h pack i ps)
  siblings_all P Q f i none = none
  siblings_all P Q f i (one {x = p} g gs) = one (f i (suc i) p g) (siblings_all P Q f (i + nodes_in (suc h) (pack i (suc i) p)) gs)

  siblings_entries : (P : List Entry → Type 0) → ((s i : ℕ) (p : List Entry) → P p → entries (suc h) (pack s i p) ≡ p)
      → (i : ℕ) {ps : List (List Entry)} → All P ps → flat (suc h) (in_preorder h pack i ps) ≡ concat ps
  siblings_entries P f i none = refl
  siblings_entries P f i (one {x = p} {xs = ps} g gs) =
      let j : ℕ = i + nodes_in (suc h) (pack i (suc i) p) in
      ap (◌++ flat (suc h) (in_preorder h pack j ps)) (f i (suc i) p g) ∙ ap (p ++◌) (siblings_entries P f j gs)

  -- their slots are the numbers from i up, where each has its own and then those that come next
  pub siblings_slots : ((s i : ℕ) (p : List Entry) → slots (suc h) (pack s i p) ≡ s ∷ up_from i (nodes_in (suc h) (pack s i p) - 1))
      → (i : ℕ) (ps : List (List Entry)) → let cs = in_preorder h pack i ps in slots_in (suc h) cs ≡ up_from i (length (slots_in (suc h) cs))
  siblings_slots f i [] = refl
  siblings_slots f i (p ∷ ps) =
      let c : Tree h = pack i (suc i) p in
      let k : ℕ = nodes_in (suc h) c in
      let cs : List (Tree h) = in_preorder h pack (i + k) ps in
      let n : suc (k - 1) ≡ k = omega arith in
      let first : slots (suc h) c ≡ up_from i k = f i (suc i) p ∙ ap (up_from i) n in
      ap (◌++ slots_in (suc h) cs) first ∙ ap (up_from i k ++◌) (siblings_slots f (i + k) ps) ∙ up_append i k (length (slots_in (suc h) cs)) (i + k) refl
      ∙ ap (up_from i) (sym (length-append (slots (suc h) c) (slots_in (suc h) cs)))

-- THE PACKED TREE

-- the same entries
pub packed_entries : (o h s i : ℕ) (es : List Entry) → length es ≤ capacity o h → entries (suc h) (packed o h s i es) ≡ es
packed_entries o zero s i es fit = flat_zero es
packed_entries o (suc h) s i es fit =
    siblings_entries h (packed o h) (λ p. length p ≤ capacity o h) (packed_entries o h) i (pieces_small o (capacity o h) es)
    ∙ pieces_join o (capacity o h) es fit

-- slots in preorder

pub packed_slot : (o h s i : ℕ) (es : List Entry) → (packed o h s i es).slot ≡ s
packed_slot o zero s i es = refl
packed_slot o (suc h) s i es = refl

leaf_none : (es : List Entry) → slots_in zero es ≡ []
leaf_none [] = refl
leaf_none (e ∷ es) = leaf_none es

pub packed_slots : (o h s i : ℕ) (es : List Entry) → slots (suc h) (packed o h s i es) ≡ s ∷ up_from i (nodes_in (suc h) (packed o h s i es) - 1)
packed_slots o zero s i es =
    let n : 0 ≡ suc (length (slots_in zero es)) - 1 = omega (arith, leaf_bare es) in
    ap (s ∷◌) (leaf_none es ∙ ap (up_from i) n)
packed_slots o (suc h) s i es =
    let cs : List (Tree h) = in_preorder h (packed o h) i (pieces o (capacity o h) es) in
    let n : length (slots_in (suc h) cs) ≡ suc (length (slots_in (suc h) cs)) - 1 = omega arith in
    ap (s ∷◌) (siblings_slots h (packed o h) (packed_slots o h) i (pieces o (capacity o h) es) ∙ ap (up_from i) n)

-- so the root's slot and the others are numbers from the root's up, where those come next
pub packed_preorder : (o h s : ℕ) (es : List Entry) → let t = packed o h s (suc s) es in slots (suc h) t ≡ up_from s (nodes_in (suc h) t)
packed_preorder o h s es =
    let k : ℕ = nodes_in (suc h) (packed o h s (suc s) es) in
    let n : suc (k - 1) ≡ k = omega arith in
    packed_slots o h s (suc s) es ∙ ap (up_from s) n

-- nodes of 1 to order items

module _ (st : Settings) (pos : 0 < st.order) where
  below_whole : (h : ℕ) → ((s i : ℕ) (p : List Entry) → 0 < length p → length p ≤ capacity st.order h → Whole st (suc h) (packed st.order h s i p))
      → (s i : ℕ) (es : List Entry) → All (Whole st (suc h)) (packed st.order (suc h) s i es).items
  below_whole h f s i es =
      let n : ℕ = capacity st.order h in
      siblings_all h (packed st.order h) (λ p. (0 < length p) × (length p ≤ n)) (Whole st (suc h)) (λ t k p g. f t k p g.0 g.1) i
      (all_both (λ p g k. (g, k)) (pieces_some st.order n (capacity_some st.order pos h) es) (pieces_small st.order n es))

  pub packed_whole : (h s i : ℕ) (es : List Entry) → 0 < length es → length es ≤ capacity st.order h → Whole st (suc h) (packed st.order h s i es)
  packed_whole zero s i es some fit = (record { some = some; few = fit }, all_every es (λ e. tt))
  packed_whole (suc h) s i es some fit =
      let ps : List (List Entry) = pieces st.order (capacity st.order h) es in
      let count : length (in_preorder h (packed st.order h) i ps) ≡ length ps = siblings_count h (packed st.order h) i ps in
      let one_piece : 0 < length ps = pieces_one st.order (capacity st.order h) es fit some in
      (record { some = omega arith; few = omega (arith, pieces_few st.order (capacity st.order h) es) }, below_whole h (packed_whole h) s i es)

  -- those below the root are so of no entries too
  pub packed_items : (h s i : ℕ) (es : List Entry) → All (Whole st h) (packed st.order h s i es).items
  packed_items zero s i es = all_every es (λ e. tt)
  packed_items (suc h) s i es = below_whole h (packed_whole h) s i es

  -- a root of the least height is no lone child's parent
  pub packed_rooted : (h s i : ℕ) (es : List Entry) → length es ≤ capacity st.order h → ((k : ℕ) → length es ≤ capacity st.order k → h ≤ k)
      → Rooted st h (packed st.order h s i es)
  packed_rooted zero s i es fit least = fit
  packed_rooted (suc h) s i es fit least =
      let ps : List (List Entry) = pieces st.order (capacity st.order h) es in
      let count : length (in_preorder h (packed st.order h) i ps) ≡ length ps = siblings_count h (packed st.order h) i ps in
      let two : 2 ≤ length ps = pieces_two st.order (capacity st.order h) es fit (over (dec_lt (capacity st.order h) (length es))) in
      (omega arith, omega (arith, pieces_few st.order (capacity st.order h) es))
    where
      over : Dec (capacity st.order h < length es) → capacity st.order h < length es
      over (yes lt) = lt
      over (no ge) = let low : suc h ≤ h = least h (omega arith) in absurd (omega arith)

-- levels that are full

module _ (o : ℕ) (pos : 0 < o) (j : ℕ) where
  sated_siblings : (h : ℕ) → ((s i : ℕ) (p : List Entry) → length p ≡ capacity o h → All (λ n. n ≡ o) (lengths_at j h (packed o h s i p)))
      → (i : ℕ) {ps : List (List Entry)} → All (λ p. length p ≡ capacity o h) ps
      → All (λ n. n ≡ o) (concat (map (lengths_at j h) (in_preorder h (packed o h) i ps)))
  sated_siblings h f i none = none
  sated_siblings h f i (one {x = p} e es) = all_append (f i (suc i) p e) (sated_siblings h f (i + nodes_in (suc h) (packed o h i (suc i) p)) es)

  -- a tree that holds all that it can is full to the last node ..
  packed_sated : (h s i : ℕ) (es : List Entry) → length es ≡ capacity o h → All (λ n. n ≡ o) (lengths_at j h (packed o h s i es))
  packed_sated zero s i es e = by_test (All (λ n. n ≡ o)) (eqb j zero) (λ q. one e none) (λ q. none)
  packed_sated (suc h) s i es e =
      let n : ℕ = capacity o h in
      let ps : List (List Entry) = pieces o n es in
      by_test (All (λ n. n ≡ o)) (eqb j (suc h))
      (λ q. one (siblings_count h (packed o h) i ps ∙ pieces_all o n (capacity_some o pos h) es e) none)
      (λ q. sated_siblings h (packed_sated h) i (pieces_even o n es e))

  full_siblings : (h : ℕ) → ((s i : ℕ) (p : List Entry) → length p ≤ capacity o h → Full o (lengths_at j h (packed o h s i p)))
      → (i : ℕ) (ps : List (List Entry)) → Full (capacity o h) (map length ps)
      → Full o (concat (map (lengths_at j h) (in_preorder h (packed o h) i ps)))
  full_siblings h f i [] full = tt
  full_siblings h f i (p ∷ []) full = subst (Full o) (sym (append-nil (lengths_at j h (packed o h i (suc i) p)))) (f i (suc i) p full)
  full_siblings h f i (p ∷ (q ∷ ps)) full =
      let k : ℕ = i + nodes_in (suc h) (packed o h i (suc i) p) in
      full_append o (concat (map (lengths_at j h) (in_preorder h (packed o h) k (q ∷ ps)))) (packed_sated h i (suc i) p full.0)
      (full_siblings h f k (q ∷ ps) full.1)

  -- .. and any other but for the last one
  pub packed_full : (h s i : ℕ) (es : List Entry) → length es ≤ capacity o h → Full o (lengths_at j h (packed o h s i es))
  packed_full zero s i es fit = by_test (Full o) (eqb j zero) (λ q. fit) (λ q. tt)
  packed_full (suc h) s i es fit =
      let n : ℕ = capacity o h in
      let ps : List (List Entry) = pieces o n es in
      by_test (Full o) (eqb j (suc h)) (λ q. omega (arith, siblings_count h (packed o h) i ps, pieces_few o n es))
      (λ q. full_siblings h (packed_full h) i ps (pieces_full o n es))

-- A SOUND INDEX OVER SOME ENTRIES: they are no more than a tree of its height can hold

module _ (st : Settings) where
  items_fit : (h : ℕ) → ((c : Tree h) → Whole st (suc h) c → length (entries (suc h) c) ≤ capacity st.order h)
      → {cs : List (Tree h)} → All (Whole st (suc h)) cs → length (flat (suc h) cs) ≤ length cs * capacity st.order h
  items_fit h f none = omega arith
  items_fit h f (one {x = c} {xs = cs} w ws) =
      omega (arith, length-append (entries (suc h) c) (flat (suc h) cs), f c w, items_fit h f ws, suc-mul (length cs) (capacity st.order h))

  pub tree_fits : (h : ℕ) (n : Tree h) → len n ≤ st.order → All (Whole st h) n.items → length (entries (suc h) n) ≤ capacity st.order h
  tree_fits zero n few w = omega (arith, ap length (flat_zero n.items))
  tree_fits (suc h) n few w =
      le_trans (items_fit h (λ c g. tree_fits h c g.0.few g.1) w) (mul-le-mul_right (capacity st.order h) few)

module _ {o : ℕ} {es : List Entry} {y : Index} (v : Over o es y) where
  pub over_few : length es ≤ capacity o y.height
  over_few =
      let few : length (entries_of y) ≤ capacity v.settings.order y.height =
      tree_fits v.settings y.height y.root (root_few v.settings y.height y.root v.sound.rooted) v.sound.whole in
      omega (arith, ap length v.entries, ap (λ (n : ℕ). capacity n y.height) v.order)

  pub over_wide : 4 ≤ o
  over_wide = omega (arith, v.sound.settings.wide, v.order)

  -- nor than one of depth 8
  pub over_fits : length es ≤ capacity o 7
  over_fits = le_trans over_few (capacity_up o (omega (arith, over_wide)) y.height 7 (omega (arith, v.sound.shallow)))

  pub over_sorted : Sorted es
  over_sorted = subst Sorted v.entries v.sound.sorted

  pub over_fit : All Fits es
  over_fit = subst (All Fits) v.entries v.sound.fit

-- A PACKED TREE over the entries of a sound index, wherever its other nodes stand and whatever slots are unused

module _ (st : Settings) (i : ℕ) (es : List Entry) (us : List ℕ) {x : Index} (v : Over st.order es x) where
  packed_fits : length es ≤ capacity st.order (height_for st.order (length es))
  packed_fits = height_fits st.order (length es) (over_fits v)

  pub is_packed_tree : IsPackedTree st.order st.root i es (index_with (packed_tree st i es) us)
  is_packed_tree =
      let o : ℕ = st.order in
      let h : ℕ = height_for o (length es) in
      record {
        same = packed_entries o h st.root i es packed_fits;
        full = λ j. packed_full o (omega (arith, over_wide v)) j h st.root i es packed_fits;
        preorder = packed_slots o h st.root i es;
      }

  pub packed_tree_whole : All (Whole st (packed_tree st i es).height) (packed_tree st i es).root.items
  packed_tree_whole = packed_items st (omega (arith, over_wide v)) (height_for st.order (length es)) st.root i es

  pub packed_tree_rooted : Rooted st (packed_tree st i es).height (packed_tree st i es).root
  packed_tree_rooted =
      packed_rooted st (omega (arith, over_wide v)) (height_for st.order (length es)) st.root i es packed_fits (height_least st.order (length es))

  pub packed_tree_sound : InLimits st → (away : List ℕ) → Once st.nodes (away ++ slots_of (index_with (packed_tree st i es) us)) us → Ascending us
      → Sound st away (index_with (packed_tree st i es) us)
  packed_tree_sound lim away once up =
      let o : ℕ = st.order in
      let h : ℕ = height_for o (length es) in
      record {
        settings = lim;
        root_slot = packed_slot o h st.root i es;
        once = once;
        shallow = omega (arith, height_most o (length es));
        rooted = packed_tree_rooted;
        whole = packed_tree_whole;
        sorted = subst Sorted (sym is_packed_tree.same) (over_sorted v);
        fit = subst (All Fits) (sym is_packed_tree.same) (over_fit v);
        ascending = up;
      }

-- A NEW TREE

-- a tree that is one empty leaf
leaf_new : (s : ℕ) (t : Tree 0) (us : List ℕ) → t.slot ≡ s → t.items ≡ []
    → ◌≡◌ {A = Index} (record { height = zero; root = t; unused = us }) (index_with (bare_leaf s) us)
leaf_new s t us p q = λ j. record { height = zero; root = record { slot = p j; items = q j }; unused = us }

tree_new : (s h : ℕ) (t : Tree h) (us : List ℕ) → t.slot ≡ s → h ≡ 0 → len t ≡ 0
    → ◌≡◌ {A = Index} (record { height = h; root = t; unused = us }) (index_with (bare_leaf s) us)
tree_new s zero t us slot low e = leaf_new s t us slot (empty t.items e)
  where
    empty : {A : Type 0} (l : List A) → length l ≡ 0 → l ≡ []
    empty [] e = refl
    empty (x ∷ l) e = absurd (omega arith)
tree_new s (suc h) t us slot low e = absurd (omega arith)

-- it is in the root's slot, whatever is in use elsewhere
pub new_leaf : (st : Settings) {away : List ℕ} (y : Index) → Sound st away y → is_new y ≡ true → y ≡ index_with (bare_leaf st.root) y.unused
new_leaf st y s e =
    let low : eqb y.height 0 ≡ true = both_left (eqb y.height 0) (eqb (len y.root) 0) e in
    let bare : eqb (len y.root) 0 ≡ true = both_right (eqb y.height 0) (eqb (len y.root) 0) e in
    tree_new st.root y.height y.root y.unused s.root_slot (eqb-true y.height 0 low) (eqb-true (len y.root) 0 bare)
