-- A tree whose keys ascend reaches no slot twice: each slot shows a key, the first below it, and a slot reached twice would show that key twice.
-- Assumes nothing.
use mathlib.Core.Path.{◌≡◌, refl, sym, ap, ◌∙◌, subst}
use mathlib.Core.List.{List, [], ◌∷◌, ◌++◌, map}
use Prim.Native.Nat.{ℕ, zero, suc, ◌+◌, ◌≤◌, ◌<◌}
use native.Mathlib.Omega.{arith}
use native.Mathlib.Decide.{ℕ_discrete}
use lib.ListN.{length, length-append}
use Rattle.slots_raw.specs.declared.Row.{Row}
use Rattle.slots.specs.Nodes.{nth}
use Rattle.slots.specs.Nodes as S
use Rattle.slots_raw.proofs.Over.{map_append}
use Rattle.model.specs.declared.Entry.{Entry}
use Rattle.model.specs.declared.Settings.{Settings}
use Rattle.model.specs.Lists.{hit, times, All, none, one, nil, cons}
use Rattle.model.specs.Tree.{Tree, entries, slots}
use Rattle.model.specs.Sound.{Whole, Sorted}
use Rattle.model.specs.Promises.{flat}
use Rattle.model.proofs.Lists.{all_append, all_map, hit_same, hit_other, times_append}
use Rattle.model.proofs.Numbers.{times_all}
use Rattle.model.proofs.Trees.{slots_in, slots_leaf, Ends, separator_ends}
use Rattle.tree.specs.Bridge.{child_of, tree_at}
use Rattle.tree.specs.Pool.{first_child, height_at, Kinds}
use Rattle.survey_node.proofs.Rows.{items_at}
use Rattle.survey.proofs.Edges.{edge_end, edge_down}

-- KEYS

abbrev keys_of : List Entry → List ℕ
keys_of es = map (λ e. e.key) es

keys_append : (k : ℕ) (a b : List Entry) → times k (keys_of (a ++ b)) ≡ times k (keys_of a) + times k (keys_of b)
keys_append k a b = ap (times k) (map_append (λ (e : Entry). e.key) a b) ∙ times_append k (keys_of a) (keys_of b)

-- above k there is no k
keys_none : (k : ℕ) {es : List Entry} → All (λ e. k < e.key) es → times k (keys_of es) ≡ 0
keys_none k none = refl
keys_none k (one {x = e} h hs) = omega (arith, hit_other k e.key (λ q. absurd (omega arith)), keys_none k hs)

keys_once : (k : ℕ) {es : List Entry} → Sorted es → times k (keys_of es) ≤ 1
keys_once k nil = omega arith
keys_once k (cons {x = e} {xs = es} h s) = by (ℕ_discrete k e.key) (keys_once k s)
  where
    by : Dec (k ≡ e.key) → times k (keys_of es) ≤ 1 → hit k e.key + times k (keys_of es) ≤ 1
    by (yes q) again = omega (arith, hit_same k e.key q, keys_none k (all_map (λ (f : Entry) (g : e.key < f.key). rw q g) h))
    by (no ne) again = omega (arith, hit_other k e.key ne)

-- the first key of a list
abbrev first_key : List Entry → ℕ
first_key [] = 0
first_key (e ∷ es) = e.key

first_there : (es : List Entry) → 0 < length es → 0 < times (first_key es) (keys_of es)
first_there [] h = absurd (omega arith)
first_there (e ∷ es) h = omega (arith, hit_same e.key e.key refl)

some_ends : {es : List Entry} {k : ℕ} → Ends es k → 0 < length es
some_ends e = omega (arith, ap length e.whole, length-append e.init (e.last ∷ []))

-- HEIGHTS: a slot has one, whoever reaches it

module _ (st : Settings) (ns : List S.Node) where
  -- a tree of stocked nodes of the right kinds
  abbrev Made : ℕ → ℕ → Type 0
  Made h s = Kinds ns h s × Whole st (suc h) (tree_at ns h s)

  height_made : (most h s : ℕ) → h ≤ most → Made h s → height_at ns most s ≡ h
  height_made most zero s le m = edge_end ns most s (λ e. absurd (omega (arith, m.0)))
  height_made zero (suc h) s le m = absurd (omega arith)
  height_made (suc most) (suc h) s le m =
      edge_down ns most s m.0.0 ∙ ap suc (first (nth ns s).rows m.0.1 m.1.0.some m.1.1 (height_made most h))
    where
      first : (rs : List Row) → All (λ r. Kinds ns h (child_of r)) rs → 0 < length (items_at ns (suc h) rs) → All (Whole st (suc h)) (items_at ns (suc h) rs)
          → ((c : ℕ) → h ≤ most → Made h c → height_at ns most c ≡ h) → height_at ns most (first_child rs) ≡ h
      first [] k some w f = absurd (omega arith)
      first (r ∷ rs) (one k ks) some (one w ws) f = f (child_of r) (omega arith) (k, w)

  -- every slot of a tree has at most its height
  module _ (h : ℕ) (f : (c : ℕ) → Made h c → All (λ x. height_at ns 8 x ≤ h) (slots (suc h) (tree_at ns h c))) where
    kids_low : {rs : List Row} → All (λ r. Kinds ns h (child_of r)) rs → All (Whole st (suc h)) (items_at ns (suc h) rs)
        → All (λ x. height_at ns 8 x ≤ h) (slots_in (suc h) (items_at ns (suc h) rs))
    kids_low none none = none
    kids_low (one {x = r} k ks) (one w ws) = all_append (f (child_of r) (k, w)) (kids_low ks ws)

  leaf_low : (es : List Entry) → All (λ x. height_at ns 8 x ≤ 0) (slots_in zero es)
  leaf_low [] = none
  leaf_low (e ∷ es) = leaf_low es

  slots_low : (h : ℕ) → h ≤ 8 → (s : ℕ) → Made h s → All (λ x. height_at ns 8 x ≤ h) (slots (suc h) (tree_at ns h s))
  slots_low zero le s m = one {x = s} (omega (arith, height_made 8 zero s le m)) (leaf_low (tree_at ns zero s).items)
  slots_low (suc h) le s m =
      one {x = s} (omega (arith, height_made 8 (suc h) s le m))
      (all_map (λ (x : ℕ) (g : height_at ns 8 x ≤ h). omega (arith, g)) (kids_low h (slots_low h (omega arith)) m.0.1 m.1.1))

  -- THE KEY THAT A SLOT SHOWS: the first below it

  abbrev shown : ℕ → ℕ
  shown x = first_key (entries (suc (height_at ns 8 x)) (tree_at ns (height_at ns 8 x) x))

  -- a tree shows it
  own_shown : (h s : ℕ) → h ≤ 8 → Made h s → 0 < times (shown s) (keys_of (entries (suc h) (tree_at ns h s)))
  own_shown h s le m =
      let es : List Entry = entries (suc h) (tree_at ns h s) in
      let e : shown s ≡ first_key es = ap (λ (g : ℕ). first_key (entries (suc g) (tree_at ns g s))) (height_made 8 h s le m) in
      subst (λ (k : ℕ). 0 < times k (keys_of es)) (sym e) (first_there es (some_ends (separator_ends st (suc h) (tree_at ns h s) m.1)))

  -- so a tree shows it as often as it reaches the slot
  module _ (x : ℕ) where
    module _ (h : ℕ) (f : (c : ℕ) → Made h c → times x (slots (suc h) (tree_at ns h c)) ≤ times (shown x) (keys_of (entries (suc h) (tree_at ns h c)))) where
      kids_shown : {rs : List Row} → All (λ r. Kinds ns h (child_of r)) rs → All (Whole st (suc h)) (items_at ns (suc h) rs)
          → times x (slots_in (suc h) (items_at ns (suc h) rs)) ≤ times (shown x) (keys_of (flat (suc h) (items_at ns (suc h) rs)))
      kids_shown none none = omega arith
      kids_shown (one {x = r} {xs = rs} k ks) (one w ws) =
          let t : Tree h = tree_at ns h (child_of r) in
          omega (
            arith,
            times_append x (slots (suc h) (tree_at ns h (child_of r))) (slots_in (suc h) (items_at ns (suc h) rs)),
            keys_append (shown x) (entries (suc h) (tree_at ns h (child_of r))) (flat (suc h) (items_at ns (suc h) rs)),
            f (child_of r) (k, w),
            kids_shown ks ws,
          )

    slots_shown : (h : ℕ) → h ≤ 8 → (s : ℕ) → Made h s → times x (slots (suc h) (tree_at ns h s)) ≤ times (shown x) (keys_of (entries (suc h) (tree_at ns h s)))
    slots_shown zero le s m = by (ℕ_discrete x s)
      where
        by : Dec (x ≡ s) → hit x s + times x (slots_in zero (tree_at ns zero s).items) ≤ times (shown x) (keys_of (entries 1 (tree_at ns zero s)))
        by (yes e) =
            omega (
              arith,
              hit_same x s e,
              slots_leaf x (tree_at ns zero s).items,
              ap (λ (y : ℕ). times (shown y) (keys_of (entries 1 (tree_at ns zero s)))) e,
              own_shown zero s le m,
            )
        by (no ne) = omega (arith, hit_other x s ne, slots_leaf x (tree_at ns zero s).items)
    slots_shown (suc h) le s m =
        by (ℕ_discrete x s) (kids_low h (slots_low h (omega arith)) m.0.1 m.1.1) (kids_shown h (slots_shown h (omega arith)) m.0.1 m.1.1)
      where
        by : Dec (x ≡ s) → All (λ y. height_at ns 8 y ≤ h) (slots_in (suc h) (tree_at ns (suc h) s).items)
            → times x (slots_in (suc h) (tree_at ns (suc h) s).items) ≤ times (shown x) (keys_of (entries (suc (suc h)) (tree_at ns (suc h) s)))
            → hit x s + times x (slots_in (suc h) (tree_at ns (suc h) s).items) ≤ times (shown x) (keys_of (entries (suc (suc h)) (tree_at ns (suc h) s)))
        by (yes e) low sum =
            omega (
              arith,
              hit_same x s e,
              zero_or (λ lt. absurd (omega (arith, ap (height_at ns 8) e, times_all (λ y. height_at ns 8 y ≤ h) low x lt, height_made 8 (suc h) s le m))),
              ap (λ (y : ℕ). times (shown y) (keys_of (entries (suc (suc h)) (tree_at ns (suc h) s)))) e,
              own_shown (suc h) s le m,
            )
          where
            zero_or : (0 < times x (slots_in (suc h) (tree_at ns (suc h) s).items) → ⊥) → times x (slots_in (suc h) (tree_at ns (suc h) s).items) ≡ 0
            zero_or never = omega arith
        by (no ne) low sum = omega (arith, hit_other x s ne, sum)

    pub slots_once : (h s : ℕ) → h ≤ 8 → Kinds ns h s → Whole st (suc h) (tree_at ns h s) → Sorted (entries (suc h) (tree_at ns h s))
        → times x (slots (suc h) (tree_at ns h s)) ≤ 1
    slots_once h s le k w sorted = omega (arith, slots_shown h le s (k, w), keys_once (shown x) sorted)
