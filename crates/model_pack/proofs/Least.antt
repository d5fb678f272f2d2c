-- No index over the same entries is smaller than a packed one: in each level, in depth and in nodes. Assumes nothing.
use mathlib.Core.Path.{◌≡◌, sym, ap, ◌∙◌}
use mathlib.Core.List.{List, [], ◌∷◌}
use Prim.Native.Nat.{ℕ, zero, suc, ◌+◌, ◌*◌, ◌≤◌, ◌<◌}
use native.Mathlib.Omega.{arith}
use native.Mathlib.Decide.{dec_le}
use native.Mathlib.Nat.{le_refl, le_trans, lt_of_mul-lt-mul_left}
use lib.ListN.{length}
use Rattle.model.specs.declared.Entry.{Entry}
use Rattle.model.specs.declared.Settings.{Settings}
use Rattle.model.specs.Lists.{All, none, one}
use Rattle.model.specs.Tree.{Tree, Index, len, entries, slots, entries_of}
use Rattle.model.specs.Sound.{Whole, Rooted}
use Rattle.model_pack.specs.Packing.{lengths_at, level, Full, Over, Least}
use Rattle.model.proofs.Trees.{root_few}
use Rattle.model_pack.proofs.Levels.{sum, level_leaf, level_top, leaves_sum, level_sum, level_each, root_some, root_two}
use Rattle.model_pack.proofs.Levels.{low_nodes, low_grows, all_levels}

-- ONE LEVEL

-- nodes that are full but for the last, which is not empty, hold more than one node less could ..
full_many : (o : ℕ) → 1 ≤ o → (l : List ℕ) → Full o l → All (λ n. 0 < n) l → o * length l < sum l + o
full_many o wide [] f none = omega arith
full_many o wide (n ∷ []) f (one g none) = omega arith
full_many o wide (n ∷ (m ∷ ns)) f (one g gs) = omega (arith, f.0, full_many o wide (m ∷ ns) f.1 gs)

few_hold : (o : ℕ) {l : List ℕ} → All (λ n. n ≤ o) l → sum l ≤ o * length l
few_hold o none = omega arith
few_hold o (one g gs) = omega (arith, few_hold o gs)

-- .. so no nodes that hold as much are fewer
full_least : (o : ℕ) → 1 ≤ o → (a b : List ℕ) → Full o a → All (λ n. 0 < n) a → All (λ n. n ≤ o) b → sum a ≤ sum b → length a ≤ length b
full_least o wide a b f some few le =
    let lt : o * length a < o * suc (length b) = omega (arith, full_many o wide a f some, few_hold o few) in
    omega (arith, lt_of_mul-lt-mul_left o lt)

-- TWO TREES of one order over as many entries, the first of them full in every level

record Made (o h : ℕ) (t : Tree h) : Type 0 where
  settings : Settings
  order : settings.order ≡ o
  whole : All (Whole settings h) t.items
  rooted : Rooted settings h t

made_few : (o h : ℕ) (t : Tree h) → Made o h t → (j : ℕ) → All (λ n. n ≤ o) (lengths_at j h t)
made_few o h t m j =
    let root : len t ≤ o = omega (arith, root_few m.settings h t m.rooted, m.order) in
    level_each m.settings (λ n. n ≤ o) (λ n p q. omega (arith, m.order)) j h t root m.whole

low_least : (g h : ℕ) (s : Tree g) (t : Tree h) (k : ℕ) → ((j : ℕ) → j < k → length (lengths_at j g s) ≤ length (lengths_at j h t))
    → low_nodes k g s ≤ low_nodes k h t
low_least g h s t zero f = omega arith
low_least g h s t (suc k) f = omega (arith, f k (le_refl _), low_least g h s t k (λ j lt. f j (omega arith)))

module _ (o : ℕ) (wide : 1 ≤ o) (h : ℕ) (t : Tree h) (n : Made o h t) where
  -- from one level to the next, as high as both trees are: what is below a level of the first is not more than what is below that of the second
  level_least : (g : ℕ) (s : Tree g) → ((j : ℕ) → Full o (lengths_at j g s)) → ((j : ℕ) → All (λ k. 0 < k) (lengths_at j g s))
      → length (entries (suc g) s) ≡ length (entries (suc h) t) → (j : ℕ) → j ≤ g → j ≤ h → length (lengths_at j g s) ≤ length (lengths_at j h t)
  level_least g s full some e zero p q =
      full_least o wide _ _ (full 0) (some 0) (made_few o h t n 0) (omega (arith, leaves_sum g s, leaves_sum h t))
  level_least g s full some e (suc j) p q =
      let below : length (lengths_at j g s) ≤ length (lengths_at j h t) = level_least g s full some e j (omega arith) (omega arith) in
      full_least o wide _ _ (full (suc j)) (some (suc j)) (made_few o h t n (suc j)) (omega (arith, level_sum j g s p, level_sum j h t q))

  -- a lone leaf may be empty, and is one node all the same
  shared_least : (g : ℕ) (s : Tree g) → Made o g s → ((j : ℕ) → Full o (lengths_at j g s)) → length (entries (suc g) s) ≡ length (entries (suc h) t)
      → (j : ℕ) → j ≤ g → j ≤ h → length (lengths_at j g s) ≤ length (lengths_at j h t)
  shared_least zero s m full e j p q = rw (level_leaf j s p) (root_some n.settings j h t n.rooted n.whole q)
  shared_least (suc g) s m full e j p q =
      level_least (suc g) s full
      (λ i. level_each m.settings (λ k. 0 < k) (λ k a b. a) i (suc g) s (omega (arith, m.rooted.0)) m.whole) e j p q

  -- were the first deeper, it would have two nodes where the second has its root
  not_deeper : (g : ℕ) (s : Tree g) → Made o g s → ((j : ℕ) → Full o (lengths_at j g s)) → length (entries (suc g) s) ≡ length (entries (suc h) t)
      → g ≤ h
  not_deeper zero s m full e = omega arith
  not_deeper (suc g) s m full e = by (dec_le (suc g) h)
    where
      by : Dec (suc g ≤ h) → suc g ≤ h
      by (yes le) = le
      by (no gt) =
          let le : h ≤ g = omega arith in
          absurd
          (omega (
            arith,
            root_two m.settings h g s m.rooted m.whole le,
            shared_least (suc g) s m full e h (omega arith) (le_refl _),
            ap length (level_top h t),
          ))

record Smaller (g h : ℕ) (s : Tree g) (t : Tree h) : Type 0 where
  levels : (j : ℕ) → j ≤ g → length (lengths_at j g s) ≤ length (lengths_at j h t)
  shallow : g ≤ h
  nodes : length (slots (suc g) s) ≤ length (slots (suc h) t)

smaller : (o : ℕ) → 1 ≤ o → (g h : ℕ) (s : Tree g) (t : Tree h) → Made o g s → Made o h t → ((j : ℕ) → Full o (lengths_at j g s))
    → length (entries (suc g) s) ≡ length (entries (suc h) t) → Smaller g h s t
smaller o wide g h s t m n full e =
    let le : g ≤ h = not_deeper o wide h t n g s m full e in
    let each : (j : ℕ) → j ≤ g → length (lengths_at j g s) ≤ length (lengths_at j h t) =
    λ j p. shared_least o wide h t n g s m full e j p (le_trans p le) in
    let low : low_nodes (suc g) g s ≤ low_nodes (suc g) h t = low_least g h s t (suc g) (λ j lt. each j (omega arith)) in
    record {
      levels = each;
      shallow = le;
      nodes = omega (arith, all_levels g s, all_levels h t, low_grows (suc g) (suc h) h t (omega arith));
    }

-- A PACKED INDEX

pub least_law : (o : ℕ) (st : Settings) (es : List Entry) (x : Index) → 1 ≤ o → st.order ≡ o → All (Whole st x.height) x.root.items
    → Rooted st x.height x.root → entries_of x ≡ es → ((j : ℕ) → Full o (level j x)) → Least o es x
least_law o st es x wide e w r same full =
    record {
      levels = λ y v. (compare y v).levels;
      shallow = λ y v. omega (arith, (compare y v).shallow);
      nodes = λ y v. (compare y v).nodes;
    }
  where
    compare : (y : Index) → Over o es y → Smaller x.height y.height x.root y.root
    compare y v =
        smaller o wide x.height y.height x.root y.root (record { settings = st; order = e; whole = w; rooted = r })
        (record { settings = v.settings; order = v.order; whole = v.sound.whole; rooted = v.sound.rooted }) full
        (ap length (same ∙ sym v.entries))
