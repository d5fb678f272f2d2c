-- Of the levels of any tree: the lengths of a level add up to the nodes of the level below, those of the leaves to the entries, and the nodes of all
-- levels are the nodes of the tree. Assumes nothing.
use mathlib.Core.Path.{◌≡◌, refl, sym, ap, ◌∙◌, subst}
use mathlib.Core.List.{List, [], ◌∷◌, ◌++◌, map}
use Prim.Native.Nat.{ℕ, zero, suc, ◌+◌, ◌≤◌, ◌<◌}
use native.Mathlib.Omega.{arith}
use native.Mathlib.Decide.{ℕ_discrete}
use native.Mathlib.Nat.{le_refl}
use lib.Dec.{eqb}
use lib.ListN.{length, length-append}
use borrow.Author.Tests.{eqb-true, eqb-false, eq-eqb, ne_eqb}
use Rattle.model.specs.declared.Settings.{Settings}
use Rattle.model.specs.Lists.{concat, All, none, one}
use Rattle.model.specs.Tree.{Tree, len, entries, slots}
use Rattle.model.specs.Sound.{Whole, Rooted}
use Rattle.model.specs.Promises.{flat}
use Rattle.model_pack.specs.Packing.{lengths_at}
use Rattle.model.proofs.Lists.{by_test, all_map, all_concat}
use Rattle.model.proofs.Trees.{flat_zero, slots_in, leaf_bare}

-- NUMBERS ADDED UP

abbrev pub sum : List ℕ → ℕ
sum [] = 0
sum (n ∷ ns) = n + sum ns

pub sum_append : (a b : List ℕ) → sum (a ++ b) ≡ sum a + sum b
sum_append [] b = omega arith
sum_append (n ∷ a) b = omega (arith, sum_append a b)

-- WHERE A LEVEL IS

-- the lengths of the nodes of height j, of trees side by side
abbrev pub lengths_in : ℕ → (h : ℕ) → List (Tree h) → List ℕ
lengths_in j h cs = concat (map (lengths_at j h) cs)

pub level_leaf : (j : ℕ) (t : Tree zero) → j ≤ 0 → lengths_at j zero t ≡ len t ∷ []
level_leaf j t le = rw (eq-eqb j 0 (omega arith))

-- the root is its level ..
pub level_top : (h : ℕ) (t : Tree h) → lengths_at h h t ≡ len t ∷ []
level_top zero t = level_leaf zero t (omega arith)
level_top (suc h) t = rw (eq-eqb (suc h) (suc h) refl)

-- .. and any other one is made of the children's
pub level_below : (j h : ℕ) (t : Tree (suc h)) → j ≤ h → lengths_at j (suc h) t ≡ lengths_in j h t.items
level_below j h t le = rw (ne_eqb j (suc h) (λ e. omega arith))

-- so what holds in both cases holds of a level
level_by : (P : List ℕ → Type 0) (j h : ℕ) (t : Tree (suc h)) → j ≤ suc h → (j ≡ suc h → P (len t ∷ [])) → (j ≤ h → P (lengths_in j h t.items))
    → P (lengths_at j (suc h) t)
level_by P j h t le f g = by_test P (eqb j (suc h)) (λ e. f (eqb-true _ _ e)) (λ e. g (below (eqb-false _ _ e)))
  where
    below : (j ≡ suc h → ⊥) → j ≤ h
    below ne = omega arith

-- LENGTHS ADD UP

module _ (h : ℕ) (f : (c : Tree h) → sum (lengths_at zero h c) ≡ length (entries (suc h) c)) where
  row_leaves : (cs : List (Tree h)) → sum (lengths_in zero h cs) ≡ length (flat (suc h) cs)
  row_leaves [] = refl
  row_leaves (c ∷ cs) =
      omega (
        arith,
        sum_append (lengths_at zero h c) (lengths_in zero h cs),
        length-append (entries (suc h) c) (flat (suc h) cs),
        f c,
        row_leaves cs,
      )

-- those of the leaves to the entries
pub leaves_sum : (h : ℕ) (t : Tree h) → sum (lengths_at zero h t) ≡ length (entries (suc h) t)
leaves_sum zero t = omega (arith, ap length (flat_zero t.items))
leaves_sum (suc h) t = ap sum (level_below zero h t (omega arith)) ∙ row_leaves h (leaves_sum h) t.items

row_tops : (h : ℕ) (cs : List (Tree h)) → length (lengths_in h h cs) ≡ length cs
row_tops h [] = refl
row_tops h (c ∷ cs) = omega (arith, length-append (lengths_at h h c) (lengths_in h h cs), ap length (level_top h c), row_tops h cs)

module _ (j h : ℕ) (f : (c : Tree h) → sum (lengths_at (suc j) h c) ≡ length (lengths_at j h c)) where
  row_sum : (cs : List (Tree h)) → sum (lengths_in (suc j) h cs) ≡ length (lengths_in j h cs)
  row_sum [] = refl
  row_sum (c ∷ cs) =
      omega (
        arith,
        sum_append (lengths_at (suc j) h c) (lengths_in (suc j) h cs),
        length-append (lengths_at j h c) (lengths_in j h cs),
        f c,
        row_sum cs,
      )

-- those of any other level to the nodes of the level below
pub level_sum : (j h : ℕ) (t : Tree h) → j < h → sum (lengths_at (suc j) h t) ≡ length (lengths_at j h t)
level_sum j zero t lt = absurd (omega arith)
level_sum j (suc h) t lt =
    let le : j ≤ h = omega arith in
    rw (level_below j h t le)
    (level_by (λ l. sum l ≡ length (lengths_in j h t.items)) (suc j) h t lt (λ e. top (omega arith))
    (λ g. row_sum j h (λ c. level_sum j h c g) t.items))
  where
    top : j ≡ h → len t + 0 ≡ length (lengths_in j h t.items)
    top e = subst (λ (k : ℕ). len t + 0 ≡ length (lengths_in k h t.items)) (sym e) (omega (arith, row_tops h t.items))

-- WHAT THE LENGTHS ARE

-- what holds of 1 to order, and of the root's length, holds of every length
pub level_each : (st : Settings) (P : ℕ → Type 0) → ((n : ℕ) → 0 < n → n ≤ st.order → P n) → (j h : ℕ) (t : Tree h)
    → P (len t) → All (Whole st h) t.items → All P (lengths_at j h t)
level_each st P f j zero t p w = by_test (All P) (eqb j 0) (λ e. one p none) (λ e. none)
level_each st P f j (suc h) t p w =
    by_test (All P) (eqb j (suc h)) (λ e. one p none)
    (λ e. all_concat (lengths_at j h) (all_map (λ c g. level_each st P f j h c (f (len c) g.0.some g.0.few) g.1) w))

-- NO LEVEL IS EMPTY

row_long : (j h : ℕ) {cs : List (Tree h)} → All (λ c. 0 < length (lengths_at j h c)) cs → length cs ≤ length (lengths_in j h cs)
row_long j h none = omega arith
row_long j h (one {x = c} {xs = cs} g gs) = omega (arith, length-append (lengths_at j h c) (lengths_in j h cs), row_long j h gs)

pub level_some : (st : Settings) (j h : ℕ) (t : Tree h) → Whole st (suc h) t → j ≤ h → 0 < length (lengths_at j h t)
level_some st j zero t w le = rw (level_leaf j t le) (omega arith)
level_some st j (suc h) t w le =
    level_by (λ l. 0 < length l) j h t le (λ e. omega arith)
    (λ g. omega (arith, w.0.some, row_long j h (all_map (λ c v. level_some st j h c v g) w.1)))

-- of trees side by side there are at least as many nodes in each level
pub row_some : (st : Settings) (j h : ℕ) {cs : List (Tree h)} → All (Whole st (suc h)) cs → j ≤ h → length cs ≤ length (lengths_in j h cs)
row_some st j h w le = row_long j h (all_map (λ c v. level_some st j h c v le) w)

pub root_some : (st : Settings) (j h : ℕ) (t : Tree h) → Rooted st h t → All (Whole st h) t.items → j ≤ h → 0 < length (lengths_at j h t)
root_some st j zero t r w le = rw (level_leaf j t le) (omega arith)
root_some st j (suc h) t r w le = level_some st j (suc h) t (record { some = omega (arith, r.0); few = r.1 }, w) le

-- an interior root has two nodes in each level below it
pub root_two : (st : Settings) (j h : ℕ) (t : Tree (suc h)) → Rooted st (suc h) t → All (Whole st (suc h)) t.items → j ≤ h
    → 2 ≤ length (lengths_at j (suc h) t)
root_two st j h t r w le = rw (level_below j h t le) (omega (arith, r.0, row_some st j h w le))

-- ALL LEVELS are the tree

-- the nodes of the lowest k levels, of a tree ..
abbrev pub low_nodes : ℕ → (h : ℕ) → Tree h → ℕ
low_nodes zero h t = 0
low_nodes (suc k) h t = length (lengths_at k h t) + low_nodes k h t

-- .. and of trees side by side
abbrev low_row : ℕ → (h : ℕ) → List (Tree h) → ℕ
low_row zero h cs = 0
low_row (suc k) h cs = length (lengths_in k h cs) + low_row k h cs

low_nil : (k h : ℕ) → low_row k h [] ≡ 0
low_nil zero h = refl
low_nil (suc k) h = omega (arith, low_nil k h)

low_cons : (k h : ℕ) (c : Tree h) (cs : List (Tree h)) → low_row k h (c ∷ cs) ≡ low_nodes k h c + low_row k h cs
low_cons zero h c cs = refl
low_cons (suc k) h c cs = omega (arith, length-append (lengths_at k h c) (lengths_in k h cs), low_cons k h c cs)

low_below : (k h : ℕ) (t : Tree (suc h)) → k ≤ suc h → low_nodes k (suc h) t ≡ low_row k h t.items
low_below zero h t le = refl
low_below (suc k) h t le = omega (arith, ap length (level_below k h t (omega arith)), low_below k h t (omega arith))

module _ (h : ℕ) (f : (c : Tree h) → length (slots (suc h) c) ≡ low_nodes (suc h) h c) where
  row_nodes : (cs : List (Tree h)) → length (slots_in (suc h) cs) ≡ low_row (suc h) h cs
  row_nodes [] = sym (low_nil (suc h) h)
  row_nodes (c ∷ cs) =
      omega (arith, length-append (slots (suc h) c) (slots_in (suc h) cs), low_cons (suc h) h c cs, f c, row_nodes cs)

pub all_levels : (h : ℕ) (t : Tree h) → length (slots (suc h) t) ≡ low_nodes (suc h) h t
all_levels zero t = omega (arith, leaf_bare t.items)
all_levels (suc h) t =
    omega (arith, ap length (level_top (suc h) t), low_below (suc h) h t (le_refl _), row_nodes h (all_levels h) t.items)

pub low_grows : (k n h : ℕ) (t : Tree h) → k ≤ n → low_nodes k h t ≤ low_nodes n h t
low_grows k zero h t le = let e : 0 ≡ k = omega arith in subst (λ (m : ℕ). low_nodes m h t ≤ 0) e (le_refl _)
low_grows k (suc n) h t le = by (ℕ_discrete k (suc n)) (λ g. low_grows k n h t g)
  where
    by : Dec (k ≡ suc n) → (k ≤ n → low_nodes k h t ≤ low_nodes n h t) → low_nodes k h t ≤ low_nodes (suc n) h t
    by (yes e) again = subst (λ (m : ℕ). low_nodes m h t ≤ low_nodes (suc n) h t) (sym e) (le_refl _)
    by (no ne) again = let g : k ≤ n = omega arith in omega (arith, again g)
