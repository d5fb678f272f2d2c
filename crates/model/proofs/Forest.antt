-- Laws of two trees in one pool: of sound forests, and of what is put in the place of one tree. Assumes nothing.
use mathlib.Core.Path.{◌≡◌, refl, ap, ◌∙◌}
use mathlib.Core.Bool.{Bool, true, false, cond, ◌&&◌, ◌||◌, not}
use mathlib.Core.List.{List, [], ◌∷◌, ◌++◌}
use Prim.Native.Nat.{ℕ, zero, suc, ◌-◌, ◌<◌}
use native.Mathlib.Omega.{arith}
use lib.Dec.{leb, ltb, eqb}
use lib.ListN.{length}
use borrow.Author.Tests.{ltb-true}
use Rattle.model.specs.declared.Settings.{Settings}
use Rattle.model.specs.Lists.{up_from}
use Rattle.model.specs.Tree.{Index, entries_of, slots_of}
use Rattle.model.specs.Change.{Batched}
use Rattle.model.specs.Refuse.{Call, is_remove, is_each, descend, needed, refusal}
use Rattle.model.specs.Sound.{handed, Once, Sound}
use Rattle.model.specs.declared.PoolSettings.{PoolSettings}
use Rattle.model.specs.Forest.{Planted, Forest, planted, index_with, tree_of, other, elsewhere, planted_of, replant, new_forest, SoundForest, refusal_at, batch_at}
use Rattle.model.specs.TwoTrees.{NewForestSound, OneBatchAt, Independent, but7, OtherRefusals, FreedServesEither}
use Rattle.model.proofs.Lists.{by_test, times_append}
use Rattle.model.proofs.Numbers.{run_up, once_up}
use Rattle.model.proofs.Calls.{bare_sound}
use Rattle.model.proofs.Demands.{owes, batch_sound}

-- EACH SLOT ONCE, over both trees together or seen from either

once_turned : (n : ℕ) (a b us : List ℕ) → Once n (a ++ b) us → Once n (b ++ a) us
once_turned n a b us f s = omega (arith, f s, times_append s a b, times_append s b a)

module _ (n : ℕ) (f : Forest) where
  pub once_each : Once n (slots_of (tree_of 0 f) ++ slots_of (tree_of 1 f)) f.unused → (i : ℕ) → Once n (elsewhere i f ++ slots_of (tree_of i f)) f.unused
  once_each h zero = once_turned n (slots_of (tree_of 0 f)) (slots_of (tree_of 1 f)) f.unused h
  once_each h (suc i) = h

  pub once_both : (i : ℕ) → Once n (elsewhere i f ++ slots_of (tree_of i f)) f.unused → Once n (slots_of (tree_of 0 f) ++ slots_of (tree_of 1 f)) f.unused
  once_both zero h = once_turned n (slots_of (tree_of 1 f)) (slots_of (tree_of 0 f)) f.unused h
  once_both (suc i) h = h

-- A NEW POOL

pub new_forest_sound_lem : NewForestSound
new_forest_sound_lem g lim = record { limits = lim; trees = each }
  where
    new_once : (i : ℕ) → Once g.nodes (elsewhere i (new_forest g.nodes) ++ slots_of (tree_of i (new_forest g.nodes))) (new_forest g.nodes).unused
    new_once = once_each g.nodes (new_forest g.nodes) (once_up g.nodes 2 (omega (arith, lim.0.many)))

    each : (i : ℕ) → Sound (handed g i) (elsewhere i (new_forest g.nodes)) (tree_of i (new_forest g.nodes))
    each zero = bare_sound (handed g 0) (1 ∷ []) (up_from 2 (g.nodes - 2)) lim.0 (new_once 0) (run_up 2 (g.nodes - 2))
    each (suc i) = bare_sound (handed g 1) (0 ∷ []) (up_from 2 (g.nodes - 2)) lim.1 (new_once 1) (run_up 2 (g.nodes - 2))

-- A TREE IN THE PLACE OF TREE i

-- y stays sound beside x, with the unused slots of x, where x is sound beside y
beside : (g : PoolSettings) (i j : ℕ) {away : List ℕ} (x y : Index) → Sound (handed g i) (slots_of y) x → Sound (handed g j) away y
    → Sound (handed g j) (slots_of x) (index_with (planted_of y) x.unused)
beside g i j x y s t =
    record {
      settings = t.settings;
      root_slot = t.root_slot;
      once = once_turned g.nodes (slots_of y) (slots_of x) x.unused s.once;
      shallow = t.shallow;
      rooted = t.rooted;
      whole = t.whole;
      sorted = t.sorted;
      fit = t.fit;
      ascending = s.ascending;
    }

-- the forest is sound with x there, where x is sound beside the other tree
pub replant_sound : (g : PoolSettings) (i : ℕ) (x : Index) (f : Forest) → SoundForest g f → Sound (handed g i) (elsewhere i f) x → SoundForest g (replant i x f)
replant_sound g i x f s t = record { limits = s.limits; trees = each i t }
  where
    each : (i : ℕ) → Sound (handed g i) (elsewhere i f) x → (j : ℕ) → Sound (handed g j) (elsewhere j (replant i x f)) (tree_of j (replant i x f))
    each zero t zero = t
    each zero t (suc j) = beside g 0 1 x (tree_of 1 f) t (s.trees 1)
    each (suc i) t zero = beside g 1 0 x (tree_of 0 f) t (s.trees 0)
    each (suc i) t (suc j) = t

pub replant_tree : (i : ℕ) (x : Index) (f : Forest) → tree_of i (replant i x f) ≡ x
replant_tree zero x f = refl
replant_tree (suc i) x f = refl

pub replant_other : (i : ℕ) (x : Index) (f : Forest) → planted (other i) (replant i x f) ≡ planted (other i) f
replant_other zero x f = refl
replant_other (suc i) x f = refl

pub independent : Independent
independent zero x f = record { list = refl; totals = refl; gets = λ ks room. refl; scans = λ q room. refl; frames = refl }
independent (suc i) x f = record { list = refl; totals = refl; gets = λ ks room. refl; scans = λ q room. refl; frames = refl }

pub freed_serves_either_lem : FreedServesEither
freed_serves_either_lem zero j x f = refl
freed_serves_either_lem (suc i) j x f = refl

-- REFUSALS

-- where numbers are the same but for 7, they are so behind any test
but7_behind : (b : Bool) (n m k : ℕ) → but7 m ≡ but7 k → but7 (cond b n m) ≡ but7 (cond b n k)
but7_behind true n m k e = refl
but7_behind false n m k e = e

but7_last : (a b : Bool) → but7 (cond a 7 0) ≡ but7 (cond b 7 0)
but7_last true true = refl
but7_last true false = refl
but7_last false true = refl
but7_last false false = refl

-- one tree beside other unused slots
unused_refusals : (st : Settings) (c : Call) (p : Planted) (us vs : List ℕ) → but7 (refusal st c (index_with p us)) ≡ but7 (refusal st c (index_with p vs))
unused_refusals st c p us vs =
    let d : ℕ = suc p.height in
    let n : ℕ = length c.keys in
    but7_behind (ltb st.order n) 3 _ _
    (but7_behind (is_each c.operation && not (eqb (length c.places) n && eqb (length c.sizes) n)) 4 _ _
    (but7_behind (descend c.keys) 5 _ _
    (but7_behind (eqb n 0 || is_remove c.operation) 0 _ _
    (but7_behind (leb 8 d) 6 _ _ (but7_last (ltb (length us) (needed n d)) (ltb (length vs) (needed n d)))))))

pub other_refusals_lem : OtherRefusals
other_refusals_lem g zero x d f = unused_refusals (handed g 1) d f.second x.unused f.unused
other_refusals_lem g (suc i) x d f = unused_refusals (handed g 0) d f.first x.unused f.unused

-- what a batch that is not refused says of the number of its tree, and of the tree
pub accepted : (g : PoolSettings) (i : ℕ) (c : Call) (f : Forest) → refusal_at g i c f ≡ 0 → (i < 2) × (refusal (handed g i) c (tree_of i f) ≡ 0)
accepted g i c f =
    by_test (λ (r : ℕ). r ≡ 0 → (i < 2) × (refusal (handed g i) c (tree_of i f) ≡ 0)) (ltb i 2) (λ e q. (ltb-true _ _ e, q))
    (λ e q. absurd (omega arith))

-- ONE BATCH

pub one_batch_at_lem : OneBatchAt
one_batch_at_lem g i c f s lent q =
    let st : Settings = handed g i in
    let x : Index = tree_of i f in
    let b : Batched = batch_at g i c f in
    let r : refusal st c x ≡ 0 = (accepted g i c f q).1 in
    let o = owes st c x (s.trees i) lent r in
    record {
      sound = replant_sound g i b.index f s (batch_sound st c x (s.trees i) lent r);
      list = ap entries_of (replant_tree i b.index f) ∙ o.list;
      counts = o.counts;
      left = o.left;
      tree = replant_tree i b.index f;
      apart = replant_other i b.index f;
    }
