-- What document 02 demands of packing two trees, proved; and a pack of two that is not refused. Assumes nothing.
use mathlib.Core.Path.{◌≡◌, refl, ap, ap₂, ◌∙◌, subst}
use mathlib.Core.Bool.{Bool, true, false, cond, not}
use mathlib.Core.List.{List, ◌∷◌, ◌++◌}
use Prim.Native.Nat.{ℕ, zero, suc, ◌+◌, ◌-◌, ◌≤◌, ◌<◌}
use native.Mathlib.Omega.{arith}
use lib.Dec.{ltb}
use lib.ListN.{length, length-append}
use borrow.Author.Tests.{ltb-true, ltb-false}
use Rattle.model.specs.declared.Entry.{Entry}
use Rattle.model.specs.declared.PoolSettings.{PoolSettings}
use Rattle.model.specs.Lists.{times, up_from}
use Rattle.model.specs.Tree.{Index, entries_of, slots_of}
use Rattle.model.specs.Sound.{handed, PoolLimits, Once, Sound}
use Rattle.model_pack.specs.Pack.{differ, is_new}
use Rattle.model_pack.specs.Packing.{Over, Least}
use Rattle.model.specs.Forest.{Planted, Forest, index_with, tree_of, elsewhere, planted_of, bare_leaf, SoundForest}
use Rattle.model_pack.specs.PackForest.{packed_tree, node_count, packed_forest, nodes_used, is_new_forest, forests_differ, packed_from, pack_forest_refusal, IsPackedForest, PackingForest, PackForestDone, PackForestRoom, NewForestIs, NewForestIsNew}
use Rattle.model.proofs.Lists.{both_left, both_right, or_left, or_right, times_append}
use Rattle.model.proofs.Answers.{unless_done}
use Rattle.model.proofs.Numbers.{up_append, run_up, once_up, unused_only}
use Rattle.model.proofs.Trees.{once_count}
use Rattle.model_pack.proofs.Packs.{is_packed_tree, packed_tree_sound, new_leaf}
use Rattle.model_pack.proofs.Packing.{not_differ, least_tree}
use Rattle.model_pack.proofs.Only.{only_tree}
use Rattle.model.proofs.Forest.{once_each, once_both}

-- THE SLOTS of two packed trees are the first ones

-- 0 and a numbers from 2 on, then 1 and b numbers from there on
run_two : (a b k n s : ℕ) → k ≡ 2 + a → n ≡ k + b → times s ((0 ∷ up_from 2 a) ++ (1 ∷ up_from k b)) ≡ times s (up_from 0 n)
run_two a b k n s e m =
    let all : suc (suc (a + b)) ≡ n = omega arith in
    omega (
      arith,
      times_append s (0 ∷ up_from 2 a) (1 ∷ up_from k b),
      times_append s (up_from 2 a) (up_from k b),
      ap (times s) (up_append 2 a b k e),
      ap (λ (j : ℕ). times s (up_from 0 j)) all,
    )

-- so the slots of a first tree and a second one are, where they go out so
slots_first : (x y : List ℕ) → x ≡ 0 ∷ up_from 2 (length x - 1) → y ≡ 1 ∷ up_from (length x + 1) (length y - 1)
    → (s : ℕ) → times s (x ++ y) ≡ times s (up_from 0 (length x + length y))
slots_first x y p q s =
    ap (λ (l : List ℕ). times s (l ++ y)) p ∙ ap (λ (l : List ℕ). times s ((0 ∷ up_from 2 (length x - 1)) ++ l)) q
    ∙ run_two (length x - 1) (length y - 1) (length x + 1) (length x + length y) s (omega (arith, ap length p)) (omega (arith, ap length q))

module _ {g : PoolSettings} {es fs : List Entry} {f : Forest} (p : IsPackedForest g es fs f) where
  packed_slots_first : (s : ℕ) → times s (slots_of (tree_of 0 f) ++ slots_of (tree_of 1 f)) ≡ times s (up_from 0 (nodes_used f))
  packed_slots_first = slots_first (slots_of (tree_of 0 f)) (slots_of (tree_of 1 f)) p.first.preorder p.second.preorder

-- A SOUND FOREST has each slot once over both trees, and at most a node for each

each_once : (g : PoolSettings) (f : Forest) → SoundForest g f → Once g.nodes (slots_of (tree_of 0 f) ++ slots_of (tree_of 1 f)) f.unused
each_once g f s = once_both g.nodes f 1 (s.trees 1).once

pub used_both : (g : PoolSettings) (f : Forest) → SoundForest g f → nodes_used f ≤ g.nodes
used_both g f s =
    let a : List ℕ = slots_of (tree_of 0 f) in
    let b : List ℕ = slots_of (tree_of 1 f) in
    omega (arith, once_count g.nodes (a ++ b) f.unused (each_once g f s), length-append a b)

-- THE PACKED FOREST

module _ (g : PoolSettings) (es fs : List Entry) {x y : Index} (v : Over g.first.order es x) (w : Over g.second.order fs y) where
  pub is_packed_forest : IsPackedForest g es fs (packed_forest g es fs)
  is_packed_forest =
      let us : List ℕ = (packed_forest g es fs).unused in
      let p : Planted = packed_tree (handed g 0) 2 es in
      record {
        first = is_packed_tree (handed g 0) 2 es us v;
        second = is_packed_tree (handed g 1) (node_count p + 1) fs us w;
      }

  pub packed_forest_sound : PoolLimits g → nodes_used (packed_forest g es fs) ≤ g.nodes → SoundForest g (packed_forest g es fs)
  packed_forest_sound lim enough = record { limits = lim; trees = each }
    where
      n : ℕ
      n = g.nodes

      k : ℕ
      k = nodes_used (packed_forest g es fs)

      once : (i : ℕ) → Once n (elsewhere i (packed_forest g es fs) ++ slots_of (tree_of i (packed_forest g es fs))) (up_from k (n - k))
      once = once_each n (packed_forest g es fs) (λ s. omega (arith, packed_slots_first is_packed_forest s, once_up n k enough s))

      each : (i : ℕ) → Sound (handed g i) (elsewhere i (packed_forest g es fs)) (tree_of i (packed_forest g es fs))
      each zero = packed_tree_sound (handed g 0) 2 es (up_from k (n - k)) v lim.0 _ (once 0) (run_up k (n - k))
      each (suc i) =
          packed_tree_sound (handed g 1) (node_count (packed_tree (handed g 0) 2 es) + 1) fs (up_from k (n - k)) w lim.1 _ (once 1) (run_up k (n - k))

  pub least_first_lem : Least g.first.order es (tree_of 0 (packed_forest g es fs))
  least_first_lem = least_tree (handed g 0) 2 es (packed_forest g es fs).unused v

  pub least_second_lem : Least g.second.order fs (tree_of 1 (packed_forest g es fs))
  least_second_lem = least_tree (handed g 1) (node_count (packed_tree (handed g 0) 2 es) + 1) fs (packed_forest g es fs).unused w

-- no other sound forest is packed
only_forest : (g : PoolSettings) (es fs : List Entry) (z : Forest) → SoundForest g z → IsPackedForest g es fs z → z ≡ packed_forest g es fs
only_forest g es fs z s p = λ j. record { first = first j; second = second j; unused = left j }
  where
    first : z.first ≡ packed_tree (handed g 0) 2 es
    first = ap planted_of (only_tree (handed g 0) 2 es (tree_of 0 z) (s.trees 0) p.first)

    second : z.second ≡ (packed_forest g es fs).second
    second =
        ap planted_of (only_tree (handed g 1) (node_count z.first + 1) fs (tree_of 1 z) (s.trees 1) p.second)
        ∙ ap (λ (t : Planted). packed_tree (handed g 1) (node_count t + 1) fs) first

    left : z.unused ≡ (packed_forest g es fs).unused
    left =
        unused_only g.nodes (nodes_used z) (slots_of (tree_of 0 z) ++ slots_of (tree_of 1 z)) z.unused (used_both g z s) (packed_slots_first p)
        (each_once g z s) (s.trees 0).ascending
        ∙ ap₂ (λ (t u : Planted). up_from (node_count t + node_count u) (g.nodes - (node_count t + node_count u))) first second

pub packing_forest : PackingForest
packing_forest g es fs x y lim v w =
    record {
      packed = is_packed_forest g es fs v w;
      least_first = least_first_lem g es fs v w;
      least_second = least_second_lem g es fs v w;
      sound = packed_forest_sound g es fs v w lim;
      only = only_forest g es fs;
    }

-- A PACK THAT IS NOT REFUSED

pub record UnrefusedForest (g u : PoolSettings) (f y : Forest) : Type 0 where
  pub order : (i : ℕ) → (handed g i).order ≡ (handed u i).order
  pub minimum : (i : ℕ) → (handed g i).minimum ≡ (handed u i).minimum
  pub new : is_new_forest y ≡ true
  pub room : nodes_used (packed_from u f) ≤ u.nodes

pub not_differ_forest : (g u : PoolSettings) → forests_differ g u ≡ false → (i : ℕ)
    → ((handed g i).order ≡ (handed u i).order) × ((handed g i).minimum ≡ (handed u i).minimum)
not_differ_forest g u e zero = not_differ g.first u.first (or_left (differ g.first u.first) _ e)
not_differ_forest g u e (suc i) = not_differ g.second u.second (or_right (differ g.first u.first) _ e)

pub unrefused_forest : (g u : PoolSettings) (f y : Forest) → pack_forest_refusal g u f y ≡ 0 → UnrefusedForest g u f y
unrefused_forest g u f y = by (forests_differ g u) (is_new_forest y) (ltb u.nodes (nodes_used (packed_from u f))) refl refl refl
  where
    by : (a b c : Bool) → forests_differ g u ≡ a → is_new_forest y ≡ b → ltb u.nodes (nodes_used (packed_from u f)) ≡ c
        → ◌≡◌ {A = ℕ} (cond a 17 (cond (not b) 18 (cond c 7 0))) 0 → UnrefusedForest g u f y
    by true b c p q r e = absurd (omega (arith, e))
    by false false c p q r e = absurd (omega (arith, e))
    by false true true p q r e = absurd (omega (arith, e))
    by false true false p q r e =
        record { order = λ i. (not_differ_forest g u p i).0; minimum = λ i. (not_differ_forest g u p i).1; new = q; room = ltb-false _ _ r }

-- refused for room: the orders are the same, and the packed trees have more nodes than the target
pub refused_room_forest : (g u : PoolSettings) (f y : Forest) → pack_forest_refusal g u f y ≡ 7
    → ((i : ℕ) → (handed g i).order ≡ (handed u i).order) × (u.nodes < nodes_used (packed_from u f))
refused_room_forest g u f y = by (forests_differ g u) (is_new_forest y) (ltb u.nodes (nodes_used (packed_from u f))) refl refl
  where
    by : (a b c : Bool) → forests_differ g u ≡ a → ltb u.nodes (nodes_used (packed_from u f)) ≡ c → ◌≡◌ {A = ℕ} (cond a 17 (cond (not b) 18 (cond c 7 0))) 7
        → ((i : ℕ) → (handed g i).order ≡ (handed u i).order) × (u.nodes < nodes_used (packed_from u f))
    by true b c p r e = absurd (omega (arith, e))
    by false false c p r e = absurd (omega (arith, e))
    by false true false p r e = absurd (omega (arith, e))
    by false true true p r e = (λ i. (not_differ_forest g u p i).0, ltb-true _ _ r)

-- THE CALL

-- the source's trees are sound ones of the target's orders
source_over : (g u : PoolSettings) (f : Forest) → SoundForest g f → (i : ℕ) → (handed g i).order ≡ (handed u i).order
    → Over (handed u i).order (entries_of (tree_of i f)) (tree_of i f)
source_over g u f s i e = record { settings = handed g i; elsewhere = elsewhere i f; order = e; sound = s.trees i; entries = refl }

pub pack_forest_done : PackForestDone
pack_forest_done g u f y z s t d =
    let (none-of-it, is) = unless_done (pack_forest_refusal g u f y) (packed_from u f) z d in
    let r : UnrefusedForest g u f y = unrefused_forest g u f y none-of-it in
    let v : Over u.first.order (entries_of (tree_of 0 f)) (tree_of 0 f) = source_over g u f s 0 (r.order 0) in
    let w : Over u.second.order (entries_of (tree_of 1 f)) (tree_of 1 f) = source_over g u f s 1 (r.order 1) in
    subst (λ (k : Forest). SoundForest u k × IsPackedForest u (entries_of (tree_of 0 f)) (entries_of (tree_of 1 f)) k) is
    (packed_forest_sound u _ _ v w t.limits r.room, is_packed_forest u _ _ v w)

pub pack_forest_room : PackForestRoom
pack_forest_room g u f y s le e =
    let (order, short) = refused_room_forest g u f y e in
    let v : Over u.first.order (entries_of (tree_of 0 f)) (tree_of 0 f) = source_over g u f s 0 (order 0) in
    let w : Over u.second.order (entries_of (tree_of 1 f)) (tree_of 1 f) = source_over g u f s 1 (order 1) in
    omega (
      arith,
      short,
      (least_first_lem u (entries_of (tree_of 0 f)) (entries_of (tree_of 1 f)) v w).nodes (tree_of 0 f) v,
      (least_second_lem u (entries_of (tree_of 0 f)) (entries_of (tree_of 1 f)) v w).nodes (tree_of 1 f) w,
      used_both g f s,
    )

-- A NEW POOL

pub new_forest_is : NewForestIs
new_forest_is g y s e = λ j. record { first = first j; second = second j; unused = left j }
  where
    first : y.first ≡ bare_leaf 0
    first = ap planted_of (new_leaf (handed g 0) (tree_of 0 y) (s.trees 0) (both_left (is_new (tree_of 0 y)) (is_new (tree_of 1 y)) e))

    second : y.second ≡ bare_leaf 1
    second = ap planted_of (new_leaf (handed g 1) (tree_of 1 y) (s.trees 1) (both_right (is_new (tree_of 0 y)) (is_new (tree_of 1 y)) e))

    left : y.unused ≡ up_from 2 (g.nodes - 2)
    left =
        unused_only g.nodes 2 (slots_of (tree_of 0 y) ++ slots_of (tree_of 1 y)) y.unused (omega (arith, s.limits.0.many))
        (λ k. ap₂ (λ (p q : Planted). times k (slots_of (index_with p y.unused) ++ slots_of (index_with q y.unused))) first second) (each_once g y s)
        (s.trees 0).ascending

pub new_forest_is_new : NewForestIsNew
new_forest_is_new n = refl
