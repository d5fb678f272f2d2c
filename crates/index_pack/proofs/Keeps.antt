-- What the tests and the building have told keeps the promise of packing. Assumes nothing.
use Rattle.std.specs.Prelude.{Ok, Err}
use Rattle.model.specs.declared.Refusal.{Refusal}
use Rattle.model.specs.declared.Refusal.TheVariants as Why
use Prim.Native.Nat.{ℕ, suc, ◌+◌, ◌≤◌, ◌<◌}
use mathlib.Core.Path.{◌≡◌, refl, sym, ap, ◌∙◌}
use mathlib.Core.Bool.{Bool, true, false, cond, not}
use mathlib.Core.List.{List}
use native.Mathlib.Omega.{arith}
use lib.Dec.{ltb}
use borrow.Author.Tests.{lt-ltb, le-ltb}
use Rattle.model.specs.Answer.{Answer, refused, done, unless, number}
use Rattle.model.specs.Forest.{Forest}
use Rattle.model_pack.specs.PackForest.{nodes_used, is_new_forest, forests_differ, packed_from, pack_forest_refusal}
use Rattle.model_pack.proofs.PackForest.{not_differ_forest}
use Rattle.tree.specs.Pool.{SoundPool, given_in, settings_in, forest_of, image_of}
use Rattle.index_promise.specs.Promise.{holds, fails, Left, ◌leaving◌, leaves, Packs}
use Rattle.index_pack.proofs.Builds.{plan, nodes_planned}

module _ (l m : List ℕ) where
  pub source_unsound : (SoundPool l → ⊥) → Packs l m (Err Why.Unsound) m
  source_unsound n = fails (λ s. n s.0) refl

  pub target_unsound : (SoundPool m → ⊥) → Packs l m (Err Why.Unsound) m
  target_unsound n = fails (λ s. n s.1) refl

  module _ (s : SoundPool l) (t : SoundPool m) where
    abbrev target : Forest
    target = packed_from (given_in m) (forest_of l)

    abbrev left : Answer Forest → Left (Unit {0})
    left = leaves (λ f. tt) (image_of (given_in m)) m

    refuses : (why : Refusal) (i : ℕ) → number why ≡ suc i → pack_forest_refusal (given_in l) (given_in m) (forest_of l) (forest_of m) ≡ suc i
        → Packs l m (Err why) m
    refuses why i is e = holds (s, t) (ap (λ (j : ℕ). refused j leaving m) is ∙ ap (λ (j : ℕ). left (unless j target)) (sym e))

    pub refused_17 : forests_differ (given_in l) (given_in m) ≡ true → Packs l m (Err Why.SettingsDiffer) m
    refused_17 e =
        refuses Why.SettingsDiffer 16 refl
        (ap (λ (b : Bool). cond b 17 (cond (not (is_new_forest (forest_of m))) 18 (cond (ltb (given_in m).nodes (nodes_used target)) 7 0))) e)

    module _ (same : forests_differ (given_in l) (given_in m) ≡ false) where
      pub refused_18 : is_new_forest (forest_of m) ≡ false → Packs l m (Err Why.TargetNotNew) m
      refused_18 e = refuses Why.TargetNotNew 17 refl (rw (same, e) refl)

      pub orders : (i : ℕ) → (settings_in l i).order ≡ (settings_in m i).order
      orders i = (not_differ_forest (given_in l) (given_in m) same i).0

      abbrev planned : ℕ
      planned = (plan l m s t orders 0).nodes + (plan l m s t orders 1).nodes

      module _ (new : is_new_forest (forest_of m) ≡ true) where
        pub refused_7 : (given_in m).nodes < planned → Packs l m (Err Why.TooFewUnused) m
        refused_7 lt =
            refuses Why.TooFewUnused 6 refl (rw (same, new, lt-ltb (given_in m).nodes (nodes_used target) (omega (arith, lt, nodes_planned l m s t orders))) refl)

        passed : planned ≤ (given_in m).nodes → pack_forest_refusal (given_in l) (given_in m) (forest_of l) (forest_of m) ≡ 0
        passed room = rw (same, new, le-ltb (given_in m).nodes (nodes_used target) (omega (arith, room, nodes_planned l m s t orders))) refl

        pub packs_done : planned ≤ (given_in m).nodes → (m' : List ℕ) → m' ≡ image_of (given_in m) target → Packs l m (Ok tt) m'
        packs_done room m' image =
            holds (s, t) (ap (λ (k : List ℕ). done tt leaving k) image ∙ ap (λ (j : ℕ). left (unless j target)) (sym (passed room)))
