-- What the steps of `survey` tell, for the settings in the pool. Assumes nothing.
use Rattle.std.specs.Prelude.{Some, None}
use Rattle.std.specs.Bool.{then_some}
use Rattle.std.proofs.lemmas.Option.{same_Some}
use mathlib.Core.Path.{◌≡◌, refl, ap, ◌∙◌, subst}
use mathlib.Core.List.{List}
use Prim.Native.Nat.{ℕ, ◌+◌, ◌-◌, ◌≤◌}
use native.Mathlib.Omega.{arith}
use native.Mathlib.Decide.{ℕ_discrete}
use lib.Dec.{eqb}
use borrow.Author.Tests.{eq-eqb, ne_eqb}
use lib.ListN.{length}
use Rattle.words.specs.Words.{words}
use Rattle.slots.specs.Nodes.{nodes}
use Rattle.slots.proofs.Nodes.{length_nodes}
use Rattle.model.specs.declared.PoolSettings.{PoolSettings}
use Rattle.model.specs.declared.Settings.{Settings}
use Rattle.model.specs.Sound.{handed}
use Rattle.model.specs.Tree.{slots_of}
use Rattle.model.proofs.Answers.{tells_yes, told_no}
use Rattle.slots_raw.specs.Promises.{Shape}
use Rattle.tree.specs.Bridge.{unused_of}
use Rattle.tree.specs.Pool.{given_in, settings_in, nodes_in, index_of, height_at, SoundPool}
use Rattle.tree.proofs.Pools.{exact_shape}
use Rattle.survey.specs.declared.Findings.{Findings}
use Rattle.survey_node.specs.Promises.{Walked}
use Rattle.survey.specs.Promises.{Found, Surveyed, Headed, SlotsTold}
use Rattle.tree_spare.specs.declared.Spare.{Spare}
use Rattle.tree_spare.proofs.Spares.{unused_few}
use Rattle.survey.proofs.Verdicts.{survey_not, sound_pool, pool_tree, pool_counted}

-- where the header is right, so is the shape, for either tree
pub shaped : {l : List ℕ} → Headed l → (i : ℕ) → Shape (settings_in l i) (words l)
shaped {l} h i = exact_shape (given_in l) i l h.settings h.exact

-- what the layers are handed is of the settings in the pool
pub handed_is : (l : List ℕ) {g : PoolSettings} {st : Settings} (i : ℕ) → st ≡ handed g i → g ≡ given_in l → st ≡ settings_in l i
handed_is l i e q = e ∙ ap (λ (g : PoolSettings). handed g i) q

-- the height that is found is that of the left edge
pub edge : (l : List ℕ) {st : Settings} {h : ℕ} (i : ℕ) → h ≡ height_at (nodes st (words l)) 8 st.root → st ≡ settings_in l i → h ≡ height_at (nodes (settings_in l i) (words l)) 8 (settings_in l i).root
edge l i e q = e ∙ ap (λ (x : Settings). height_at (nodes x (words l)) 8 x.root) q

-- WHAT THE WALKS TELL, where the header is right and every unused slot is all zero
module _ (l : List ℕ) (spare : Spare) (slots : SlotsTold (settings_in l 0) (words l) (Some spare)) where
  count : spare.unused ≡ length (unused_of (nodes_in l 0))
  count = (slots.spared spare refl).count

  -- the unused slots are no more than the slots
  pub few : spare.unused ≤ (given_in l).nodes
  few = omega (arith, count, unused_few (nodes_in l 0), length_nodes (settings_in l 0) (words l))

  -- the nodes of the first tree are in use
  pub not_one : Walked (settings_in l 0) (words l) ((given_in l).nodes - spare.unused) None → SoundPool l → ⊥
  not_one one s = told_no one.passes refl (record { tree = pool_tree l s 0; most = omega (arith, pool_counted l s, count) })

  -- and so are those of the second
  module _ (left : ℕ) (one : Walked (settings_in l 0) (words l) ((given_in l).nodes - spare.unused) (Some left)) where
    used : left + length (slots_of (index_of l 0)) + length (unused_of (nodes_in l 0)) ≡ (given_in l).nodes
    used = omega (arith, one.rest left refl, few, count)

    pub not_two : Walked (settings_in l 1) (words l) left None → SoundPool l → ⊥
    not_two two s = told_no two.passes refl (record { tree = pool_tree l s 1; most = omega (arith, pool_counted l s, used) })

    -- which together are all in use
    module _ (rest : ℕ) (two : Walked (settings_in l 1) (words l) left (Some rest)) where
      pub not_all : (rest ≡ 0 → ⊥) → SoundPool l → ⊥
      not_all ne s = ne (omega (arith, pool_counted l s, used, two.rest rest refl))

      pub all : Headed l → rest ≡ 0 → SoundPool l
      all h e =
          sound_pool l h (slots.idle.holds refl) (one.passes.holds refl).tree (two.passes.holds refl).tree (omega (arith, e, used, two.rest rest refl))

-- THE ANSWER: the last test decides
pub decided : (l : List ℕ) (f : Findings) (rest : ℕ) → ((rest ≡ 0 → ⊥) → SoundPool l → ⊥) → (rest ≡ 0 → SoundPool l) → Found l f
    → Surveyed l (then_some (eqb rest 0) f)
decided l f rest not_sound sound found = by (ℕ_discrete rest 0)
  where
    by : Dec (rest ≡ 0) → Surveyed l (then_some (eqb rest 0) f)
    by (yes e) = rw (eq-eqb rest 0 e) (record { sound = tells_yes (sound e); found = λ g q. subst (Found l) (same_Some f g q) found })
    by (no ne) = rw (ne_eqb rest 0 ne) (survey_not l (not_sound ne))
