-- The target of a packing: a slot as one tree sees it and as the other does, and the slots of a new pool. Assumes nothing.
use mathlib.Core.Path.{◌≡◌, refl, sym, ap, ◌∙◌, subst}
use mathlib.Core.Bool.{true}
use mathlib.Core.List.{List, map}
use Prim.Native.Nat.{ℕ, zero, suc, ◌-◌, ◌≤◌, ◌<◌}
use native.Mathlib.Omega.{arith}
use native.Mathlib.Decide.{ℕ_discrete}
use Rattle.words.specs.Words.{words}
use Rattle.slots.specs.Nodes.{node_seen, nodes, nth, unused}
use Rattle.slots.specs.Nodes as S
use Rattle.slots.proofs.Others.{first_nodes, nth_seen}
use Rattle.model.specs.declared.PoolSettings.{PoolSettings}
use Rattle.model.specs.Lists.{times, up_from}
use Rattle.model.specs.Sound.{root_for, handed}
use Rattle.model.specs.Forest.{index_with, tree_of, bare_leaf}
use Rattle.model_pack.specs.PackForest.{is_new_forest}
use Rattle.model.proofs.Layers.{handed_root}
use Rattle.model.proofs.Lists.{all_head}
use Rattle.model.proofs.Numbers.{run_inside}
use Rattle.model_pack.proofs.PackForest.{new_forest_is}
use Rattle.tree.specs.Bridge.{HoldsIndex}
use Rattle.tree.specs.Pool.{SoundPool, given_in, settings_in, nodes_in, forest_of}
use Rattle.tree.proofs.Unused.{used_none}
use Rattle.tree.proofs.Pools.{tree_sees, tree_of_lem, sound_held, sound_forest, sound_holds_index}
use Rattle.pack.specs.Promises.{Empty}

-- A SLOT as tree i sees it and as tree j does

module _ (u : PoolSettings) (i j x : ℕ) where
  across : (W : List ℕ) → nth (nodes (handed u j) W) x ≡ node_seen (root_for j) (node_seen (root_for i) (nth (nodes (handed u i) W) x))
  across W =
      let ns : List S.Node = nodes (handed u i) W in
      ap (λ (l : List S.Node). nth l x) (tree_sees u W j ∙ ap (map (node_seen (root_for j))) (first_nodes (handed u i) (handed u 0) W refl refl refl))
      ∙ nth_seen (root_for j) (map (node_seen (root_for i)) ns) x
      ∙ ap (node_seen (root_for j)) (nth_seen (root_for i) ns x)

  -- what is as it was to one is to the other
  pub same_across : (W X : List ℕ) → nth (nodes (handed u i) X) x ≡ nth (nodes (handed u i) W) x
      → nth (nodes (handed u j) X) x ≡ nth (nodes (handed u j) W) x
  same_across W X e = across X ∙ ap (λ (n : S.Node). node_seen (root_for j) (node_seen (root_for i) n)) e ∙ sym (across W)

-- THE SLOTS OF A NEW POOL

module _ (m : List ℕ) (t : SoundPool m) (new : is_new_forest (forest_of m) ≡ true) where
  abbrev most : ℕ
  most = (given_in m).nodes

  new_holds : (i : ℕ) → HoldsIndex (nodes_in m i) (index_with (bare_leaf (root_for i)) (up_from 2 (most - 2)))
  new_holds zero =
      subst (HoldsIndex (nodes_in m 0)) (ap (tree_of 0) (new_forest_is (given_in m) (forest_of m) (sound_forest m t) new)) (sound_holds_index m t 0)
  new_holds (suc i) =
      subst (HoldsIndex (nodes_in m 1)) (sym (tree_of_lem m 1) ∙ ap (tree_of 1) (new_forest_is (given_in m) (forest_of m) (sound_forest m t) new))
      (sound_holds_index m t 1)

  -- each root has no rows yet
  pub new_empty : (i : ℕ) → Empty (settings_in m i) (words m) (root_for i)
  new_empty i =
      record {
        held = sound_held m t i;
        slot = handed_root (given_in m) t.settings i;
        empty = ap (λ (n : S.Node). n.rows) (all_head (new_holds i).tree);
      }

  -- and all behind them are unused
  pub new_free : (i x : ℕ) → 2 ≤ x → x < most → nth (nodes_in m i) x ≡ unused
  new_free i x ge lt = by (ℕ_discrete (nth (nodes_in m i) x).kind 0)
    where
      by : Dec ((nth (nodes_in m i) x).kind ≡ 0) → nth (nodes_in m i) x ≡ unused
      by (yes e) = (new_holds i).blank x e
      by (no ne) =
          absurd
          (omega (arith, used_none (nodes_in m i) x ne, ap (times x) (new_holds i).unused, run_inside x 2 (most - 2) ge (omega arith)))
