-- Both trees built in a new pool, one behind the other: each has its slots free, and what stands in the end is the packed forest. Assumes nothing.
use mathlib.Core.Path.{◌≡◌, sym, ap, ◌∙◌, subst}
use mathlib.Core.Logic.{◌≢◌, ◌⊎◌, inl, inr}
use mathlib.Core.Bool.{true}
use mathlib.Core.List.{List, ◌∷◌}
use Prim.Native.Nat.{ℕ, zero, suc, ◌+◌, ◌-◌, ◌≤◌, ◌<◌}
use native.Mathlib.Omega.{arith}
use native.Mathlib.Decide.{dec_lt}
use lib.ListN.{length}
use Rattle.words.specs.Words.{words}
use Rattle.words.proofs.Laws.{Bytes}
use Rattle.slots.specs.Nodes.{nodes, nth, unused}
use Rattle.slots.specs.Nodes as S
use Rattle.slots.proofs.Nodes.{length_nodes}
use Rattle.slots_pool.proofs.Fresh.{both_held}
use Rattle.model.specs.declared.Entry.{Entry}
use Rattle.model.specs.declared.PoolSettings.{PoolSettings}
use Rattle.model.specs.Lists.{times, up_from}
use Rattle.model.specs.Tree.{Tree, entries_of, slots}
use Rattle.model.specs.Sound.{root_for}
use Rattle.model.specs.Forest.{Forest, planted, SoundForest}
use Rattle.model_pack.specs.PackForest.{packed_tree, node_count, nodes_used, is_new_forest, packed_from}
use Rattle.model.proofs.Layers.{handed_root}
use Rattle.model.proofs.Lists.{hit_other}
use Rattle.model.proofs.Numbers.{run_below, run_above}
use Rattle.model_pack.proofs.Packs.{packed_slot, packed_slots}
use Rattle.model_pack.proofs.PackForest.{packed_forest_sound}
use Rattle.tree.specs.Bridge.{Holds}
use Rattle.tree.specs.Pool.{SoundPool, given_in, settings_in, index_of, forest_of, image_of}
use Rattle.tree.proofs.Cells.{agree_tree}
use Rattle.tree.proofs.NodesOf.{forest_held}
use Rattle.tree.proofs.Pools.{tree_sees, sound_header, held_bytes}
use Rattle.pack_plan.proofs.Nodes.{packed_nodes_lem}
use Rattle.pack.specs.Build.{tree_for}
use Rattle.pack.specs.Promises.{ToBuild, Built}
use Rattle.index_pack.specs.declared.Plan.{Plan}
use Rattle.index_pack.specs.Plan.{plan_for, piece_of}
use Rattle.index_pack.proofs.Plans.{source_over, grown_is, grown_nodes, to_build}
use Rattle.index_pack.proofs.Targets.{same_across, new_empty, new_free}

module _ (l m : List ℕ) (s : SoundPool l) (t : SoundPool m) (orders : (i : ℕ) → (settings_in l i).order ≡ (settings_in m i).order) where
  abbrev u : PoolSettings
  u = given_in m

  -- tree i of the source
  abbrev es : ℕ → List Entry
  es i = entries_of (index_of l i)

  -- as it is planned, with the order that it has in the target
  abbrev pub plan : ℕ → Plan
  plan i = plan_for l i (settings_in m i).order

  -- as it is built, its other nodes from slot `next` on
  abbrev pub grown : (i : ℕ) → ℕ → Tree (plan i).height
  grown i next = tree_for (settings_in m i) (es i) (plan i).height (piece_of (plan i) (root_for i) next)

  grown_count : (i next : ℕ) → node_count (record { height = (plan i).height; root = grown i next }) ≡ (plan i).nodes
  grown_count i next = grown_nodes l s i (settings_in m i) (orders i) next

  -- the packed forest, and how many nodes it has
  abbrev pub target : Forest
  target = packed_from (given_in m) (forest_of l)

  first_count : node_count target.first ≡ (plan 0).nodes
  first_count = packed_nodes_lem (settings_in m 0).order (plan 0).height 0 2 (es 0)

  pub nodes_planned : nodes_used target ≡ (plan 0).nodes + (plan 1).nodes
  nodes_planned = omega (arith, first_count, packed_nodes_lem (settings_in m 1).order (plan 1).height 1 (node_count target.first + 1) (es 1))

  -- THE FIRST TREE, in a target that is new and has room

  module _ (new : is_new_forest (forest_of m) ≡ true) (room : (plan 0).nodes + (plan 1).nodes ≤ u.nodes) where
    pub first_asks : ToBuild (settings_in m 0) (words m) (plan 0).source (words l) (plan 0).height (piece_of (plan 0) 0 2)
    first_asks =
        to_build l s 0 (settings_in m 0) (orders 0) 2 (words m) (new_empty m t new 0) (omega arith) (omega (arith, room, grown_count 1 0))
        (λ x ge lt. new_free m t new 0 x ge (omega (arith, room, grown_count 1 0)))

    -- THE SECOND, behind it

    module _ (X : List ℕ) (r : ℕ) (d : Built (settings_in m 0) (words m) X (plan 0).height (grown 0 2) 2 r) where
      behind : r ≡ (plan 0).nodes + 1
      behind = omega (arith, d.end, grown_count 0 2)

      -- no other slot has changed, to whichever tree
      kept : (j x : ℕ) → x ≢ 0 → (x < 2) ⊎ (r ≤ x) → nth (nodes (settings_in m j) X) x ≡ nth (nodes (settings_in m j) (words m)) x
      kept j x ne out =
          same_across u 0 j x (words m) X (d.others x (λ e. ne (e ∙ packed_slot (settings_in m 0).order (plan 0).height 0 2 _)) out)

      still_free : (x : ℕ) → r ≤ x → suc x < r + (plan 1).nodes → nth (nodes (settings_in m 1) X) x ≡ unused
      still_free x ge lt =
          let two : 2 ≤ x = omega (arith, behind, ge, grown_count 0 2) in
          kept 1 x (λ e. absurd (omega (arith, two, e))) (inr ge) ∙ new_free m t new 1 x two (omega (arith, behind, room, lt))

      pub second_asks : ToBuild (settings_in m 1) X (plan 1).source (words l) (plan 1).height (piece_of (plan 1) 1 r)
      second_asks =
          to_build l s 1 (settings_in m 1) (orders 1) r X
          (record {
            held = both_held u X 0 1 t.settings d.held;
            slot = handed_root u t.settings 1;
            empty = ap (λ (n : S.Node). n.rows) (kept 1 1 (λ e. absurd (omega (arith, e))) (inl (omega arith))) ∙ (new_empty m t new 1).empty;
          })
          (omega (arith, behind, grown_count 0 2)) (omega (arith, behind, room)) still_free

      -- BOTH

      module _ (Y : List ℕ) (q : ℕ) (e : Built (settings_in m 1) X Y (plan 1).height (grown 1 r) r q) where
        last : q ≡ (plan 0).nodes + (plan 1).nodes
        last = omega (arith, e.end, behind, grown_count 1 r)

        kept_on : (j x : ℕ) → x ≢ 1 → (x < r) ⊎ (q ≤ x) → nth (nodes (settings_in m j) Y) x ≡ nth (nodes (settings_in m j) X) x
        kept_on j x ne out =
            same_across u 1 j x X Y (e.others x (λ p. ne (p ∙ packed_slot (settings_in m 1).order (plan 1).height 1 r _)) out)

        -- the slots of the first are none of the second's
        first_slots : (x : ℕ) → times x (slots (suc (plan 0).height) (grown 0 2)) ≡ times x (0 ∷ up_from 2 ((plan 0).nodes - 1))
        first_slots x =
            ap (times x) (packed_slots (settings_in m 0).order (plan 0).height 0 2 _)
            ∙ ap (λ (k : ℕ). times x (0 ∷ up_from 2 (k - 1))) (grown_count 0 2)

        not_1 : (x : ℕ) → 0 < times x (slots (suc (plan 0).height) (grown 0 2)) → x ≢ 1
        not_1 x on is =
            absurd
            (omega (arith, on, first_slots x, hit_other x 0 (λ z. absurd (omega (arith, z, is))), run_below x 2 ((plan 0).nodes - 1) (omega (arith, is))))

        low : (x : ℕ) → 0 < times x (slots (suc (plan 0).height) (grown 0 2)) → x < r
        low x on = by (dec_lt x r)
          where
            by : Dec (x < r) → x < r
            by (yes lt) = lt
            by (no ge) =
                absurd
                (omega (
                  arith,
                  on,
                  first_slots x,
                  hit_other x 0 (λ z. absurd (omega (arith, z, behind))),
                  run_above x 2 ((plan 0).nodes - 1) (omega (arith, behind)),
                ))

        first_stands : Holds (nodes (settings_in m 0) Y) (plan 0).height target.first.root
        first_stands =
            subst (Holds (nodes (settings_in m 0) Y) (plan 0).height) (grown_is l s 0 (settings_in m 0) (orders 0) 2)
            (agree_tree (nodes (settings_in m 0) X) (nodes (settings_in m 0) Y) (plan 0).height (grown 0 2)
            (λ x on. kept_on 0 x (not_1 x on) (inl (low x on))) d.tree)

        second_stands : Holds (nodes (settings_in m 1) Y) (plan 1).height target.second.root
        second_stands =
            let next : r ≡ node_count target.first + 1 = omega (arith, behind, first_count) in
            subst (Holds (nodes (settings_in m 1) Y) (plan 1).height)
            (grown_is l s 1 (settings_in m 1) (orders 1) r ∙ ap {B = Tree (plan 1).height} (λ (k : ℕ). (packed_tree (settings_in m 1) k (es 1)).root) next) e.tree

        stands : (i : ℕ) → Holds (nodes (settings_in m i) Y) (planted i target).height (planted i target).root
        stands zero = first_stands
        stands (suc i) = second_stands

        free : (x : ℕ) → 0 < times x target.unused → nth (nodes (settings_in m 0) Y) x ≡ unused
        free x on = by (dec_lt x (nodes_used target)) (dec_lt x u.nodes)
          where
            k : ℕ
            k = nodes_used target

            by : Dec (x < k) → Dec (x < u.nodes) → nth (nodes (settings_in m 0) Y) x ≡ unused
            by (yes lt) b = absurd (omega (arith, on, run_below x k (u.nodes - k) lt))
            by (no ge) (no past) = absurd (omega (arith, on, run_above x k (u.nodes - k) (omega (arith, nodes_planned, room))))
            by (no ge) (yes lt) =
                let from : q ≤ x = omega (arith, last, nodes_planned, ge) in
                let two : 2 ≤ x = omega (arith, last, grown_count 0 2, grown_count 1 r) in
                kept_on 0 x (λ z. absurd (omega (arith, z, two))) (inr from)
                ∙ kept 0 x (λ z. absurd (omega (arith, z, two))) (inr (omega (arith, from, last, behind, grown_count 1 r)))
                ∙ new_free m t new 0 x two lt

        sound : SoundForest u target
        sound =
            packed_forest_sound u (es 0) (es 1) (source_over l s 0 (settings_in m 0).order (orders 0)) (source_over l s 1 (settings_in m 1).order (orders 1))
            t.settings (omega (arith, nodes_planned, room))

        pub both_built : (m' : List ℕ) → words m' ≡ Y → length m' ≡ length m → Bytes m' → m' ≡ image_of u target
        both_built m' w len bytes =
            held_bytes u target Y m' (both_held u Y 1 0 t.settings e.held) (e.header ∙ d.header ∙ sound_header m t)
            (forest_held u target sound (nodes (settings_in m 0) Y) (length_nodes (settings_in m 0) Y) (λ i. rw (sym (tree_sees u Y i)) (stands i)) free)
            sound w (len ∙ t.exact) bytes
