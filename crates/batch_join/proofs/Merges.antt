-- Two neighbours that are merged: the rows of the upper go to the lower, its slot is unused, and its row goes. Assumes nothing.
use mathlib.Core.Path.{◌≡◌, refl, sym, ap, ◌∙◌, subst}
use mathlib.Core.List.{List, [], ◌∷◌, ◌++◌, map, reverse_aux, append_assoc}
use Prim.Native.Nat.{ℕ, suc, ◌+◌, ◌*◌, ◌≤◌, ◌<◌}
use native.Mathlib.Omega.{arith}
use lib.ListN.{length, set, length-map, length-set}
use lib.Seq.{get_or-set_other}
use Rattle.slots_raw.specs.declared.Row as R
use Rattle.slots.specs.Nodes.{nodes, nth, rows_at, unused, put_rows, without, put2, with_rows, join_nodes}
use Rattle.slots.specs.Promises.{ToGive, ToTouchRows, NodesPut}
use Rattle.slots.specs.Nodes as S
use Rattle.tree_spare.specs.declared.Spare.{Spare}
use Rattle.tree_spare.specs.Spared.{Spared, freeing}
use Rattle.tree_spare.proofs.Spares.{spared_freed}
use Rattle.slots.proofs.Nodes.{length_nodes}
use Rattle.slots_raw.proofs.Over.{map_append}
use Rattle.slots.proofs.Pads.{length_without}
use Rattle.model.specs.declared.Settings.{Settings}
use Rattle.model.specs.Lists.{none, one}
use Rattle.model.specs.Tree.{Tree, len, release}
use Rattle.model.specs.Share.{Place}
use Rattle.model.specs.Promises.{joined, back}
use Rattle.model.proofs.Lists.{hit_same, hit_other}
use Rattle.model.proofs.Trees.{back_joined}
use Rattle.tree.specs.Bridge.{row_for, node_for, unused_of}
use Rattle.tree.proofs.Cells.{kind_used}
use Rattle.tree.proofs.Unused.{unused_released, unused_kept}
use Rattle.batch_share.specs.Children.{kids_at, renewed}
use Rattle.batch_share.specs.Promises.{Settled, ToRenew, Bounded, Beside, Came, Left}
use Rattle.tree_node.specs.Ask.{row_over}
use Rattle.tree_node.proofs.Weights.{row_over_lem}
use Rattle.batch_share.proofs.Weights.{sums_fit, bounded_left, bounded_right}
use Rattle.batch_share.proofs.Zips.{set_turned, without_turned, map_turned}
use Rattle.batch_share.proofs.Places.{node_used, node_len, family_rows, parent_in, came_kids}
use Rattle.batch_share.proofs.Parents.{renews_after, renewed_after}
use Rattle.batch_share.proofs.Recast.{recast_settles}
use Rattle.batch_share.proofs.Puts.{put_first, put_other, length_put, blank_set}
use Rattle.batch_share.proofs.Turns.{own_lower, own_upper, apart_two, apart_lower, apart_upper, lower_in, upper_in, beside_long}
use Rattle.batch_share.proofs.Cuts.{both}

module _ {st : Settings} {W : List ℕ} {h s i : ℕ} {b : List (Tree h)} {p c : Tree h} {a : List (Tree h)} (t : Beside st W h s i b p c a)
    (x y : ℕ) (ex : x ≡ p.slot) (ey : y ≡ c.slot) where
  abbrev ns : List S.Node
  ns = nodes st W

  abbrev f : Tree h → R.Row
  f = row_for (suc h)

  inside : {z : ℕ} → z < st.nodes → z < length ns
  inside l = omega (arith, l, length_nodes st W)

  pub can_join : len p + len c ≤ 2 * st.order → ToGive st W y x (length (rows_at st W y))
  can_join few =
      rw (ex, ey) (record {
        held = t.family.held;
        slot = upper_in t;
        slot2 = lower_in t;
        apart = λ e. apart_two t (sym e);
        has = omega arith;
        room = omega (arith, few, node_len ns h p.slot p (own_lower t), node_len ns h c.slot c (own_upper t));
      })

  -- THE NODES
  abbrev merged_nodes : List S.Node
  merged_nodes = put2 ns p.slot (node_for h (both h p c)) c.slot unused

  merge_cut : join_nodes ns p.slot c.slot ≡ merged_nodes
  merge_cut =
      ap (λ (n : S.Node). put2 ns p.slot (with_rows n (n.rows ++ (nth ns c.slot).rows)) c.slot unused) (own_lower t)
      ∙ ap (λ (n : S.Node). put2 ns p.slot (with_rows (node_for h p) (map (row_for h) p.items ++ n.rows)) c.slot unused) (own_upper t)
      ∙ ap (λ (l : List R.Row). put2 ns p.slot (with_rows (node_for h p) l) c.slot unused) (sym (map_append (row_for h) p.items c.items))

  at_both : nth merged_nodes p.slot ≡ node_for h (both h p c)
  at_both = put_first ns p.slot (node_for h (both h p c)) c.slot unused (apart_two t) (inside (lower_in t))

  at_parent : nth merged_nodes s ≡ nth ns s
  at_parent = put_other ns p.slot (node_for h (both h p c)) c.slot unused s (λ e. apart_lower t (sym e)) (λ e. apart_upper t (sym e))

  both_bounded : Bounded h (p.items ++ c.items)
  both_bounded =
      bounded_left h (p.items ++ c.items) (joined a)
      (subst (Bounded h) (sym (append_assoc p.items c.items (joined a)))
      (bounded_right h (back b) (p.items ++ (c.items ++ joined a)) (subst (Bounded h) (back_joined b (p ∷ c ∷ a)) t.family.bounded)))

  module _ (W₁ : List ℕ) (w : NodesPut st W W₁ (join_nodes ns x y)) where
    nodes_merged : nodes st W₁ ≡ merged_nodes
    nodes_merged = w.is ∙ (λ j. join_nodes ns (ex j) (ey j)) ∙ merge_cut

    rows_in : (z : ℕ) (n : S.Node) → nth merged_nodes z ≡ n → rows_at st W₁ z ≡ n.rows
    rows_in z n e = ap (λ (ms : List S.Node). (nth ms z).rows) nodes_merged ∙ ap (λ (m : S.Node). m.rows) e

    parent_rows : rows_at st W₁ s ≡ rows_at st W s
    parent_rows = rows_in s (nth ns s) at_parent

    pub upper_out : ToTouchRows st W₁ s (i + 1) 1
    upper_out = record { held = w.held; slot = parent_in t.family; within = omega (arith, beside_long t, ap length parent_rows) }

    module _ (W₂ : List ℕ) (v : NodesPut st W₁ W₂ (put_rows (nodes st W₁) s (without (rows_at st W₁ s) (i + 1) 1))) where
      abbrev less : List R.Row
      less = without (rows_at st W₁ s) (i + 1) 1

      pub both_renews : ToRenew st W₂ h s i x
      both_renews =
          renews_after st W₁ W₂ h s i x less (parent_in t.family) (λ e. apart_lower t (sym ex ∙ e)) v
          (omega (arith, beside_long t, ap length parent_rows, length_without (rows_at st W₁ s) (i + 1) 1 (omega (arith, beside_long t, ap length parent_rows))))
          (omega (arith, lower_in t, ex))
          (rw (ap (rows_at st W₁) ex ∙ rows_in p.slot (node_for h (both h p c)) at_both) (sums_fit h (both h p c) both_bounded))

      row_both : row_over h x (rows_at st W₁ x) ≡ f (both h p c)
      row_both =
          ap (λ (z : ℕ). row_over h z (rows_at st W₁ z)) ex ∙ ap (row_over h p.slot) (rows_in p.slot (node_for h (both h p c)) at_both)
          ∙ row_over_lem h (both h p c) both_bounded.small

      abbrev new_rows : List R.Row
      new_rows = set less i (row_over h x (rows_at st W₁ x))

      rows_new : new_rows ≡ map f (reverse_aux b (both h p c ∷ a))
      rows_new =
          let here : i ≡ 0 + length (map f b) = omega (arith, t.at, length-map b f) in
          let next : i + 1 ≡ 1 + length (map f b) = omega (arith, t.at, length-map b f) in
          ap (λ (l : List R.Row). set (without l (i + 1) 1) i (row_over h x (rows_at st W₁ x)))
          (parent_rows ∙ family_rows t.family ∙ map_turned f b (p ∷ c ∷ a))
          ∙ ap (λ (n : ℕ). set (without (reverse_aux (map f b) (f p ∷ f c ∷ map f a)) n 1) i (row_over h x (rows_at st W₁ x))) next
          ∙ ap (λ (l : List R.Row). set l i (row_over h x (rows_at st W₁ x))) (without_turned 1 1 (map f b) (f p ∷ f c ∷ map f a))
          ∙ ap (λ (n : ℕ). set (reverse_aux (map f b) (f p ∷ map f a)) n (row_over h x (rows_at st W₁ x))) here
          ∙ set_turned 0 (map f b) (f p ∷ map f a) (row_over h x (rows_at st W₁ x))
          ∙ ap (λ (z : R.Row). reverse_aux (map f b) (z ∷ map f a)) row_both
          ∙ sym (map_turned f b (both h p c ∷ a))

      merged_unused : unused_of merged_nodes ≡ release c.slot (unused_of ns)
      merged_unused =
          let ms : List S.Node = set ns p.slot (node_for h (both h p c)) in
          let same : nth (set ns p.slot (node_for h (both h p c))) c.slot ≡ node_for h c =
          get_or-set_other ns p.slot c.slot (node_for h (both h p c)) unused (λ e. apart_two t (sym e)) ∙ own_upper t in
          unused_released ms c.slot (omega (arith, upper_in t, length_nodes st W, length-set ns p.slot (node_for h (both h p c))))
          (node_used ms h c.slot c same)
          ∙ ap (release c.slot) (unused_kept ns p.slot (node_for h (both h p c)) (ap (λ (n : S.Node). n.kind) (sym (own_lower t))))

      abbrev merged_place : Place (Tree h)
      merged_place = record { before = b; rest = both h p c ∷ a; unused = release c.slot (unused_of ns) }

      merged_settles : Settled h s ns (put_rows merged_nodes s new_rows) (reverse_aux b (p ∷ c ∷ a)) merged_place
      merged_settles =
          recast_settles h s ns merged_nodes b (p ∷ c ∷ []) (both h p c ∷ []) a (release c.slot (unused_of ns)) t.family.holds t.family.apart
          (append_assoc p.items c.items []) (one at_both none) (omega (arith, hit_other s p.slot (λ e. apart_lower t (sym e))))
          (λ z u o.
          put_other ns p.slot (node_for h (both h p c)) c.slot unused z (λ e. absurd (omega (arith, o, hit_same z p.slot e)))
          (λ e. absurd (omega (arith, o, hit_same z c.slot e))))
          merged_unused
          (blank_set (set ns p.slot (node_for h (both h p c))) c.slot unused
          (blank_set ns p.slot (node_for h (both h p c)) t.family.empty (λ z. absurd (kind_used h z))) (λ z. refl))
          (omega (arith, parent_in t.family, length_nodes st W, length_put ns p.slot (node_for h (both h p c)) c.slot unused))
          new_rows rows_new

      pub merged_left : (spare : Spare) → Spared ns spare → (r : Spare) → r ≡ freeing spare y → (W₃ : List ℕ) → NodesPut st W₂ W₃ (renewed (nodes st W₂) h s i x)
          → Left st W W₃ h s r (kids_at ns h s) merged_place
      merged_left spare l r er W₃ u =
          let q = renewed_after st W₁ W₂ h s i x less (parent_in t.family) (λ e. apart_lower t (sym ex ∙ e)) v W₃ u in
          let e : nodes st W₃ ≡ put_rows merged_nodes s new_rows = q.is ∙ ap (λ (ms : List S.Node). put_rows ms s new_rows) nodes_merged in
          let m : Came st W W₃ h s (reverse_aux b (p ∷ c ∷ a)) merged_place =
          record { held = u.held; header = q.header ∙ w.header; settled = rw e merged_settles } in
          record {
            came = came_kids t.family W₃ merged_place m;
            spared = rw er (spared_freed st W l W₃ y (m.settled.unused ∙ ap (λ (z : ℕ). release z (unused_of ns)) (sym ey)));
          }
