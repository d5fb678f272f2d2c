-- An empty child that is taken out: its slot is unused, and its row goes. Assumes nothing.
use mathlib.Core.Path.{◌≡◌, refl, sym, ap, ◌∙◌}
use mathlib.Core.List.{List, [], ◌∷◌, map, reverse_aux, append-nil}
use Prim.Native.Nat.{ℕ, suc, ◌-◌}
use native.Mathlib.Omega.{arith}
use lib.ListN.{length, set, length-set}
use lib.Seq.{get_or-set_other}
use Rattle.model.specs.declared.ChangeResult.TheVariants.{Remove}
use Rattle.slots_raw.specs.declared.Row as R
use Rattle.slots.specs.Nodes.{nodes, nth, rows_at, unused, put_rows, without}
use Rattle.slots.specs.Promises.{ToTouchRows, NodesPut}
use Rattle.slots.specs.Nodes as S
use Rattle.tree_spare.specs.declared.Spare.{Spare}
use Rattle.tree_spare.specs.Spared.{Spared, freeing}
use Rattle.tree_spare.proofs.Spares.{spared_freed}
use Rattle.slots.proofs.Nodes.{length_nodes}
use Rattle.model.specs.declared.Settings.{Settings}
use Rattle.model.specs.Lists.{none}
use Rattle.model.specs.Tree.{Tree, release}
use Rattle.model.specs.Share.{Place}
use Rattle.model.proofs.Lists.{hit_same}
use Rattle.tree.specs.Bridge.{row_for, unused_of}
use Rattle.tree.proofs.Unused.{unused_released}
use Rattle.batch_share.specs.Children.{kids_at}
use Rattle.batch_share.specs.Promises.{Settled, Ended, Focus, Came}
use Rattle.batch_share.specs.declared.Standing.{Standing}
use Rattle.batch_share.proofs.Zips.{without_turned, map_turned}
use Rattle.batch_share.proofs.Places.{parent_in, came_kids}
use Rattle.batch_share.proofs.Recast.{recast_settles}
use Rattle.batch_share.proofs.Puts.{blank_set}
use Rattle.batch_share.proofs.Focuses.{focus_away, focus_used, focus_in, focus_long, focus_rows, focus_place}

module _ {st : Settings} {W : List ℕ} {h s i : ℕ} {b : List (Tree h)} {c : Tree h} {a : List (Tree h)} (t : Focus st W h s i b c a)
    (none_left : c.items ≡ []) (y : ℕ) (ey : y ≡ c.slot) (W₁ : List ℕ) (w : NodesPut st W W₁ (set (nodes st W) y unused)) where
  abbrev ns : List S.Node
  ns = nodes st W

  abbrev f : Tree h → R.Row
  f = row_for (suc h)

  abbrev out_nodes : List S.Node
  out_nodes = set ns c.slot unused

  nodes_out : nodes st W₁ ≡ out_nodes
  nodes_out = w.is ∙ ap (λ (z : ℕ). set ns z unused) ey

  parent_rows : rows_at st W₁ s ≡ rows_at st W s
  parent_rows =
      ap (λ (ms : List S.Node). (nth ms s).rows) nodes_out
      ∙ ap (λ (n : S.Node). n.rows) (get_or-set_other ns c.slot s unused unused (λ e. focus_away t (sym e)))

  pub child_out : ToTouchRows st W₁ s i 1
  child_out = record { held = w.held; slot = parent_in t.family; within = omega (arith, focus_long t, ap length parent_rows) }

  module _ (W₂ : List ℕ) (v : NodesPut st W₁ W₂ (put_rows (nodes st W₁) s (without (rows_at st W₁ s) i 1))) where
    abbrev less : List R.Row
    less = without (rows_at st W₁ s) i 1

    rows_new : less ≡ map f (reverse_aux b a)
    rows_new =
        ap (λ (l : List R.Row). without l i 1) (parent_rows ∙ focus_rows t) ∙ ap (λ (n : ℕ). without (reverse_aux (map f b) (f c ∷ map f a)) n 1) (focus_place t)
        ∙ without_turned 0 1 (map f b) (f c ∷ map f a) ∙ sym (map_turned f b a)

    abbrev out_place : Place (Tree h)
    out_place = record { before = b; rest = a; unused = release c.slot (unused_of ns) }

    out_settles : Settled h s ns (put_rows out_nodes s less) (reverse_aux b (c ∷ a)) out_place
    out_settles =
        recast_settles h s ns out_nodes b (c ∷ []) [] a (release c.slot (unused_of ns)) t.family.holds t.family.apart
        (sym (append-nil c.items ∙ none_left)) none refl
        (λ z u o. get_or-set_other ns c.slot z unused unused (λ e. absurd (omega (arith, o, hit_same z c.slot e))))
        (unused_released ns c.slot (omega (arith, focus_in t, length_nodes st W)) (focus_used t))
        (blank_set ns c.slot unused t.family.empty (λ z. refl))
        (omega (arith, parent_in t.family, length_nodes st W, length-set ns c.slot unused))
        less rows_new

    out_came : Came st W W₂ h s (reverse_aux b (c ∷ a)) out_place
    out_came =
        let e : nodes st W₂ ≡ put_rows out_nodes s less = v.is ∙ ap (λ (ms : List S.Node). put_rows ms s less) nodes_out in
        record { held = v.held; header = v.header ∙ w.header; settled = rw e out_settles }

    -- the walk steps back
    pub taken_out : (spare : Spare) → Spared ns spare → (r : Standing) → r.at ≡ i - 1 → r.spare ≡ freeing spare y → Ended st W W₂ h s Remove r (kids_at ns h s) b c a
    taken_out spare l r ea el =
        let m : Came st W W₂ h s (kids_at ns h s) out_place = came_kids t.family W₂ out_place out_came in
        let lo : Spared (nodes st W₂) r.spare = rw el (spared_freed st W l W₂ y (m.settled.unused ∙ ap (λ (z : ℕ). release z (unused_of ns)) (sym ey))) in
        by b t.at m lo
      where
        by : (d : List (Tree h)) → i ≡ length d
            → Came st W W₂ h s (kids_at ns h s) (record { before = d; rest = a; unused = release c.slot (unused_of ns) }) → Spared (nodes st W₂) r.spare
            → Ended st W W₂ h s Remove r (kids_at ns h s) d c a
        by [] e m lo = record { held = m.held; header = m.header; settled = m.settled; at = omega (arith, ea, e); spared = lo }
        by (q ∷ d) e m lo =
            record {
              held = m.held;
              header = m.header;
              settled = record { holds = m.settled.holds; unused = m.settled.unused; frame = m.settled.frame; empty = m.settled.empty };
              at = omega (arith, ea, e);
              spared = lo;
            }
