-- Settling from its start: the parent's row of the changed child is made new, and each result goes on from there. Assumes nothing.
use mathlib.Core.Path.{◌≡◌, refl, sym, ap, ◌∙◌, subst}
use mathlib.Core.List.{List, [], ◌∷◌, ◌++◌, map, reverse_aux}
use Prim.Native.Nat.{ℕ, suc, ◌+◌, ◌<◌}
use native.Mathlib.Omega.{arith}
use native.Mathlib.Decide.{ℕ_discrete}
use lib.ListN.{length, take, get_or, set, length-map, length-take, length-reverse_aux}
use Rattle.slots_raw.specs.declared.Row.{Row}
use Rattle.slots_raw.specs.Slots.{blank}
use Rattle.slots.specs.Nodes.{nodes, nth, unused, put_rows}
use Rattle.slots.specs.Promises.{NodesPut}
use Rattle.slots.specs.Nodes as S
use Rattle.slots.proofs.Nodes.{length_nodes, nth_rows, nth_put}
use Rattle.model.specs.declared.Settings.{Settings}
use Rattle.model.specs.Lists.{one, hit}
use Rattle.model.specs.Tree.{Tree}
use Rattle.model.specs.Share.{Place}
use Rattle.model.specs.Change.{settle}
use Rattle.model.specs.Promises.{joined, back, Says, takes}
use Rattle.model.proofs.Lists.{all_head, hit_same}
use Rattle.model.proofs.Trees.{back_joined}
use Rattle.model.proofs.Settles.{takes_one}
use Rattle.tree.specs.Bridge.{row_for, node_for, tree_at, child_of, Holds, Blank, unused_of}
use Rattle.tree.specs.Bridge as T
use Rattle.tree.proofs.Cells.{agree_items, cells_rest}
use Rattle.tree.proofs.Unused.{used_in}
use Rattle.model.specs.declared.ChangeResult.{ChangeResult}
use Rattle.model.specs.declared.ChangeResult.TheVariants.{Unchanged}
use Rattle.batch_share.specs.declared.Standing.{Standing}
use Rattle.batch_share.specs.Children.{inner, kids_at, child_at, before_at, after_at, renewed}
use Rattle.batch_share.specs.Promises.{ToSettle, Settled, Ended, ChildSettled, ToRenew, Bounded, Family, Poise, ToStep, Came}
use Rattle.tree_node.specs.Ask.{row_over}
use Rattle.tree_node.proofs.Weights.{row_over_lem}
use Rattle.batch_share.proofs.Weights.{sums_fit, bounded_left, bounded_right}
use Rattle.batch_share.proofs.Zips.{set_turned, map_turned}
use Rattle.batch_share.proofs.Places.{node_used, slot_of, kids_apart, family_kids, family_long}
use Rattle.batch_share.proofs.Parents.{unused_rows}
use Rattle.batch_share.proofs.Recast.{owns, then_settled}
use Rattle.tree_spare.specs.declared.Spare.{Spare}
use Rattle.tree_spare.specs.Spared.{Spared}
use Rattle.tree_spare.proofs.Spares.{spared_same}
use Rattle.batch_share.proofs.Focuses.{poise_focus}
use Rattle.batch_share.proofs.Readings.{to_readings, from_readings}
use Rattle.batch_share.proofs.Shares.{ended_by}

module _ {st : Settings} {W : List ℕ} {h s i : ℕ} {spare : Spare} {v : ChangeResult} (t : ToSettle st W h s i spare v) where
  abbrev ns : List S.Node
  ns = nodes st W

  abbrev b : List (Tree h)
  b = before_at ns h s i

  abbrev c : Tree h
  c = child_at ns h s i

  abbrev a : List (Tree h)
  a = after_at ns h s i

  abbrev kids : List (Tree h)
  kids = reverse_aux b (c ∷ a)

  abbrev f : Tree h → Row
  f = row_for (suc h)

  kids_are : kids ≡ kids_at ns h s
  kids_are = kids_apart ns h s i t.within

  place : i ≡ length b
  place =
      omega (
        arith,
        t.within,
        length-reverse_aux (take i (kids_at ns h s)) [],
        length-take i (kids_at ns h s),
        length-map (nth ns s).rows (λ r. tree_at ns h (child_of r)),
      )

  parent_in : s < st.nodes
  parent_in = omega (arith, used_in ns s (node_used ns (suc h) s (inner h s (reverse_aux b (t.old ∷ a))) t.loose.parent), length_nodes st W)

  own_child : nth ns c.slot ≡ node_for h c
  own_child = all_head (owns ns h (c ∷ a) (cells_rest (T.Stands ns) (suc h) b (c ∷ a) t.loose.kids))

  bounded : Bounded h (back b ++ (c.items ++ joined a))
  bounded = record { small = t.small; fit = t.fit }

  bounded_child : Bounded h c.items
  bounded_child = bounded_left h c.items (joined a) (bounded_right h (back b) (c.items ++ joined a) bounded)

  abbrev first : Place (Tree h)
  first = record { before = b; rest = c ∷ a; unused = unused_of ns }

  from_kids : (W₂ : List ℕ) (q : Place (Tree h)) → Came st W W₂ h s kids q → Came st W W₂ h s (kids_at ns h s) q
  from_kids W₂ q m = subst (λ (ks : List (Tree h)). Came st W W₂ h s ks q) kids_are m

  -- a child that did not change stands in its parent's row as it is
  pub arm_rests : (r : Standing) → v ≡ Unchanged → r.at ≡ i → r.spare ≡ spare → ChildSettled st W W h s i v r
  arm_rests r e ea el =
      let top : nth ns s ≡ node_for (suc h) (inner h s kids) =
      t.loose.parent ∙ ap (λ (n : Tree h). node_for (suc h) (inner h s (reverse_aux b (n ∷ a)))) (sym (t.kept e)) in
      let rests : Settled h s ns ns kids first = record { holds = one top t.loose.kids; unused = refl; frame = λ x u z. refl; empty = t.empty } in
      subst (λ (x : ChangeResult). ChildSettled st W W h s i x r) (sym e)
      (ended_by st W W h s Unchanged r b c a first refl (from_kids W first (record { held = t.held; header = refl; settled = rests })) (ea ∙ place)
      (subst (Spared ns) (sym el) t.spared))

  -- y is the slot in the child's row
  abbrev y : ℕ
  y = child_of (get_or (nth ns s).rows i blank)

  ey : y ≡ c.slot
  ey = slot_of ns h s i refl

  own_y : nth ns y ≡ node_for h c
  own_y = ap (nth ns) ey ∙ own_child

  pub start_renews : ToRenew st W h s i y
  start_renews =
      record {
        held = t.held;
        parent = parent_in;
        within = t.within;
        slot = omega (arith, used_in ns y (node_used ns h y c own_y), length_nodes st W);
        sums = rw (ap (λ (n : S.Node). n.rows) own_y) (sums_fit h c bounded_child);
      }

  -- THE ROW MADE NEW
  module _ (W₁ : List ℕ) (w : NodesPut st W W₁ (renewed ns h s i y)) where
    abbrev new_rows : List Row
    new_rows = set (nth ns s).rows i (row_over h y (nth ns y).rows)

    rows_new : new_rows ≡ map f kids
    rows_new =
        let here : i ≡ 0 + length (map f b) = omega (arith, place, length-map b f) in
        ap (λ (n : S.Node). set n.rows i (row_over h y (nth ns y).rows)) t.loose.parent
        ∙ ap (λ (l : List Row). set l i (row_over h y (nth ns y).rows)) (map_turned f b (t.old ∷ a))
        ∙ ap (λ (n : ℕ). set (reverse_aux (map f b) (f t.old ∷ map f a)) n (row_over h y (nth ns y).rows)) here
        ∙ set_turned 0 (map f b) (f t.old ∷ map f a) (row_over h y (nth ns y).rows)
        ∙ ap (λ (r : Row). reverse_aux (map f b) (r ∷ map f a))
        (ap (λ (n : S.Node). row_over h y n.rows) own_y ∙ ap (λ (z : ℕ). row_over h z (map (row_for h) c.items)) ey ∙ row_over_lem h c bounded_child.small)
        ∙ sym (map_turned f b (c ∷ a))

    kind : (nth ns s).kind ≡ 2
    kind = ap (λ (n : S.Node). n.kind) t.loose.parent

    top : nth (put_rows ns s new_rows) s ≡ node_for (suc h) (inner h s kids)
    top = nth_put ns s new_rows (omega (arith, parent_in, length_nodes st W)) ∙ (λ j. record { kind = kind j; rows = rows_new j })

    other : (x : ℕ) → hit x s ≡ 0 → nth (put_rows ns s new_rows) x ≡ nth ns x
    other x z = nth_rows ns x s new_rows (λ e. absurd (omega (arith, z, hit_same x s e)))

    holds_new : Holds (put_rows ns s new_rows) (suc h) (inner h s kids)
    holds_new = one top (agree_items ns (put_rows ns s new_rows) (suc h) kids (λ x g. other x (omega (arith, g, t.loose.apart x))) t.loose.kids)

    blank_new : Blank (put_rows ns s new_rows)
    blank_new x z = by (ℕ_discrete x s)
      where
        by : Dec (x ≡ s) → nth (put_rows ns s new_rows) x ≡ unused
        by (yes e) =
            let two : (nth (put_rows ns s new_rows) s).kind ≡ 2 = ap (λ (n : S.Node). n.kind) top in
            let nil : (nth (put_rows ns s new_rows) s).kind ≡ 0 = ap (λ (k : ℕ). (nth (put_rows ns s new_rows) k).kind) (sym e) ∙ z in
            absurd (omega arith)
        by (no ne) =
            let same : nth (put_rows ns s new_rows) x ≡ nth ns x = nth_rows ns x s new_rows ne in
            same ∙ t.empty x (ap (λ (n : S.Node). n.kind) (sym same) ∙ z)

    settled_new : Settled h s ns (put_rows ns s new_rows) kids first
    settled_new =
        record { holds = holds_new; unused = unused_rows ns s new_rows; frame = λ x u e. other x (omega (arith, e)); empty = blank_new }

    first_settled : Settled h s ns (nodes st W₁) kids first
    first_settled = rw w.is settled_new

    same_unused : unused_of (nodes st W₁) ≡ unused_of ns
    same_unused = first_settled.unused

    family : Family st W₁ h s kids
    family =
        record {
          held = w.held;
          holds = first_settled.holds;
          apart = t.loose.apart;
          bounded = subst (Bounded h) (sym (back_joined b (c ∷ a))) bounded;
          empty = first_settled.empty;
        }

    poise : Poise st W₁ h s i spare (takes v) b c a
    poise =
        record {
          family = family;
          at = place;
          stocked_before = t.stocked_before;
          stocked_after = t.stocked_after;
          few = omega (
            arith,
            t.few,
            takes_one v,
            family_long family,
            ap length kids_are,
            length-map (nth ns s).rows (λ r. tree_at ns h (child_of r)),
          );
          room = omega (arith, t.room, ap length same_unused);
          spared = spared_same st W t.spared W₁ same_unused;
        }

    -- what a result's own function is asked
    pub arm_asks : (u : ChangeResult) → v ≡ u → ToStep st W₁ h s i spare (takes u) × Says st u (child_at (nodes st W₁) h s i)
    arm_asks u e =
        subst (λ (x : ChangeResult). ToStep st W₁ h s i spare (takes x) × Says st x (child_at (nodes st W₁) h s i)) e
        (to_readings (poise_focus poise) (λ p q r. Poise st W₁ h s i spare (takes v) p q r × Says st v q) (poise, t.says))

    -- a result that leaves the place as it is
    pub arm_stays : (u : ChangeResult) (r : Standing) → v ≡ u → settle st u b c a (unused_of ns) ≡ first → r.at ≡ i → r.spare ≡ spare → ChildSettled st W W₁ h s i v r
    arm_stays u r e q ea el =
        subst (λ (x : ChangeResult). ChildSettled st W W₁ h s i x r) (sym e)
        (ended_by st W W₁ h s u r b c a first q (from_kids W₁ first (record { held = w.held; header = w.header; settled = first_settled }))
        (ea ∙ place) (subst (Spared (nodes st W₁)) (sym el) poise.spared))

    -- a result that goes on from there
    pub arm_ends : (u : ChangeResult) (W₂ : List ℕ) (r : Standing) → v ≡ u → ChildSettled st W₁ W₂ h s i u r → ChildSettled st W W₂ h s i v r
    arm_ends u W₂ r e d =
        let x : Ended st W₁ W₂ h s u r kids b c a =
        subst (λ (ks : List (Tree h)). Ended st W₁ W₂ h s u r ks b c a) (family_kids family)
        (from_readings (poise_focus poise) (λ p q z. Ended st W₁ W₂ h s u r (kids_at (nodes st W₁) h s) p q z) d) in
        let same : settle st u b c a (unused_of (nodes st W₁)) ≡ settle st u b c a (unused_of ns) = ap (settle st u b c a) same_unused in
        let q : Place (Tree h) = settle st u b c a (unused_of ns) in
        let m : Came st W W₂ h s kids (settle st u b c a (unused_of ns)) =
        record {
          held = x.held;
          header = x.header ∙ w.header;
          settled =
              then_settled h s ns (nodes st W₁) (nodes st W₂) kids first q first_settled
              (subst (Settled h s (nodes st W₁) (nodes st W₂) kids) same x.settled) (λ z. refl);
        } in
        subst (λ (z : ChangeResult). ChildSettled st W W₂ h s i z r) (sym e)
        (ended_by st W W₂ h s u r b c a q refl (from_kids W₂ q m) (x.at ∙ ap (λ (p : Place (Tree h)). length p.before) same) x.spared)
