-- A child that is split, wherever it is cut: its upper part goes to the lowest unused slot x, and a row for that is put in behind its own.
-- Assumes nothing.
use mathlib.Core.Path.{◌≡◌, sym, ap, ◌∙◌, subst}
use mathlib.Core.Logic.{◌≢◌}
use mathlib.Core.List.{List, [], ◌∷◌, ◌++◌, map, reverse_aux, append-nil}
use Prim.Native.Nat.{ℕ, suc, ◌+◌, ◌≤◌, ◌<◌}
use native.Mathlib.Omega.{arith}
use lib.ListN.{length, take, drop, set, take-append-drop}
use lib.Seq.{get_or-set_other}
use Rattle.slots_raw.specs.declared.Row as R
use Rattle.slots.specs.Nodes.{nodes, nth, rows_at, unused, put_rows, put_in, put2, with_rows, split_nodes}
use Rattle.slots.specs.Promises.{ToPutIn, NodesPut, ToSplit}
use Rattle.slots.specs.Nodes as S
use Rattle.slots_find.specs.Promises.{Lowest}
use Rattle.slots.proofs.Nodes.{length_nodes}
use Rattle.slots_raw.proofs.Over.{map_take, map_drop}
use Rattle.slots.proofs.Pads.{length_put_in}
use Rattle.model.specs.declared.Settings.{Settings}
use Rattle.model.specs.Lists.{none, one}
use Rattle.model.specs.Tree.{Tree, len, lowest, others}
use Rattle.model.specs.Share.{Place, half, cut_at}
use Rattle.model.proofs.Lists.{hit_same, hit_other}
use Rattle.model.proofs.Settles.{cut_same}
use Rattle.tree.specs.Bridge.{row_for, node_for, unused_of}
use Rattle.tree.proofs.Cells.{kind_used}
use Rattle.tree.proofs.Unused.{unused_taken, unused_kept}
use Rattle.tree_spare.specs.declared.Spare.{Spare}
use Rattle.tree_spare.specs.Spared.{Spared, ToTake}
use Rattle.tree_spare.proofs.Spares.{spared_in, spared_taken}
use Rattle.batch_share.specs.Children.{kids_at, renewed}
use Rattle.batch_share.specs.Promises.{Settled, ToRenew, Bounded, Focus, Poise, Came, Left}
use Rattle.tree.specs.Promises.{ToWeigh}
use Rattle.tree_node.specs.Ask.{row_over}
use Rattle.tree_node.proofs.Weights.{row_over_lem}
use Rattle.batch_share.proofs.Weights.{sums_fit, bounded_left, bounded_right}
use Rattle.batch_share.proofs.Zips.{set_turned, put_in_turned, map_turned}
use Rattle.batch_share.proofs.Places.{node_len, parent_in, came_kids}
use Rattle.batch_share.proofs.Parents.{renews_after, renewed_after}
use Rattle.batch_share.proofs.Recast.{recast_settles}
use Rattle.batch_share.proofs.Puts.{put_first, put_second, put_other, length_put, blank_set}
use Rattle.batch_share.proofs.Focuses.{poise_focus, own_focus, focus_away, focus_used, parent_used, focus_in, focus_long, focus_bounded, focus_rows, focus_place, focus_next}

-- y is what the code has for the child's slot, and `keep` for the rows that it keeps, which are k in the model
pub record Keeps (h : ℕ) (c : Tree h) (y keep k : ℕ) : Type 0 where
  pub slot : y ≡ c.slot
  pub rows : keep ≡ k
  pub within : k ≤ len c

-- the half of the n rows that the code counts
pub keeps_half : {st : Settings} {W : List ℕ} {h s i : ℕ} {spare : Spare} {b : List (Tree h)} {c : Tree h} {a : List (Tree h)} → Poise st W h s i spare 1 b c a
    → {y n keep : ℕ} → y ≡ c.slot → n ≡ length (rows_at st W y) → keep ≡ half n → Keeps h c y keep (half (len c))
keeps_half {st} {W} {h} {c = c} poise {y} {n} ey en ek =
    let long : n ≡ len c = en ∙ node_len (nodes st W) h y c (ap (nth (nodes st W)) ey ∙ own_focus (poise_focus poise)) in
    record { slot = ey; rows = ek ∙ ap half long; within = omega arith }

module _ {st : Settings} {W : List ℕ} {h s i : ℕ} {spare : Spare} {b : List (Tree h)} {c : Tree h} {a : List (Tree h)} (poise : Poise st W h s i spare 1 b c a)
    {y keep k : ℕ} (keeps : Keeps h c y keep k) where
  ey : y ≡ c.slot
  ey = keeps.slot

  t : Focus st W h s i b c a
  t = poise_focus poise

  -- the slot that the upper part takes
  abbrev x : ℕ
  x = spare.low

  lo : Lowest (nodes st W) x
  lo = poise.spared.lowest

  pub new_in : x < st.nodes
  new_in = spared_in st W poise.spared poise.room

  abbrev ns : List S.Node
  ns = nodes st W

  abbrev f : Tree h → R.Row
  f = row_for (suc h)

  abbrev lower_part : Tree h
  lower_part = (cut_at k c x).lower

  abbrev upper_part : Tree h
  upper_part = (cut_at k c x).upper

  inside : {z : ℕ} → z < st.nodes → z < length ns
  inside l = omega (arith, l, length_nodes st W)

  free_kind : (nth ns x).kind ≡ 0
  free_kind = lo.here (inside new_in)

  not_new : (z : ℕ) → (nth ns z).kind ≢ 0 → z ≢ x
  not_new z u e = u (ap (λ (k : ℕ). (nth ns k).kind) e ∙ free_kind)

  pub can_split : ToSplit st W y x keep
  can_split =
      rw ey (record {
        held = t.family.held;
        slot = focus_in t;
        slot2 = new_in;
        apart = not_new c.slot (focus_used t);
        free = t.family.empty x free_kind;
        within = omega (arith, keeps.rows, keeps.within, node_len ns h c.slot c (own_focus t));
      })

  -- THE NODES
  abbrev cut_nodes : List S.Node
  cut_nodes = put2 ns x (node_for h upper_part) c.slot (node_for h lower_part)

  cut_is : split_nodes ns c.slot x k ≡ cut_nodes
  cut_is =
      ap (λ (n : S.Node). put2 ns x (with_rows n (drop k n.rows)) c.slot (with_rows n (take k n.rows))) (own_focus t)
      ∙ ap (λ (l : List R.Row). put2 ns x (with_rows (node_for h c) l) c.slot (with_rows (node_for h c) (take k (map (row_for h) c.items))))
      (sym (map_drop (row_for h) k c.items))
      ∙ ap (λ (l : List R.Row). put2 ns x (node_for h upper_part) c.slot (with_rows (node_for h c) l)) (sym (map_take (row_for h) k c.items))

  at_upper : nth cut_nodes x ≡ node_for h upper_part
  at_upper = put_first ns x (node_for h upper_part) c.slot (node_for h lower_part) (λ e. not_new c.slot (focus_used t) (sym e)) (inside new_in)

  at_lower : nth cut_nodes c.slot ≡ node_for h lower_part
  at_lower = put_second ns x (node_for h upper_part) c.slot (node_for h lower_part) (inside (focus_in t))

  at_other : (z : ℕ) → (nth ns z).kind ≢ 0 → z ≢ c.slot → nth cut_nodes z ≡ nth ns z
  at_other z u ne = put_other ns x (node_for h upper_part) c.slot (node_for h lower_part) z (not_new z u) ne

  at_parent : nth cut_nodes s ≡ nth ns s
  at_parent = at_other s (parent_used t) (λ e. focus_away t (sym e))

  cut_bounded : Bounded h (take k c.items ++ drop k c.items)
  cut_bounded = subst (Bounded h) (sym (take-append-drop k c.items)) (focus_bounded t)

  lower_bounded : Bounded h lower_part.items
  lower_bounded = bounded_left h lower_part.items upper_part.items cut_bounded

  upper_bounded : Bounded h upper_part.items
  upper_bounded = bounded_right h lower_part.items upper_part.items cut_bounded

  module _ (W₁ : List ℕ) (w : NodesPut st W W₁ (split_nodes ns y x keep)) where
    nodes_cut : nodes st W₁ ≡ cut_nodes
    nodes_cut = w.is ∙ (λ j. split_nodes ns (ey j) x (keeps.rows j)) ∙ cut_is

    rows_in : (z : ℕ) (n : S.Node) → nth cut_nodes z ≡ n → rows_at st W₁ z ≡ n.rows
    rows_in z n e = ap (λ (ms : List S.Node). (nth ms z).rows) nodes_cut ∙ ap (λ (m : S.Node). m.rows) e

    pub upper_weighs : ToWeigh st W₁ h x
    upper_weighs = record { held = w.held; slot = new_in; sums = rw (rows_in x (node_for h upper_part) at_upper) (sums_fit h upper_part upper_bounded) }

    parent_rows : rows_at st W₁ s ≡ rows_at st W s
    parent_rows = rows_in s (nth ns s) at_parent

    pub upper_room : ToPutIn st W₁ s (i + 1) 1
    upper_room =
        record {
          held = w.held;
          slot = parent_in t.family;
          within = omega (arith, focus_long t, ap length parent_rows);
          room = omega (arith, poise.few, ap length parent_rows, w.held.shape.roomy);
        }

    module _ (row : R.Row) (er : row ≡ row_over h x (rows_at st W₁ x)) (W₂ : List ℕ)
        (v : NodesPut st W₁ W₂ (put_rows (nodes st W₁) s (put_in (rows_at st W₁ s) (i + 1) (row ∷ [])))) where
      abbrev more : List R.Row
      more = put_in (rows_at st W₁ s) (i + 1) (row ∷ [])

      pub lower_renews : ToRenew st W₂ h s i y
      lower_renews =
          renews_after st W₁ W₂ h s i y more (parent_in t.family) (λ e. focus_away t (sym ey ∙ e)) v
          (omega (
            arith,
            focus_long t,
            ap length parent_rows,
            length_put_in (rows_at st W₁ s) (i + 1) (row ∷ []) (omega (arith, focus_long t, ap length parent_rows)),
          ))
          (omega (arith, focus_in t, ey)) (rw (ap (rows_at st W₁) ey ∙ rows_in c.slot (node_for h lower_part) at_lower) (sums_fit h lower_part lower_bounded))

      row_upper : row ≡ f upper_part
      row_upper = er ∙ ap (row_over h x) (rows_in x (node_for h upper_part) at_upper) ∙ row_over_lem h upper_part upper_bounded.small

      row_lower : row_over h y (rows_at st W₁ y) ≡ f lower_part
      row_lower =
          ap (λ (z : ℕ). row_over h z (rows_at st W₁ z)) ey ∙ ap (row_over h c.slot) (rows_in c.slot (node_for h lower_part) at_lower)
          ∙ row_over_lem h lower_part lower_bounded.small

      abbrev new_rows : List R.Row
      new_rows = set more i (row_over h y (rows_at st W₁ y))

      rows_new : new_rows ≡ map f (reverse_aux b (lower_part ∷ upper_part ∷ a))
      rows_new =
          ap (λ (l : List R.Row). set (put_in l (i + 1) (row ∷ [])) i (row_over h y (rows_at st W₁ y))) (parent_rows ∙ focus_rows t)
          ∙ ap (λ (n : ℕ). set (put_in (reverse_aux (map f b) (f c ∷ map f a)) n (row ∷ [])) i (row_over h y (rows_at st W₁ y))) (focus_next t)
          ∙ ap (λ (l : List R.Row). set l i (row_over h y (rows_at st W₁ y))) (put_in_turned 1 (map f b) (f c ∷ map f a) (row ∷ []))
          ∙ ap (λ (n : ℕ). set (reverse_aux (map f b) (f c ∷ row ∷ map f a)) n (row_over h y (rows_at st W₁ y))) (focus_place t)
          ∙ set_turned 0 (map f b) (f c ∷ row ∷ map f a) (row_over h y (rows_at st W₁ y))
          ∙ ap (λ (z : R.Row). reverse_aux (map f b) (z ∷ row ∷ map f a)) row_lower
          ∙ ap (λ (z : R.Row). reverse_aux (map f b) (f lower_part ∷ z ∷ map f a)) row_upper
          ∙ sym (map_turned f b (lower_part ∷ upper_part ∷ a))

      cut_unused : unused_of cut_nodes ≡ others (unused_of ns)
      cut_unused =
          unused_kept (set ns x (node_for h upper_part)) c.slot (node_for h lower_part)
          (ap (λ (n : S.Node). n.kind) (sym (get_or-set_other ns x c.slot (node_for h upper_part) unused (not_new c.slot (focus_used t)) ∙ own_focus t)))
          ∙ (unused_taken ns x (node_for h upper_part) lo (inside new_in) (kind_used h)).1

      abbrev cut_place : Tree h → Tree h → Place (Tree h)
      cut_place p q = record { before = b; rest = p ∷ q ∷ a; unused = others (unused_of ns) }

      cut_settles : Settled h s ns (put_rows cut_nodes s new_rows) (reverse_aux b (c ∷ a)) (cut_place lower_part upper_part)
      cut_settles =
          recast_settles h s ns cut_nodes b (c ∷ []) (lower_part ∷ upper_part ∷ []) a (others (unused_of ns)) t.family.holds t.family.apart
          (cut_same k c x ∙ sym (append-nil c.items))
          (one at_lower (one at_upper none))
          (omega (arith, hit_other s c.slot (λ e. focus_away t (sym e)), hit_other s x (not_new s (parent_used t))))
          (λ z u o. at_other z u (λ e. absurd (omega (arith, o, hit_same z c.slot e))))
          cut_unused
          (blank_set (set ns x (node_for h upper_part)) c.slot (node_for h lower_part)
          (blank_set ns x (node_for h upper_part) t.family.empty (λ z. absurd (kind_used h z))) (λ z. absurd (kind_used h z)))
          (omega (arith, parent_in t.family, length_nodes st W, length_put ns x (node_for h upper_part) c.slot (node_for h lower_part)))
          new_rows rows_new

      -- the model's slot for the upper part is x
      model_new : x ≡ lowest (unused_of ns)
      model_new = sym (unused_taken ns x (node_for h upper_part) lo (inside new_in) (kind_used h)).0

      module _ (W₃ : List ℕ) (u : NodesPut st W₂ W₃ (renewed (nodes st W₂) h s i y)) where
        cut_came : Came st W W₃ h s (reverse_aux b (c ∷ a)) (cut_place lower_part upper_part)
        cut_came =
            let q = renewed_after st W₁ W₂ h s i y more (parent_in t.family) (λ e. focus_away t (sym ey ∙ e)) v W₃ u in
            let e : nodes st W₃ ≡ put_rows cut_nodes s new_rows = q.is ∙ ap (λ (ms : List S.Node). put_rows ms s new_rows) nodes_cut in
            record { held = u.held; header = q.header ∙ w.header; settled = rw e cut_settles }

        pub cut_taken : ToTake st W₃ spare
        cut_taken = spared_taken st W poise.spared W₃ u.held poise.room cut_came.settled.unused

        pub cut_left : (r : Spare) → Spared (nodes st W₃) r
            → Left st W W₃ h s r (kids_at ns h s) (cut_place (cut_at k c (lowest (unused_of ns))).lower (cut_at k c (lowest (unused_of ns))).upper)
        cut_left r l =
            record {
              came = came_kids t.family W₃ _
                  (subst (λ (z : ℕ). Came st W W₃ h s (reverse_aux b (c ∷ a)) (cut_place (cut_at k c z).lower (cut_at k c z).upper)) model_new cut_came);
              spared = l;
            }
