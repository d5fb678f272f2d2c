-- Two neighbours that become two others with the same items in all: sharing either way, and a join that is too long. Assumes nothing.
use mathlib.Core.Path.{◌≡◌, refl, sym, ap, ◌∙◌, subst}
use mathlib.Core.Logic.{◌≢◌}
use mathlib.Core.List.{List, [], ◌∷◌, ◌++◌, map, reverse_aux, append_assoc, append-nil}
use Prim.Native.Nat.{ℕ, suc, ◌+◌, ◌≤◌, ◌<◌}
use native.Mathlib.Omega.{arith}
use lib.ListN.{length, get_or, set, length-map, length-reverse_aux}
use Rattle.slots_raw.specs.declared.Row.{Row}
use Rattle.slots_raw.specs.Slots.{blank}
use Rattle.slots.specs.Nodes.{nodes, nth, rows_at, put_rows, put2}
use Rattle.slots.specs.Promises.{NodesPut}
use Rattle.slots.specs.Nodes as S
use Rattle.slots.proofs.Nodes.{length_nodes, fits_node}
use Rattle.model.specs.declared.Settings.{Settings}
use Rattle.model.specs.Lists.{All, none, one, hit, times}
use Rattle.model.specs.Tree.{Item, Tree, slots}
use Rattle.model.specs.Share.{Place}
use Rattle.model.specs.Promises.{joined, back}
use Rattle.model.proofs.Lists.{all_head, all_tail, hit_same}
use Rattle.model.proofs.Trees.{back_joined, own, slots_in}
use Rattle.tree.specs.Bridge.{row_for, node_for, child_of, unused_of}
use Rattle.tree.specs.Bridge as T
use Rattle.tree.proofs.Cells.{cells_rest, kind_used}
use Rattle.tree.proofs.Unused.{used_in}
use Rattle.batch_share.specs.Children.{inner, kids_at, child_at, renewed_two}
use Rattle.batch_share.specs.Promises.{Settled, ToName, ToRenewTwo, Bounded, Family, Beside, Neighbours, Came}
use Rattle.tree_node.specs.Ask.{row_over}
use Rattle.tree_node.proofs.Weights.{row_over_lem}
use Rattle.batch_share.proofs.Weights.{sums_fit, bounded_left, bounded_right}
use Rattle.batch_share.proofs.Zips.{set_turned, map_turned}
use Rattle.batch_share.proofs.Places.{node_used, Named, named_at, family_rows, family_long, parent_in, came_kids}
use Rattle.batch_share.proofs.Recast.{Own, owns, family_counts, recast_settles, then_settled}
use Rattle.batch_share.proofs.Puts.{put_first, put_second, put_other, length_put, unused_put, blank_set}

-- p and c cut otherwise
pub record Recut (h : ℕ) (p c p' c' : Tree h) : Type 0 where
  pub first : p'.slot ≡ p.slot
  pub second : c'.slot ≡ c.slot
  pub items : p'.items ++ c'.items ≡ p.items ++ c.items

-- the two in the pool
module _ {st : Settings} {W : List ℕ} {h s i : ℕ} {b : List (Tree h)} {p c : Tree h} {a : List (Tree h)} (t : Beside st W h s i b p c a) where
  kin : All (Own (nodes st W) h) (p ∷ c ∷ a)
  kin = owns (nodes st W) h (p ∷ c ∷ a) (cells_rest (T.Stands (nodes st W)) (suc h) b (p ∷ c ∷ a) (all_tail t.family.holds))

  pub own_lower : nth (nodes st W) p.slot ≡ node_for h p
  own_lower = all_head kin

  pub own_upper : nth (nodes st W) c.slot ≡ node_for h c
  own_upper = all_head (all_tail kin)

  counts : (x : ℕ) → times x (slots (suc (suc h)) (inner h s (reverse_aux b (p ∷ c ∷ a))))
      ≡ hit x s
      + (times x (slots_in (suc h) b) + (own x (p ∷ c ∷ []) + (own x a + (times x (slots_in h (joined (p ∷ c ∷ []))) + times x (slots_in h (joined a))))))
  counts x = family_counts h s b (p ∷ c ∷ []) a x

  pub apart_two : p.slot ≢ c.slot
  apart_two e = absurd (omega (arith, counts p.slot, t.family.apart p.slot, hit_same p.slot p.slot refl, hit_same p.slot c.slot e))

  pub apart_lower : p.slot ≢ s
  apart_lower e = absurd (omega (arith, counts p.slot, t.family.apart p.slot, hit_same p.slot p.slot refl, hit_same p.slot s e))

  pub apart_upper : c.slot ≢ s
  apart_upper e = absurd (omega (arith, counts c.slot, t.family.apart c.slot, hit_same c.slot c.slot refl, hit_same c.slot s e))

  pub lower_in : p.slot < st.nodes
  lower_in = omega (arith, used_in (nodes st W) p.slot (node_used (nodes st W) h p.slot p own_lower), length_nodes st W)

  pub upper_in : c.slot < st.nodes
  upper_in = omega (arith, used_in (nodes st W) c.slot (node_used (nodes st W) h c.slot c own_upper), length_nodes st W)

  pub beside_long : length (rows_at st W s) ≡ i + suc (suc (length a))
  beside_long = omega (arith, family_long t.family, length-reverse_aux b (p ∷ c ∷ a), t.at)

  pub beside_few : i + 2 ≤ 64
  beside_few = omega (arith, beside_long, fits_node st W s t.family.held, t.family.held.shape.limits.narrow)

  pub sits_lower : ToName st W h s i p
  sits_lower = record { held = t.family.held; parent = parent_in t.family; within = omega (arith, beside_long); own = own_lower }

  pub sits_upper : ToName st W h s (i + 1) c
  sits_upper = record { held = t.family.held; parent = parent_in t.family; within = omega (arith, beside_long); own = own_upper }

  -- CUT OTHERWISE, the family has the slots and the items that it had
  module _ {p' c' : Tree h} (r : Recut h p c p' c') where
    two_same : joined (p' ∷ c' ∷ []) ≡ joined (p ∷ c ∷ [])
    two_same = ap (p'.items ++◌) (append-nil c'.items) ∙ r.items ∙ sym (ap (p.items ++◌) (append-nil c.items))

    joined_same : joined (reverse_aux b (p' ∷ c' ∷ a)) ≡ joined (reverse_aux b (p ∷ c ∷ a))
    joined_same =
        back_joined b (p' ∷ c' ∷ a)
        ∙ ap (back b ++◌) (sym (append_assoc p'.items c'.items (joined a)) ∙ ap (◌++ joined a) r.items ∙ append_assoc p.items c.items (joined a))
        ∙ sym (back_joined b (p ∷ c ∷ a))

    own_same : (x : ℕ) → own x (p' ∷ c' ∷ []) ≡ own x (p ∷ c ∷ [])
    own_same x = omega (arith, ap (hit x) r.first, ap (hit x) r.second)

    slots_same : (x : ℕ)
        → times x (slots (suc (suc h)) (inner h s (reverse_aux b (p' ∷ c' ∷ a)))) ≡ times x (slots (suc (suc h)) (inner h s (reverse_aux b (p ∷ c ∷ a))))
    slots_same x =
        omega (arith, counts x, family_counts h s b (p' ∷ c' ∷ []) a x, own_same x, ap (λ (l : List (Item h)). times x (slots_in h l)) two_same)

    bounded_new : Bounded h (p'.items ++ (c'.items ++ joined a))
    bounded_new =
        bounded_right h (back b) (p'.items ++ (c'.items ++ joined a)) (subst (Bounded h) (sym joined_same ∙ back_joined b (p' ∷ c' ∷ a)) t.family.bounded)

    bounded_lower : Bounded h p'.items
    bounded_lower = bounded_left h p'.items (c'.items ++ joined a) bounded_new

    bounded_upper : Bounded h c'.items
    bounded_upper = bounded_left h c'.items (joined a) (bounded_right h p'.items (c'.items ++ joined a) bounded_new)

    abbrev pub recut : Place (Tree h)
    recut = record { before = b; rest = p' ∷ c' ∷ a; unused = unused_of (nodes st W) }

    pub recut_family : (W₁ : List ℕ) → Came st W W₁ h s (reverse_aux b (p ∷ c ∷ a)) recut → Family st W₁ h s (reverse_aux b (p' ∷ c' ∷ a))
    recut_family W₁ m =
        record {
          held = m.held;
          holds = m.settled.holds;
          apart = λ x. omega (arith, slots_same x, t.family.apart x);
          bounded = subst (Bounded h) (sym joined_same) t.family.bounded;
          empty = m.settled.empty;
        }

    -- and a step after that is a step from the start
    pub recut_then : (W₁ W₂ : List ℕ) (q : Place (Tree h)) → Came st W W₁ h s (reverse_aux b (p ∷ c ∷ a)) recut
        → Came st W₁ W₂ h s (reverse_aux b (p' ∷ c' ∷ a)) q
        → Came st W W₂ h s (reverse_aux b (p ∷ c ∷ a)) q
    recut_then W₁ W₂ q m n =
        record {
          held = n.held;
          header = n.header ∙ m.header;
          settled =
              then_settled h s (nodes st W) (nodes st W₁) (nodes st W₂) (reverse_aux b (p ∷ c ∷ a)) recut q m.settled n.settled
              (λ x. omega (arith, slots_same x));
        }

    -- THE NODES WRITTEN, and then the two rows in the parent
    abbrev pub cut_nodes : List S.Node
    cut_nodes = put2 (nodes st W) p.slot (node_for h p') c.slot (node_for h c')

    inside : {x : ℕ} → x < st.nodes → x < length (nodes st W)
    inside l = omega (arith, l, length_nodes st W)

    at_lower : nth cut_nodes p.slot ≡ node_for h p'
    at_lower = put_first (nodes st W) p.slot (node_for h p') c.slot (node_for h c') apart_two (inside lower_in)

    at_upper : nth cut_nodes c.slot ≡ node_for h c'
    at_upper = put_second (nodes st W) p.slot (node_for h p') c.slot (node_for h c') (inside upper_in)

    at_parent : nth cut_nodes s ≡ nth (nodes st W) s
    at_parent = put_other (nodes st W) p.slot (node_for h p') c.slot (node_for h c') s (λ e. apart_lower (sym e)) (λ e. apart_upper (sym e))

    module _ (W₁ : List ℕ) (w : NodesPut st W W₁ cut_nodes) (x y : ℕ) (ex : x ≡ p.slot) (ey : y ≡ c.slot) where
      rows_in : (z : ℕ) (n : S.Node) → nth cut_nodes z ≡ n → rows_at st W₁ z ≡ n.rows
      rows_in z n e = ap (λ (ns : List S.Node). (nth ns z).rows) w.is ∙ ap (λ (m : S.Node). m.rows) e

      cut_renews : ToRenewTwo st W₁ h s i x y
      cut_renews =
          rw (ex, ey) (record {
            held = w.held;
            parent = parent_in t.family;
            within = omega (arith, beside_long, ap length (rows_in s (nth (nodes st W) s) at_parent));
            slot = lower_in;
            slot2 = upper_in;
            away = apart_upper;
            sums = rw (rows_in p.slot (node_for h p') at_lower) (sums_fit h p' bounded_lower);
            sums2 = rw (rows_in c.slot (node_for h c') at_upper) (sums_fit h c' bounded_upper);
          })

      abbrev cut_rows : List Row
      cut_rows =
          set (set (nth cut_nodes s).rows i (row_over h p.slot (nth cut_nodes p.slot).rows)) (i + 1) (row_over h c.slot (nth cut_nodes c.slot).rows)

      row_lower : row_over h p.slot (nth cut_nodes p.slot).rows ≡ row_for (suc h) p'
      row_lower =
          ap (λ (n : S.Node). row_over h p.slot n.rows) at_lower ∙ ap (λ (z : ℕ). row_over h z (map (row_for h) p'.items)) (sym r.first)
          ∙ row_over_lem h p' bounded_lower.small

      row_upper : row_over h c.slot (nth cut_nodes c.slot).rows ≡ row_for (suc h) c'
      row_upper =
          ap (λ (n : S.Node). row_over h c.slot n.rows) at_upper ∙ ap (λ (z : ℕ). row_over h z (map (row_for h) c'.items)) (sym r.second)
          ∙ row_over_lem h c' bounded_upper.small

      rows_new : cut_rows ≡ map (row_for (suc h)) (reverse_aux b (p' ∷ c' ∷ a))
      rows_new =
          let f : Tree h → Row = row_for (suc h) in
          let here : i ≡ 0 + length (map f b) = omega (arith, t.at, length-map b f) in
          let next : i + 1 ≡ 1 + length (map f b) = omega (arith, t.at, length-map b f) in
          ap (λ (l : List Row). set (set l i (row_over h p.slot (nth cut_nodes p.slot).rows)) (i + 1) (row_over h c.slot (nth cut_nodes c.slot).rows))
          (ap (λ (n : S.Node). n.rows) at_parent ∙ family_rows t.family ∙ map_turned f b (p ∷ c ∷ a))
          ∙ ap (λ (z : Row). set (set (reverse_aux (map f b) (f p ∷ f c ∷ map f a)) i z) (i + 1) (row_over h c.slot (nth cut_nodes c.slot).rows)) row_lower
          ∙ ap (λ (z : Row). set (set (reverse_aux (map f b) (f p ∷ f c ∷ map f a)) i (f p')) (i + 1) z) row_upper
          ∙ ap (λ (n : ℕ). set (set (reverse_aux (map f b) (f p ∷ f c ∷ map f a)) n (f p')) (i + 1) (f c')) here
          ∙ ap (λ (l : List Row). set l (i + 1) (f c')) (set_turned 0 (map f b) (f p ∷ f c ∷ map f a) (f p'))
          ∙ ap (λ (n : ℕ). set (reverse_aux (map f b) (f p' ∷ f c ∷ map f a)) n (f c')) next
          ∙ set_turned 1 (map f b) (f p' ∷ f c ∷ map f a) (f c')
          ∙ sym (map_turned f b (p' ∷ c' ∷ a))

      kind_kept : (z : ℕ) (d d' : Tree h) → nth (nodes st W) z ≡ node_for h d → (node_for h d').kind ≡ (nth (nodes st W) z).kind
      kind_kept z d d' e = ap (λ (n : S.Node). n.kind) (sym e)

      cut_settles : Settled h s (nodes st W) (put_rows cut_nodes s cut_rows) (reverse_aux b (p ∷ c ∷ a)) recut
      cut_settles =
          recast_settles h s (nodes st W) cut_nodes b (p ∷ c ∷ []) (p' ∷ c' ∷ []) a (unused_of (nodes st W)) t.family.holds t.family.apart two_same
          (one (ap (nth cut_nodes) r.first ∙ at_lower) (one (ap (nth cut_nodes) r.second ∙ at_upper) none))
          (omega (arith, own_same s, counts s, t.family.apart s, hit_same s s refl))
          (λ z u o.
          put_other (nodes st W) p.slot (node_for h p') c.slot (node_for h c') z (λ e. absurd (omega (arith, o, hit_same z p.slot e)))
          (λ e. absurd (omega (arith, o, hit_same z c.slot e))))
          (unused_put (nodes st W) p.slot (node_for h p') c.slot (node_for h c') apart_two (kind_kept p.slot p p' own_lower)
          (kind_kept c.slot c c' own_upper))
          (blank_set (set (nodes st W) p.slot (node_for h p')) c.slot (node_for h c')
          (blank_set (nodes st W) p.slot (node_for h p') t.family.empty (λ z. absurd (kind_used h z))) (λ z. absurd (kind_used h z)))
          (omega (arith, parent_in t.family, length_nodes st W, length_put (nodes st W) p.slot (node_for h p') c.slot (node_for h c')))
          cut_rows rows_new

      cut_came : (W₂ : List ℕ) → NodesPut st W₁ W₂ (renewed_two (nodes st W₁) h s i x y) → Came st W W₂ h s (kids_at (nodes st W) h s) recut
      cut_came W₂ v =
          let e : nodes st W₂ ≡ put_rows cut_nodes s cut_rows =
          v.is ∙ ap (λ (z : ℕ). renewed_two (nodes st W₁) h s i z y) ex ∙ ap (λ (z : ℕ). renewed_two (nodes st W₁) h s i p.slot z) ey
          ∙ ap (λ (ns : List S.Node). renewed_two ns h s i p.slot c.slot) w.is in
          came_kids t.family W₂ recut (record { held = v.held; header = v.header ∙ w.header; settled = rw e cut_settles })

-- A MOVE: the pool W₁ has the two cut otherwise; x and y are what the code has for their slots
pub record Moved (st : Settings) (W W₁ : List ℕ) (h : ℕ) (p c p' c' : Tree h) (x y : ℕ) : Type 0 where
  pub recut : Recut h p c p' c'
  pub lower : x ≡ p.slot
  pub upper : y ≡ c.slot
  pub now : NodesPut st W W₁ (put2 (nodes st W) p.slot (node_for h p') c.slot (node_for h c'))

module _ {st : Settings} {W W₁ : List ℕ} {h s i x y : ℕ} {b : List (Tree h)} {p c p' c' : Tree h} {a : List (Tree h)} (t : Beside st W h s i b p c a)
    (m : Moved st W W₁ h p c p' c' x y) where
  pub moved_renews : ToRenewTwo st W₁ h s i x y
  moved_renews = cut_renews t m.recut W₁ m.now x y m.lower m.upper

  pub moved_came : (W₂ : List ℕ) → NodesPut st W₁ W₂ (renewed_two (nodes st W₁) h s i x y)
      → Came st W W₂ h s (kids_at (nodes st W) h s) (record { before = b; rest = p' ∷ c' ∷ a; unused = unused_of (nodes st W) })
  moved_came = cut_came t m.recut W₁ m.now x y m.lower m.upper

-- the slots in the parent's rows are those of the two
module _ {st : Settings} {W : List ℕ} {h s i : ℕ} (t : Neighbours st W h s i) where
  pub lower_named : {x : ℕ} → x ≡ child_of (get_or (rows_at st W s) i blank) → Named st W h (child_at (nodes st W) h s i) x
  lower_named e = named_at (sits_lower t) e

  pub upper_named : {x : ℕ} → x ≡ child_of (get_or (rows_at st W s) (i + 1) blank) → Named st W h (child_at (nodes st W) h s (i + 1)) x
  upper_named e = named_at (sits_upper t) e
