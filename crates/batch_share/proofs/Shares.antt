-- An over-full child shared out: the steps put together. Assumes nothing.
use mathlib.Core.Path.{◌≡◌, refl, sym, ap, ◌∙◌, subst}
use mathlib.Core.Logic.{◌≢◌}
use mathlib.Core.Bool.{true, false, not, true≢false}
use mathlib.Core.List.{List, [], ◌∷◌, reverse_aux, append-nil}
use Prim.Native.Nat.{ℕ, ◌+◌, ◌-◌, ◌≤◌, ◌<◌}
use native.Mathlib.Omega.{arith}
use native.Mathlib.Decide.{dec_lt}
use lib.Dec.{ltb}
use lib.ListN.{length, length-reverse_aux}
use borrow.Author.Tests.{lt-ltb, le-ltb, le-leb, lt-leb, not-true, not-false}
use Rattle.slots.specs.Nodes.{nodes, rows_at}
use Rattle.model.specs.declared.Settings.{Settings}
use Rattle.model.specs.Lists.{one}
use Rattle.model.specs.Tree.{Node, Tree, len, lowest, others}
use Rattle.model.specs.Share.{Row, Place, full, half, cut_at, share_back, share_on, split_over, share_next, share_out, followed, stay, step_back}
use Rattle.model.specs.Sound.{InLimits}
use Rattle.model.proofs.Lists.{all_head, all_tail}
use Rattle.model.proofs.Settles.{on_stocked, back_stocked}
use Rattle.tree.specs.Bridge.{unused_of}
use Rattle.model.specs.Change.{settle}
use Rattle.batch_share.specs.Children.{kids_at, child_at, after_at, room_in}
use Rattle.batch_share.specs.Promises.{Settled, Ended, ToName, Family, Focus, Poise, ToStep, Beside, Neighbours, Came, Left, Parted, Rowed}
use Rattle.model.specs.declared.ChangeResult.{ChangeResult}
use Rattle.model.specs.declared.ChangeResult.TheVariants.{Split}
use Rattle.tree_spare.specs.declared.Spare.{Spare}
use Rattle.tree_spare.specs.Spared.{Spared}
use Rattle.tree_spare.proofs.Spares.{spared_same}
use Rattle.batch_share.specs.declared.Standing.{Standing}
use Rattle.batch_share.proofs.Places.{family_long, came_kids, kids_came}
use Rattle.batch_share.proofs.Turns.{recut_family, recut_then, sits_lower}
use Rattle.batch_share.proofs.Cuts.{recut_back, recut_on}
use Rattle.batch_share.proofs.Focuses.{poise_focus, focus_long}
use Rattle.batch_share.proofs.Readings.{read_child, to_readings, from_rowed, lower_focus, to_two, from_two, back_beside, on_beside}

-- WHERE NOTHING IS DONE, the place stays
module _ {st : Settings} {W : List ℕ} {h s i : ℕ} {spare : Spare} {k : ℕ} {b : List (Tree h)} {c : Tree h} {a : List (Tree h)} (t : Poise st W h s i spare k b c a) where
  pub stays_left : Left st W W h s spare (kids_at (nodes st W) h s) (record { before = b; rest = c ∷ a; unused = unused_of (nodes st W) })
  stays_left =
      record {
        came = came_kids t.family W _ (record {
          held = t.family.held;
          header = refl;
          settled = record { holds = t.family.holds; unused = refl; frame = λ x u z. refl; empty = t.family.empty };
        });
        spared = t.spared;
      }

-- WHERE A PLACE IS LEFT, the model's is

pub ended_by : (st : Settings) (W W₁ : List ℕ) (h s : ℕ) (v : ChangeResult) (r : Standing) (b : List (Tree h)) (c : Tree h) (a : List (Tree h))
    (q : Place (Tree h)) → settle st v b c a (unused_of (nodes st W)) ≡ q → Came st W W₁ h s (kids_at (nodes st W) h s) q
    → r.at ≡ length q.before → Spared (nodes st W₁) r.spare → Ended st W W₁ h s v r (kids_at (nodes st W) h s) b c a
ended_by st W W₁ h s v r b c a q e m at l =
    record {
      held = m.held;
      header = m.header;
      settled = subst (Settled h s (nodes st W) (nodes st W₁) (kids_at (nodes st W) h s)) (sym e) m.settled;
      at = at ∙ ap (λ (p : Place (Tree h)). length p.before) (sym e);
      spared = l;
    }

-- a step back moves no child
step_back_lem : {st : Settings} {W W₁ : List ℕ} {h s : ℕ} {kids b : List (Tree h)} {p : Tree h} {r : Row (Tree h)}
    → Came st W W₁ h s kids (stay (p ∷ b) r) → Came st W W₁ h s kids (step_back (p ∷ b) r)
step_back_lem m =
    record {
      held = m.held;
      header = m.header;
      settled = record { holds = m.settled.holds; unused = m.settled.unused; frame = m.settled.frame; empty = m.settled.empty };
    }

-- THE MODEL'S ROWS AND PLACES, by their tests

module _ (st : Settings) {X : Type 0} where
  split_fits : (c : Node X) (a : List (Node X)) (us : List ℕ) → len c ≤ st.order → followed (split_over st c us) a ≡ record { nodes = c ∷ a; unused = us }
  split_fits c a us le = rw (le-leb (len c) st.order le) refl

  split_over_lem : (c : Node X) (a : List (Node X)) (us : List ℕ) → st.order < len c
      → let two = cut_at (half (len c)) c (lowest us) in
      followed (split_over st c us) a ≡ record { nodes = two.lower ∷ two.upper ∷ a; unused = others us }
  split_over_lem c a us lt = rw (lt-leb (len c) st.order lt) refl

  next_fits : (c : Node X) (a : List (Node X)) (us : List ℕ) → len c ≤ st.order → share_next st c a us ≡ record { nodes = c ∷ a; unused = us }
  next_fits c [] us le = rw (le-leb (len c) st.order le) refl
  next_fits c (n ∷ a) us le = rw (le-leb (len c) st.order le) refl

  next_last : (c : Node X) (us : List ℕ) → share_next st c [] us ≡ followed (split_over st c us) []
  next_last c us = λ j. record { nodes = sym (append-nil (split_over st c us).nodes) j; unused = (split_over st c us).unused }

  next_over : (c n : Node X) (a : List (Node X)) (us : List ℕ) → st.order < len c
      → share_next st c (n ∷ a) us ≡ followed (split_over st (share_on st c n).lower us) ((share_on st c n).upper ∷ a)
  next_over c n a us lt = rw (lt-leb (len c) st.order lt) refl

  out_stays : (b : List (Node X)) (c : Node X) (a : List (Node X)) (us : List ℕ) → room_in st b ≡ false → share_out st b c a us ≡ stay b (share_next st c a us)
  out_stays [] c a us q = refl
  out_stays (p ∷ b) c a us q = rw (not-false (full st p) q) refl

  out_back : (b : List (Node X)) (p c : Node X) (a : List (Node X)) (us : List ℕ) → room_in st (p ∷ b) ≡ true
      → share_out st (p ∷ b) c a us ≡ step_back ((share_back st p c).lower ∷ b) (share_next st (share_back st p c).upper a us)
  out_back b p c a us q = rw (not-true (full st p) q) refl

-- A CHILD THAT FITS stays, one that does not is split

module _ {st : Settings} {W : List ℕ} {h s i : ℕ} {spare : Spare} {k : ℕ} {b : List (Tree h)} {c : Tree h} {a : List (Tree h)} (t : Poise st W h s i spare k b c a) where
  pub fits_rowed : len c ≤ st.order → Left st W W h s spare (kids_at (nodes st W) h s) (stay b (followed (split_over st c (unused_of (nodes st W))) a))
  fits_rowed le =
      subst (λ (q : Row (Tree h)). Left st W W h s spare (kids_at (nodes st W) h s) (stay b q)) (sym (split_fits st c a (unused_of (nodes st W)) le)) (stays_left t)

  pub fits_next : len c ≤ st.order → Left st W W h s spare (kids_at (nodes st W) h s) (stay b (share_next st c a (unused_of (nodes st W))))
  fits_next le =
      subst (λ (q : Row (Tree h)). Left st W W h s spare (kids_at (nodes st W) h s) (stay b q)) (sym (next_fits st c a (unused_of (nodes st W)) le)) (stays_left t)

  pub over_rowed : (W₁ : List ℕ) (r : Spare) → st.order < len c
      → let us = unused_of (nodes st W) in
      let two = cut_at (half (len c)) c (lowest us) in
      Left st W W₁ h s r (kids_at (nodes st W) h s) (record { before = b; rest = two.lower ∷ two.upper ∷ a; unused = others us })
      → Left st W W₁ h s r (kids_at (nodes st W) h s) (stay b (followed (split_over st c (unused_of (nodes st W))) a))
  over_rowed W₁ r lt x =
      subst (λ (q : Row (Tree h)). Left st W W₁ h s r (kids_at (nodes st W) h s) (stay b q)) (sym (split_over_lem st c a (unused_of (nodes st W)) lt)) x

-- WITH THE NEXT: i is a child of others behind it

module _ {st : Settings} {W : List ℕ} {h s i : ℕ} {spare : Spare} {k : ℕ} {b : List (Tree h)} {c n : Tree h} {a : List (Tree h)} (t : Poise st W h s i spare k b c (n ∷ a))
    (over : st.order < len c) where
  pair_on : Beside st W h s i b c n a
  pair_on = on_beside (poise_focus t)

  limits : InLimits st
  limits = t.family.held.shape.limits

  abbrev Gives : List (Tree h) → Tree h → Tree h → List (Tree h) → Type 0
  Gives u v w z = Beside st W h s i u v w z × ((st.minimum ≤ len v) × (len w ≤ st.order))

  on_asks : Neighbours st W h s i × ((st.minimum ≤ len (child_at (nodes st W) h s i)) × (len (child_at (nodes st W) h s (i + 1)) ≤ st.order))
  on_asks = to_two pair_on Gives (pair_on, (omega (arith, over, limits.least), (all_head t.stocked_after).few))

  abbrev on_place : Place (Tree h)
  on_place = record { before = b; rest = (share_on st c n).lower ∷ (share_on st c n).upper ∷ a; unused = unused_of (nodes st W) }

  on_came : (W₁ : List ℕ) → Parted st W W₁ h s i (share_on st (child_at (nodes st W) h s i) (child_at (nodes st W) h s (i + 1)))
      → Came st W W₁ h s (reverse_aux b (c ∷ n ∷ a)) on_place
  on_came W₁ m =
      kids_came t.family W₁ on_place
      (from_two pair_on (λ u v w z. Came st W W₁ h s (kids_at (nodes st W) h s)
      (record { before = u; rest = (share_on st v w).lower ∷ (share_on st v w).upper ∷ z; unused = unused_of (nodes st W) })) m)

  on_poise : (W₁ : List ℕ) → Came st W W₁ h s (reverse_aux b (c ∷ n ∷ a)) on_place → Poise st W₁ h s i spare k b (share_on st c n).lower ((share_on st c n).upper ∷ a)
  on_poise W₁ m =
      let f : Family st W₁ h s (reverse_aux b ((share_on st c n).lower ∷ (share_on st c n).upper ∷ a)) = recut_family pair_on (recut_on st h c n limits) W₁ m in
      record {
        family = f;
        at = t.at;
        stocked_before = t.stocked_before;
        stocked_after = one (on_stocked st limits c n over (all_head t.stocked_after)) (all_tail t.stocked_after);
        few = omega (
          arith,
          t.few,
          family_long f,
          family_long t.family,
          length-reverse_aux b ((share_on st c n).lower ∷ (share_on st c n).upper ∷ a),
          length-reverse_aux b (c ∷ n ∷ a),
        );
        room = omega (arith, t.room, ap length m.settled.unused);
        spared = spared_same st W t.spared W₁ m.settled.unused;
      }

  on_left : (W₁ W₂ : List ℕ) (r : Spare) → Came st W W₁ h s (reverse_aux b (c ∷ n ∷ a)) on_place
      → Rowed st W₁ W₂ h s i r (followed (split_over st (child_at (nodes st W₁) h s i) (unused_of (nodes st W₁))) (after_at (nodes st W₁) h s i))
      → Left st W W₂ h s r (kids_at (nodes st W) h s) (stay b (share_next st c (n ∷ a) (unused_of (nodes st W))))
  on_left W₁ W₂ r m x =
      let y = from_rowed (poise_focus (on_poise W₁ m)) W₂ r (λ u w us. followed (split_over st u us) w) (unused_of (nodes st W)) m.settled.unused x in
      subst (λ (q : Row (Tree h)). Left st W W₂ h s r (kids_at (nodes st W) h s) (stay b q)) (sym (next_over st c n a (unused_of (nodes st W)) over))
      (record { came = came_kids t.family W₂ _ (recut_then pair_on (recut_on st h c n limits) W₁ W₂ _ m y.came); spared = y.spared })

-- of any child: whether others are behind it, the number of rows tells
module _ {st : Settings} {W : List ℕ} {h s i : ℕ} {spare : Spare} {k : ℕ} {b : List (Tree h)} {c : Tree h} where
  pub next_none : (a : List (Tree h)) (W₁ : List ℕ) (r : Spare) → Poise st W h s i spare k b c a → i + 1 ≡ length (rows_at st W s)
      → Left st W W₁ h s r (kids_at (nodes st W) h s) (stay b (followed (split_over st c (unused_of (nodes st W))) a))
      → Left st W W₁ h s r (kids_at (nodes st W) h s) (stay b (share_next st c a (unused_of (nodes st W))))
  next_none [] W₁ r t e x =
      subst (λ (q : Row (Tree h)). Left st W W₁ h s r (kids_at (nodes st W) h s) (stay b q)) (sym (next_last st c (unused_of (nodes st W)))) x
  next_none (n ∷ a) W₁ r t e x = absurd (omega (arith, focus_long (poise_focus t), e))

  pub next_asks : (a : List (Tree h)) → Poise st W h s i spare k b c a → st.order < len c → (i + 1 ≡ length (rows_at st W s) → ⊥)
      → Neighbours st W h s i × ((st.minimum ≤ len (child_at (nodes st W) h s i)) × (len (child_at (nodes st W) h s (i + 1)) ≤ st.order))
  next_asks [] t over ne = absurd (ne (omega (arith, focus_long (poise_focus t))))
  next_asks (n ∷ a) t over ne = on_asks t over

  pub next_poised : (a : List (Tree h)) (W₁ : List ℕ) → Poise st W h s i spare k b c a → st.order < len c → (i + 1 ≡ length (rows_at st W s) → ⊥)
      → Parted st W W₁ h s i (share_on st (child_at (nodes st W) h s i) (child_at (nodes st W) h s (i + 1))) → ToStep st W₁ h s i spare k
  next_poised [] W₁ t over ne m = absurd (ne (omega (arith, focus_long (poise_focus t))))
  next_poised (n ∷ a) W₁ t over ne m =
      let q = on_poise t over W₁ (on_came t over W₁ m) in
      to_readings (poise_focus q) (λ u v w. Poise st W₁ h s i spare k u v w) q

  pub next_left : (a : List (Tree h)) (W₁ W₂ : List ℕ) (r : Spare) → Poise st W h s i spare k b c a → st.order < len c → (i + 1 ≡ length (rows_at st W s) → ⊥)
      → Parted st W W₁ h s i (share_on st (child_at (nodes st W) h s i) (child_at (nodes st W) h s (i + 1)))
      → Rowed st W₁ W₂ h s i r (followed (split_over st (child_at (nodes st W₁) h s i) (unused_of (nodes st W₁))) (after_at (nodes st W₁) h s i))
      → Left st W W₂ h s r (kids_at (nodes st W) h s) (stay b (share_next st c a (unused_of (nodes st W))))
  next_left [] W₁ W₂ r t over ne m x = absurd (ne (omega (arith, focus_long (poise_focus t))))
  next_left (n ∷ a) W₁ W₂ r t over ne m x = on_left t over W₁ W₂ r (on_came t over W₁ m) x

-- WITH THE PREVIOUS

module _ {st : Settings} {W : List ℕ} {h s i : ℕ} {spare : Spare} {k : ℕ} {b : List (Tree h)} {p c : Tree h} {a : List (Tree h)} (t : Poise st W h s i spare k (p ∷ b) c a) where
  pair_back : Beside st W h s (i - 1) b p c a
  pair_back = back_beside (poise_focus t)

  abbrev Takes : List (Tree h) → Tree h → Tree h → List (Tree h) → Type 0
  Takes u v w z = Beside st W h s (i - 1) u v w z × ((len v ≤ st.order) × (st.minimum ≤ len w))

  back_asks : st.order < len c
      → Neighbours st W h s (i - 1) × ((len (child_at (nodes st W) h s (i - 1)) ≤ st.order) × (st.minimum ≤ len (child_at (nodes st W) h s (i - 1 + 1))))
  back_asks over =
      to_two pair_back Takes (pair_back, ((all_head t.stocked_before).few, omega (arith, over, t.family.held.shape.limits.least)))

  abbrev back_place : Place (Tree h)
  back_place = record { before = b; rest = (share_back st p c).lower ∷ (share_back st p c).upper ∷ a; unused = unused_of (nodes st W) }

  back_came : (W₁ : List ℕ) → Parted st W W₁ h s (i - 1) (share_back st (child_at (nodes st W) h s (i - 1)) (child_at (nodes st W) h s (i - 1 + 1)))
      → Came st W W₁ h s (reverse_aux b (p ∷ c ∷ a)) back_place
  back_came W₁ m =
      kids_came t.family W₁ back_place
      (from_two pair_back (λ u v w z. Came st W W₁ h s (kids_at (nodes st W) h s)
      (record { before = u; rest = (share_back st v w).lower ∷ (share_back st v w).upper ∷ z; unused = unused_of (nodes st W) })) m)

  back_poise : (W₁ : List ℕ) → Came st W W₁ h s (reverse_aux b (p ∷ c ∷ a)) back_place
      → Poise st W₁ h s i spare k ((share_back st p c).lower ∷ b) (share_back st p c).upper a
  back_poise W₁ m =
      let f : Family st W₁ h s (reverse_aux b ((share_back st p c).lower ∷ (share_back st p c).upper ∷ a)) =
      recut_family pair_back (recut_back st h p c t.family.held.shape.limits) W₁ m in
      record {
        family = f;
        at = t.at;
        stocked_before = one (back_stocked st t.family.held.shape.limits p c (all_head t.stocked_before)) (all_tail t.stocked_before);
        stocked_after = t.stocked_after;
        few = omega (
          arith,
          t.few,
          family_long f,
          family_long t.family,
          length-reverse_aux b ((share_back st p c).lower ∷ (share_back st p c).upper ∷ a),
          length-reverse_aux b (p ∷ c ∷ a),
        );
        room = omega (arith, t.room, ap length m.settled.unused);
        spared = spared_same st W t.spared W₁ m.settled.unused;
      }

  -- the walk steps back
  back_ended : (W₁ W₂ : List ℕ) (r : Standing) → room_in st (p ∷ b) ≡ true → r.at ≡ i - 1 → Came st W W₁ h s (reverse_aux b (p ∷ c ∷ a)) back_place
      → Rowed st W₁ W₂ h s i r.spare (share_next st (child_at (nodes st W₁) h s i) (after_at (nodes st W₁) h s i) (unused_of (nodes st W₁)))
      → Ended st W W₂ h s Split r (kids_at (nodes st W) h s) (p ∷ b) c a
  back_ended W₁ W₂ r room ea m x =
      let y = from_rowed (poise_focus (back_poise W₁ m)) W₂ r.spare (λ u w vs. share_next st u w vs) (unused_of (nodes st W)) m.settled.unused x in
      let z = came_kids t.family W₂ _ (recut_then pair_back (recut_back st h p c t.family.held.shape.limits) W₁ W₂ _ m y.came) in
      ended_by st W W₂ h s Split r (p ∷ b) c a _ (out_back st b p c a (unused_of (nodes st W)) room) (step_back_lem z) (ea ∙ omega (arith, t.at)) y.spared

-- of any child: whether one with room is before it, a test tells
module _ {st : Settings} {W : List ℕ} {h s i : ℕ} {c : Tree h} {a : List (Tree h)} where
  -- the sibling before child i
  pub room_sits : (b : List (Tree h)) → Focus st W h s i b c a → i ≢ 0 → ToName st W h s (i - 1) (child_at (nodes st W) h s (i - 1))
  room_sits [] t ne = absurd (ne t.at)
  room_sits (p ∷ b) t ne =
      let u : Beside st W h s (i - 1) b p c a = back_beside t in
      subst (ToName st W h s (i - 1)) (sym (read_child (lower_focus u))) (sits_lower u)

  pub room_told : (b : List (Tree h)) → Focus st W h s i b c a → i ≢ 0 → (n : ℕ) → n ≡ len (child_at (nodes st W) h s (i - 1)) → ltb n st.order ≡ room_in st b
  room_told [] t ne n e = absurd (ne t.at)
  room_told (p ∷ b) t ne n e = below (dec_lt n st.order) (e ∙ ap len (read_child (lower_focus (back_beside t))))
    where
      below : Dec (n < st.order) → n ≡ len p → ltb n st.order ≡ not (full st p)
      below (yes l) q = rw (lt-ltb n st.order l, lt-leb st.order (len p) (omega (arith, l, q))) refl
      below (no l) q = let g : st.order ≤ n = omega arith in rw (le-ltb n st.order g, le-leb st.order (len p) (omega (arith, g, q))) refl

module _ {st : Settings} {W : List ℕ} {h s i : ℕ} {spare : Spare} {k : ℕ} {c : Tree h} {a : List (Tree h)} where
  pub out_some : (b : List (Tree h)) → Poise st W h s i spare k b c a → room_in st b ≡ true → 0 < i
  out_some [] t room = absurd (true≢false (sym room))
  out_some (p ∷ b) t room = omega (arith, t.at)

  pub out_asks : (b : List (Tree h)) → Poise st W h s i spare k b c a → room_in st b ≡ true → st.order < len c
      → Neighbours st W h s (i - 1) × ((len (child_at (nodes st W) h s (i - 1)) ≤ st.order) × (st.minimum ≤ len (child_at (nodes st W) h s (i - 1 + 1))))
  out_asks [] t room over = absurd (true≢false (sym room))
  out_asks (p ∷ b) t room over = back_asks t over

  pub out_poised : (b : List (Tree h)) (W₁ : List ℕ) → Poise st W h s i spare k b c a → room_in st b ≡ true
      → Parted st W W₁ h s (i - 1) (share_back st (child_at (nodes st W) h s (i - 1)) (child_at (nodes st W) h s (i - 1 + 1))) → ToStep st W₁ h s i spare k
  out_poised [] W₁ t room m = absurd (true≢false (sym room))
  out_poised (p ∷ b) W₁ t room m =
      let q = back_poise t W₁ (back_came t W₁ m) in
      to_readings (poise_focus q) (λ u v w. Poise st W₁ h s i spare k u v w) q

  pub out_ended : (b : List (Tree h)) (W₁ W₂ : List ℕ) (r : Standing) → Poise st W h s i spare k b c a → room_in st b ≡ true → r.at ≡ i - 1
      → Parted st W W₁ h s (i - 1) (share_back st (child_at (nodes st W) h s (i - 1)) (child_at (nodes st W) h s (i - 1 + 1)))
      → Rowed st W₁ W₂ h s i r.spare (share_next st (child_at (nodes st W₁) h s i) (after_at (nodes st W₁) h s i) (unused_of (nodes st W₁)))
      → Ended st W W₂ h s Split r (kids_at (nodes st W) h s) b c a
  out_ended [] W₁ W₂ r t room ea m x = absurd (true≢false (sym room))
  out_ended (p ∷ b) W₁ W₂ r t room ea m x = back_ended t W₁ W₂ r room ea (back_came t W₁ m) x

  pub out_stayed : (b : List (Tree h)) (W₁ : List ℕ) (r : Standing) → Poise st W h s i spare k b c a → room_in st b ≡ false → r.at ≡ i
      → Left st W W₁ h s r.spare (kids_at (nodes st W) h s) (stay b (share_next st c a (unused_of (nodes st W))))
      → Ended st W W₁ h s Split r (kids_at (nodes st W) h s) b c a
  out_stayed b W₁ r t room ea x =
      ended_by st W W₁ h s Split r b c a _ (out_stays st b c a (unused_of (nodes st W)) room) x.came (ea ∙ t.at) x.spared
