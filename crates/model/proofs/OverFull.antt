-- Sharing and splitting an over-full child leaves every node that they change with minimum to order items, and the joined items as they were.
-- Assumes nothing.
use mathlib.Core.Path.{◌≡◌, refl, sym, ap, ◌∙◌}
use mathlib.Core.List.{List, [], ◌∷◌, ◌++◌, reverse_aux, append_assoc, append-nil}
use Prim.Native.Nat.{ℕ, ◌-◌, ◌*◌, ◌≤◌, ◌<◌}
use native.Mathlib.Omega.{arith}
use lib.ListN.{drop, length-append, length-take, length-drop}
use borrow.Author.Tests.{leb-true, leb-false}
use Rattle.model.specs.declared.Settings.{Settings}
use Rattle.model.specs.Lists.{All, none, one}
use Rattle.model.specs.Tree.{Node, len, lowest}
use Rattle.model.specs.Share.{Two, Row, half, cut_at, fits, full, share_back, share_on, split_over, share_next, share_out}
use Rattle.model.specs.Sound.{InLimits}
use Rattle.model.specs.Demands.{SharedOut, OverFullChild}
use Rattle.model.specs.Promises.{joined, back}
use Rattle.model.proofs.Lists.{by_test, all_append}
use Rattle.model.proofs.Trees.{joined_append, back_joined}
use Rattle.model.proofs.Settles.{Fair, half_fair, cut_same, cut_stocked, on_same, back_same}

module _ (st : Settings) (lim : InLimits st) {X : Type 0} where
  abbrev Sized : Node X → Type 0
  Sized n = (st.minimum ≤ len n) × (len n ≤ st.order)

  abbrev Few : Node X → Type 0
  Few n = len n ≤ st.order

  -- the parts of a fair cut that leaves the minimum in both
  cut_sized : (k : ℕ) (c : Node X) (s : ℕ) → Fair st k (len c) → st.minimum ≤ k → st.minimum ≤ len c - k
      → All Sized ((cut_at k c s).lower ∷ (cut_at k c s).upper ∷ [])
  cut_sized k c s f a b =
      let parts = cut_stocked k c s f in
      let lower : Sized (cut_at k c s).lower = (simp length-take (omega (arith, f.more)), parts.0.few) in
      let upper : Sized (cut_at k c s).upper = (simp length-drop (omega arith), parts.1.few) in
      one lower (one upper none)

  back_lower : (p c : Node X) → len p < st.order → st.order < len c → Sized (share_back st p c).lower
  back_lower p c a b =
      (simp (length-append, length-take) (omega (arith, lim.least)), simp (length-append, length-take) (omega arith))

  back_upper : (p c : Node X) → len p < st.order → st.order < len c → st.minimum ≤ len (share_back st p c).upper
  back_upper p c a b = simp length-drop (omega (arith, lim.least))

  on_lower : (c n : Node X) → Few n → st.order < len c → st.minimum ≤ len (share_on st c n).lower
  on_lower c n a b = simp length-take (omega (arith, lim.least))

  on_upper : (c n : Node X) → Few n → st.order < len c → Sized (share_on st c n).upper
  on_upper c n a b =
      (simp (length-append, length-drop) (omega (arith, lim.least)), simp (length-append, length-drop) (omega arith))

  -- nodes made of some items and the siblings behind them: sized ones, then the siblings but for some of the first
  pub record Eased (xs : List X) (after new : List (Node X)) : Type 0 where
    pub changed : List (Node X)
    pub used : ℕ
    pub made : new ≡ changed ++ drop used after
    pub sized : All Sized changed
    pub same : joined new ≡ xs ++ joined after

  split_sized : (c : Node X) (unused : List ℕ) → st.minimum ≤ len c → len c ≤ 2 * st.order → All Sized (split_over st c unused).nodes
  split_sized c unused a b =
      by_test (λ (r : Row (Node X)). All Sized r.nodes) (fits st c) (λ e. one (a, leb-true _ _ e) none)
      (λ e.
      let over : st.order < len c = leb-false _ _ e in
      cut_sized (half (len c)) c (lowest unused) (half_fair st lim (len c) over b) (omega (arith, lim.least)) (omega (arith, lim.least)))

  split_same : (c : Node X) (unused : List ℕ) → joined (split_over st c unused).nodes ≡ c.items
  split_same c unused =
      by_test (λ (r : Row (Node X)). joined r.nodes ≡ c.items) (fits st c) (λ e. append-nil c.items) (λ e. cut_same (half (len c)) c (lowest unused))

  shared_same : (c n : Node X) (after : List (Node X)) (unused : List ℕ)
      → joined ((split_over st (share_on st c n).lower unused).nodes ++ ((share_on st c n).upper ∷ after)) ≡ c.items ++ (n.items ++ joined after)
  shared_same c n after unused =
      joined_append (split_over st (share_on st c n).lower unused).nodes ((share_on st c n).upper ∷ after)
      ∙ ap (◌++ joined ((share_on st c n).upper ∷ after)) (split_same (share_on st c n).lower unused)
      ∙ sym (append_assoc (share_on st c n).lower.items (share_on st c n).upper.items (joined after))
      ∙ ap (◌++ joined after) (on_same st lim c n) ∙ append_assoc c.items n.items (joined after)

  next_eased : (c : Node X) {after : List (Node X)} (unused : List ℕ) → st.minimum ≤ len c → len c ≤ 2 * st.order → All Few after
      → Eased c.items after (share_next st c after unused).nodes
  next_eased c unused a b none =
      record {
        changed = (split_over st c unused).nodes;
        used = 0;
        made = sym (append-nil (split_over st c unused).nodes);
        sized = split_sized c unused a b;
        same = split_same c unused ∙ sym (append-nil c.items);
      }
  next_eased c unused a b (one {x = n} {xs = after} h hs) =
      by_test (λ (r : Row (Node X)). Eased c.items (n ∷ after) r.nodes) (fits st c)
      (λ e. record { changed = c ∷ []; used = 0; made = refl; sized = one (a, leb-true _ _ e) none; same = refl })
      (λ e.
      let over : st.order < len c = leb-false _ _ e in
      record {
        changed = (split_over st (share_on st c n).lower unused).nodes ++ ((share_on st c n).upper ∷ []);
        used = 1;
        made = sym (append_assoc (split_over st (share_on st c n).lower unused).nodes ((share_on st c n).upper ∷ []) after);
        sized = all_append (split_sized (share_on st c n).lower unused (on_lower c n h over) (simp length-take (omega arith))) (one (on_upper c n h over) none);
        same = shared_same c n after unused;
      })

  -- THE PLACE: where the row begins at the child ..
  placed : (before : List (Node X)) (c : Node X) (after new : List (Node X)) (unused : List ℕ) → Eased c.items after new
      → SharedOut st before c after (record { before = before; rest = new; unused = unused })
  placed before c after new unused k =
      record {
        left = 0;
        right = k.used;
        changed = k.changed;
        nodes = ap (reverse_aux before) k.made;
        sized = k.sized;
        same = back_joined before new ∙ ap (back before ++◌) k.same ∙ sym (back_joined before (c ∷ after));
      }

  -- .. and where it begins at the previous sibling, which had room
  stepped : (p : Node X) (before : List (Node X)) (c : Node X) (after new : List (Node X)) (unused : List ℕ) → len p < st.order → st.order < len c
      → Eased (share_back st p c).upper.items after new
      → SharedOut st (p ∷ before) c after (record { before = before; rest = (share_back st p c).lower ∷ new; unused = unused })
  stepped p before c after new unused room over k =
      let two : Two X = share_back st p c in
      record {
        left = 1;
        right = k.used;
        changed = two.lower ∷ k.changed;
        nodes = ap (λ (ns : List (Node X)). reverse_aux before (two.lower ∷ ns)) k.made;
        sized = one (back_lower p c room over) k.sized;
        same =
            back_joined before (two.lower ∷ new)
            ∙ ap (back before ++◌)
            (ap (two.lower.items ++◌) k.same ∙ sym (append_assoc two.lower.items two.upper.items (joined after))
            ∙ ap (◌++ joined after) (back_same st lim p c) ∙ append_assoc p.items c.items (joined after))
            ∙ sym (back_joined before (p ∷ c ∷ after));
      }

  shared_out : {before : List (Node X)} (c : Node X) {after : List (Node X)} (unused : List ℕ) → st.order < len c → len c ≤ 2 * st.order → All Few before → All Few after
      → SharedOut st before c after (share_out st before c after unused)
  shared_out c {after} unused over b none g =
      placed [] c after _ _ (next_eased c unused (omega (arith, lim.least)) b g)
  shared_out c {after} unused over b (one {x = p} {xs = before} h hs) g =
      by_test (SharedOut st (p ∷ before) c after) (full st p)
      (λ e. placed (p ∷ before) c after _ _ (next_eased c unused (omega (arith, lim.least)) b g))
      (λ e.
      let room : len p < st.order = leb-false _ _ e in
      stepped p before c after _ _ room over (next_eased (share_back st p c).upper unused (back_upper p c room over) (simp length-drop (omega arith)) g))

pub over_full_child_lem : OverFullChild
over_full_child_lem st X before c after unused lim over twice b g = shared_out st lim c unused over twice b g
