-- A place that is settled has the items and the slots that it had, stocked nodes, and at most one node more. Assumes nothing.
use mathlib.Core.Path.{◌≡◌, refl, sym, ap, ◌∙◌}
use mathlib.Core.Logic.{◌⊎◌, inl, inr}
use mathlib.Core.Bool.{Bool, true, false, true≢false}
use mathlib.Core.List.{List, [], ◌∷◌, ◌++◌, append_assoc, append-nil}
use Prim.Native.Nat.{ℕ, zero, suc, ◌+◌, ◌-◌, ◌*◌, ◌≤◌, ◌<◌}
use native.Mathlib.Omega.{arith}
use lib.Dec.{leb, ltb}
use lib.ListN.{length, drop, length-append, length-take, length-drop, take-append-drop}
use borrow.Author.Tests.{leb-true, leb-false, ltb-true, ltb-false}
use Rattle.model.specs.declared.Settings.{Settings}
use Rattle.model.specs.Lists.{hit, times, All, none, one, nil, cons}
use Rattle.model.specs.Tree.{Node, len, refill, lowest, others, release}
use Rattle.model.specs.Share.{Two, Row, Place, followed, stay, half, cut_at, fits, full, handed, share_back, share_on, split_over, share_next, share_out, join, absorb, take_out}
use Rattle.model.specs.declared.ChangeResult.{ChangeResult}
use Rattle.model.specs.declared.ChangeResult.TheVariants.{Unchanged, Remove, Split, Absorb, Changed}
use Rattle.model.specs.Change.{result_of, is_change, settle}
use Rattle.model.specs.Sound.{InLimits, Stocked, Ascending}
use Rattle.model.specs.Promises.{joined, back, OverFull, Says, takes}
use Rattle.model.proofs.Lists.{by_test, all_append, all_map}
use Rattle.model.proofs.Trees.{joined_append, own, own_append}

-- UNUSED SLOTS

pub times_release : (s x : ℕ) (unused : List ℕ) → times s (release x unused) ≡ hit s x + times s unused
times_release s x [] = refl
times_release s x (u ∷ unused) =
    by_test (λ (r : List ℕ). times s r ≡ hit s x + (hit s u + times s unused)) (ltb x u) (λ q. refl) (λ q. omega (arith, times_release s x unused))

pub length_release : (x : ℕ) (unused : List ℕ) → length (release x unused) ≡ suc (length unused)
length_release x [] = refl
length_release x (u ∷ unused) =
    by_test (λ (r : List ℕ). length r ≡ suc (suc (length unused))) (ltb x u) (λ q. refl) (λ q. ap suc (length_release x unused))

pub times_taken : (s : ℕ) (unused : List ℕ) → 0 < length unused → hit s (lowest unused) + times s (others unused) ≡ times s unused
times_taken s [] h = absurd (omega arith)
times_taken s (u ∷ unused) h = refl

pub length_others : (unused : List ℕ) → length unused ≤ suc (length (others unused))
length_others [] = omega arith
length_others (u ∷ unused) = omega arith

pub others_up : {unused : List ℕ} → Ascending unused → Ascending (others unused)
others_up nil = nil
others_up (cons h a) = a

release_above : (v x : ℕ) {unused : List ℕ} → v ≤ x → All (λ u. v ≤ u) unused → All (λ u. v ≤ u) (release x unused)
release_above v x le none = one le none
release_above v x le (one {x = u} g gs) =
    by_test (All (λ w. v ≤ w)) (ltb x u) (λ q. one le (one g gs)) (λ q. one g (release_above v x le gs))

pub release_up : (x : ℕ) {unused : List ℕ} → Ascending unused → Ascending (release x unused)
release_up x nil = cons none nil
release_up x (cons {x = u} {xs = us} h a) =
    by_test Ascending (ltb x u)
    (λ q. let lt : x < u = ltb-true _ _ q in cons (one (omega arith) (all_map (λ w g. omega arith) h)) (cons h a))
    (λ q. cons (release_above u x (ltb-false _ _ q) h) (release_up x a))

-- A CUT of n items at k is fair: both parts have 1 to order items
pub record Fair (st : Settings) (k n : ℕ) : Type 0 where
  pub some : 0 < k
  pub few : k ≤ st.order
  pub more : k < n
  pub rest : n - k ≤ st.order

-- the half of an over-full node is
pub half_fair : (st : Settings) → InLimits st → (n : ℕ) → st.order < n → n ≤ 2 * st.order → Fair st (half n) n
half_fair st lim n over twice = record { some = omega arith; few = omega arith; more = omega (arith, lim.wide); rest = omega arith }

module _ {X : Type 0} (k : ℕ) (c : Node X) (s : ℕ) where
  pub cut_same : joined ((cut_at k c s).lower ∷ (cut_at k c s).upper ∷ []) ≡ c.items
  cut_same = simp append-nil (take-append-drop k c.items)

  pub cut_stocked : {st : Settings} → Fair st k (len c) → Stocked st (cut_at k c s).lower × Stocked st (cut_at k c s).upper
  cut_stocked f = (
    record { some = simp length-take (omega arith); few = simp length-take (omega arith) },
    record { some = simp length-drop (omega arith); few = simp length-drop (omega arith) },
  )

-- A ROW MADE OF OTHER NODES, of which it may take k more

module _ (st : Settings) {X : Type 0} where
  pub record Remade (k : ℕ) (olds : List (Node X)) (unused : List ℕ) (r : Row (Node X)) : Type 0 where
    pub same : joined r.nodes ≡ joined olds
    pub stocked : All (Stocked st) r.nodes
    pub some : 0 < length r.nodes
    pub few : length r.nodes ≤ k + length olds
    pub slots : k ≤ length unused → (s : ℕ) → own s r.nodes + times s r.unused ≡ own s olds + times s unused
    pub taken : length unused ≤ k + length r.unused
    pub grows : k ≡ 0 → (s : ℕ) → times s unused ≤ times s r.unused
    pub up : Ascending unused → Ascending r.unused

  -- what is left alone behind a row
  remade_followed : (k : ℕ) {olds : List (Node X)} {unused : List ℕ} {r : Row (Node X)} {after : List (Node X)}
      → Remade k olds unused r → All (Stocked st) after → Remade k (olds ++ after) unused (followed r after)
  remade_followed k {olds} {unused} {r} {after} m h =
      record {
        same = joined_append r.nodes after ∙ ap (◌++ joined after) m.same ∙ sym (joined_append olds after);
        stocked = all_append m.stocked h;
        some = omega (arith, m.some, length-append r.nodes after);
        few = omega (arith, m.few, length-append r.nodes after, length-append olds after);
        slots = λ le s. omega (arith, m.slots le s, own_append s r.nodes after, own_append s olds after);
        taken = m.taken;
        grows = m.grows;
        up = m.up;
      }

  -- a node cut in two takes one more
  cut_remade : (k : ℕ) (c : Node X) (unused : List ℕ) → Fair st k (len c)
      → let two = cut_at k c (lowest unused) in Remade 1 (c ∷ []) unused (record { nodes = two.lower ∷ two.upper ∷ []; unused = others unused })
  cut_remade k c unused f =
      let parts = cut_stocked k c (lowest unused) f in
      record {
        same = cut_same k c (lowest unused) ∙ sym (append-nil c.items);
        stocked = one parts.0 (one parts.1 none);
        some = omega arith;
        few = omega arith;
        slots = λ le s. omega (arith, times_taken s unused le);
        taken = omega (arith, length_others unused);
        grows = λ z s. absurd (omega (arith, z));
        up = others_up;
      }

  module _ (lim : InLimits st) where
    split_remade : (c : Node X) (unused : List ℕ) → 0 < len c → len c ≤ 2 * st.order → Remade 1 (c ∷ []) unused (split_over st c unused)
    split_remade c unused pos twice =
        by_test (Remade 1 (c ∷ []) unused) (fits st c)
        (λ e. record {
          same = refl;
          stocked = one (record { some = pos; few = leb-true _ _ e }) none;
          some = omega arith;
          few = omega arith;
          slots = λ le s. refl;
          taken = omega arith;
          grows = λ z s. omega arith;
          up = λ a. a;
        })
        (λ e. cut_remade (half (len c)) c unused (half_fair st lim (len c) (leb-false _ _ e) twice))

    -- what a child hands on and what it keeps are what it had
    pub on_same : (c n : Node X) → (share_on st c n).lower.items ++ (share_on st c n).upper.items ≡ c.items ++ n.items
    on_same c n =
        sym (append_assoc (share_on st c n).lower.items _ n.items) ∙ ap (◌++ n.items) (take-append-drop (len c - handed st c n) c.items)

    pub back_same : (p c : Node X) → (share_back st p c).lower.items ++ (share_back st p c).upper.items ≡ p.items ++ c.items
    back_same p c = append_assoc p.items _ _ ∙ ap (p.items ++◌) (take-append-drop (handed st c p) c.items)

    on_some : (c n : Node X) → st.order < len c → 0 < len (share_on st c n).lower
    on_some c n over = simp length-take (omega (arith, lim.some))

    on_twice : (c n : Node X) → len c ≤ 2 * st.order → len (share_on st c n).lower ≤ 2 * st.order
    on_twice c n twice = simp length-take (omega arith)

    pub on_stocked : (c n : Node X) → st.order < len c → Stocked st n → Stocked st (share_on st c n).upper
    on_stocked c n over h = record { some = simp (length-append, length-drop) (omega arith); few = simp (length-append, length-drop) (omega arith) }

    back_some : (p c : Node X) → st.order < len c → 0 < len (share_back st p c).upper
    back_some p c over = simp length-drop (omega (arith, lim.some))

    back_twice : (p c : Node X) → len c ≤ 2 * st.order → len (share_back st p c).upper ≤ 2 * st.order
    back_twice p c twice = simp length-drop (omega arith)

    pub back_stocked : (p c : Node X) → Stocked st p → Stocked st (share_back st p c).lower
    back_stocked p c h = record { some = simp (length-append, length-take) (omega arith); few = simp (length-append, length-take) (omega arith) }

    next_remade : (c : Node X) {after : List (Node X)} (unused : List ℕ) → 0 < len c → len c ≤ 2 * st.order → All (Stocked st) after
        → Remade 1 (c ∷ after) unused (share_next st c after unused)
    next_remade c unused pos twice none = split_remade c unused pos twice
    next_remade c unused pos twice (one {x = n} {xs = after} g gs) =
        by_test (Remade 1 (c ∷ n ∷ after) unused) (fits st c)
        (λ e. record {
          same = refl;
          stocked = one (record { some = pos; few = leb-true _ _ e }) (one g gs);
          some = omega arith;
          few = omega arith;
          slots = λ le s. refl;
          taken = omega arith;
          grows = λ z s. omega arith;
          up = λ a. a;
        })
        (λ e.
        let over : st.order < len c = leb-false _ _ e in
        let two : Two X = share_on st c n in
        recast (remade_followed 1 (split_remade two.lower unused (on_some c n over) (on_twice c n twice)) (one (on_stocked c n over g) gs)))
      where
        recast : Remade 1 ((share_on st c n).lower ∷ (share_on st c n).upper ∷ after) unused (followed (split_over st (share_on st c n).lower unused) ((share_on st c n).upper ∷ after))
            → Remade 1 (c ∷ n ∷ after) unused (followed (split_over st (share_on st c n).lower unused) ((share_on st c n).upper ∷ after))
        recast m =
            record {
              same =
                  m.same ∙ sym (append_assoc (share_on st c n).lower.items (share_on st c n).upper.items (joined after))
                  ∙ ap (◌++ joined after) (on_same c n) ∙ append_assoc c.items n.items (joined after);
              stocked = m.stocked;
              some = m.some;
              few = m.few;
              slots = m.slots;
              taken = m.taken;
              grows = m.grows;
              up = m.up;
            }

    -- with the previous sibling, which takes the first items
    back_remade : (p c : Node X) {after : List (Node X)} (unused : List ℕ) → Stocked st p → OverFull st c → All (Stocked st) after
        → Remade 1 (p ∷ c ∷ after) unused
        (record { nodes = (share_back st p c).lower ∷ (share_next st (share_back st p c).upper after unused).nodes; unused = (share_next st (share_back st p c).upper after unused).unused })
    back_remade p c {after} unused h o g =
        let two : Two X = share_back st p c in
        let m : Remade 1 (two.upper ∷ after) unused (share_next st two.upper after unused) =
        next_remade two.upper unused (back_some p c o.over) (back_twice p c o.twice) g in
        record {
          same =
              ap (two.lower.items ++◌) m.same ∙ sym (append_assoc two.lower.items two.upper.items (joined after))
              ∙ ap (◌++ joined after) (back_same p c) ∙ append_assoc p.items c.items (joined after);
          stocked = one (back_stocked p c h) m.stocked;
          some = omega arith;
          few = omega (arith, m.few);
          slots = λ le s. omega (arith, m.slots le s);
          taken = m.taken;
          grows = m.grows;
          up = m.up;
        }

    join_remade : (a b : Node X) (unused : List ℕ) → Stocked st a → Stocked st b → Remade 0 (a ∷ b ∷ []) unused (join st a b unused)
    join_remade a b unused h g =
        let both : Node X = refill a (a.items ++ b.items) in
        let pos : 0 < len both = simp length-append (omega (arith, h.some)) in
        let twice : len both ≤ 2 * st.order = simp length-append (omega (arith, h.few, g.few)) in
        let whole : joined (a ∷ b ∷ []) ≡ both.items = ap (a.items ++◌) (append-nil b.items) in
        by_test (Remade 0 (a ∷ b ∷ []) unused) (fits st both)
        (λ e. record {
          same = append-nil both.items ∙ sym whole;
          stocked = one (record { some = pos; few = leb-true _ _ e }) none;
          some = omega arith;
          few = omega arith;
          slots = λ le s. omega (arith, times_release s b.slot unused);
          taken = omega (arith, length_release b.slot unused);
          grows = λ z s. omega (arith, times_release s b.slot unused);
          up = release_up b.slot;
        })
        (λ e.
        let parts = cut_stocked (half (len both)) both b.slot (half_fair st lim (len both) (leb-false _ _ e) twice) in
        record {
          same = cut_same (half (len both)) both b.slot ∙ sym whole;
          stocked = one parts.0 (one parts.1 none);
          some = omega arith;
          few = omega arith;
          slots = λ le s. refl;
          taken = omega arith;
          grows = λ z s. omega arith;
          up = λ a. a;
        })

-- HOW MANY NODES a result may take

pub takes_none : (r : ChangeResult) → (r ≡ Split → ⊥) → takes r ≡ 0
takes_none Unchanged h = refl
takes_none Changed h = refl
takes_none Absorb h = refl
takes_none Split h = absurd (h refl)
takes_none Remove h = refl

pub takes_one : (r : ChangeResult) → takes r ≤ 1
takes_one Unchanged = omega arith
takes_one Changed = omega arith
takes_one Absorb = omega arith
takes_one Split = omega arith
takes_one Remove = omega arith

-- A PLACE

module _ {X : Type 0} where
  abbrev pub items_of : Place (Node X) → List X
  items_of p = back p.before ++ joined p.rest

  abbrev pub many : Place (Node X) → ℕ
  many p = length p.before + length p.rest

  -- it has a child to go on from, or none before it
  abbrev pub Standing : List (Node X) → List (Node X) → Type 0
  Standing before rest = (0 < length rest) ⊎ (length before ≡ 0)

module _ (st : Settings) {X : Type 0} where
  -- the place of the child c, settled: it may have taken k more nodes, and have stepped back
  pub record Settles (k : ℕ) (before : List (Node X)) (c : Node X) (after : List (Node X)) (unused : List ℕ) (p : Place (Node X)) : Type 0 where
    pub steps : ℕ
    pub stepped : p.before ≡ drop steps before
    pub same : items_of p ≡ back before ++ (c.items ++ joined after)
    pub stocked : All (Stocked st) p.rest
    pub standing : Standing p.before p.rest
    pub few : many p ≤ k + (length before + suc (length after))
    pub slots : k ≤ length unused → (s : ℕ) → own s p.before + own s p.rest + times s p.unused ≡ own s before + (hit s c.slot + own s after) + times s unused
    pub taken : length unused ≤ k + length p.unused
    pub grows : k ≡ 0 → (s : ℕ) → times s unused ≤ times s p.unused
    pub up : Ascending unused → Ascending p.unused

  -- a row that begins at the child ..
  stays : (k : ℕ) (before : List (Node X)) {c : Node X} {after : List (Node X)} {unused : List ℕ} {r : Row (Node X)}
      → Remade st k (c ∷ after) unused r → Settles k before c after unused (stay before r)
  stays k before m =
      record {
        steps = 0;
        stepped = refl;
        same = ap (back before ++◌) m.same;
        stocked = m.stocked;
        standing = inl m.some;
        few = omega (arith, m.few);
        slots = λ le s. omega (arith, m.slots le s);
        taken = m.taken;
        grows = m.grows;
        up = m.up;
      }

  -- .. and one that begins at its previous sibling
  goes_back : (k : ℕ) (p : Node X) (before : List (Node X)) {c : Node X} {after : List (Node X)} {unused : List ℕ} {r : Row (Node X)}
      → Remade st k (p ∷ c ∷ after) unused r → Settles k (p ∷ before) c after unused (stay before r)
  goes_back k p before {c} {after} m =
      record {
        steps = 1;
        stepped = refl;
        same = ap (back before ++◌) m.same ∙ sym (append_assoc (back before) p.items (c.items ++ joined after));
        stocked = m.stocked;
        standing = inl m.some;
        few = omega (arith, m.few);
        slots = λ le s. omega (arith, m.slots le s);
        taken = m.taken;
        grows = m.grows;
        up = m.up;
      }

  -- a child that is left as it is
  rests : (before : List (Node X)) (c : Node X) (after : List (Node X)) (unused : List ℕ) → Stocked st c → All (Stocked st) after
      → Settles 0 before c after unused (record { before = before; rest = c ∷ after; unused = unused })
  rests before c after unused h g =
      record {
        steps = 0;
        stepped = refl;
        same = refl;
        stocked = one h g;
        standing = inl (omega arith);
        few = omega arith;
        slots = λ le s. refl;
        taken = omega arith;
        grows = λ z s. omega arith;
        up = λ a. a;
      }

  module _ (lim : InLimits st) where
    share_out_settles : {before : List (Node X)} (c : Node X) {after : List (Node X)} (unused : List ℕ) → OverFull st c → All (Stocked st) before → All (Stocked st) after
        → Settles 1 before c after unused (share_out st before c after unused)
    share_out_settles c unused o none g = stays 1 [] (next_remade st lim c unused (omega (arith, o.over)) o.twice g)
    share_out_settles c {after} unused o (one {x = p} {xs = before} h hs) g =
        by_test (Settles 1 (p ∷ before) c after unused) (full st p)
        (λ e. stays 1 (p ∷ before) (next_remade st lim c unused (omega (arith, o.over)) o.twice g))
        (λ e. goes_back 1 p before (back_remade st lim p c unused h o g))

    absorb_settles : {before : List (Node X)} (c : Node X) {after : List (Node X)} (unused : List ℕ) → Stocked st c → All (Stocked st) before → All (Stocked st) after
        → Settles 0 before c after unused (absorb st before c after unused)
    absorb_settles c unused h none none = rests [] c [] unused h none
    absorb_settles c unused h none (one {x = n} {xs = after} g gs) = stays 0 [] (remade_followed st 0 (join_remade st lim c n unused h g) gs)
    absorb_settles c unused h (one {x = p} {xs = before} b bs) g = goes_back 0 p before (remade_followed st 0 (join_remade st lim p c unused b h) g)

    take_out_settles : {before : List (Node X)} (c : Node X) {after : List (Node X)} (unused : List ℕ) → c.items ≡ [] → All (Stocked st) before → All (Stocked st) after
        → Settles 0 before c after unused (take_out before c after unused)
    take_out_settles c {after} unused e none g =
        record {
          steps = 0;
          stepped = refl;
          same = rw e refl;
          stocked = g;
          standing = inr refl;
          few = omega arith;
          slots = λ le s. omega (arith, times_release s c.slot unused);
          taken = omega (arith, length_release c.slot unused);
          grows = λ z s. omega (arith, times_release s c.slot unused);
          up = release_up c.slot;
        }
    take_out_settles c {after} unused e (one {x = p} {xs = before} b bs) g =
        goes_back 0 p before (record {
          same = rw e refl;
          stocked = one b g;
          some = omega arith;
          few = omega arith;
          slots = λ le s. omega (arith, times_release s c.slot unused);
          taken = omega (arith, length_release c.slot unused);
          grows = λ z s. omega (arith, times_release s c.slot unused);
          up = release_up c.slot;
        })

    -- THE LAW OF SETTLING
    pub settles : (r : ChangeResult) {before : List (Node X)} (c : Node X) {after : List (Node X)} (unused : List ℕ) → Says st r c → All (Stocked st) before → All (Stocked st) after
        → Settles (takes r) before c after unused (settle st r before c after unused)
    settles Unchanged {before} c {after} unused h b g = rests before c after unused h g
    settles Changed {before} c {after} unused h b g = rests before c after unused h g
    settles Split c unused h b g = share_out_settles c unused h b g
    settles Absorb c unused h b g = absorb_settles c unused h b g
    settles Remove c unused h b g = take_out_settles c unused h b g

  -- a result that is no change leaves the place as it was
  pub settle_idle : (r : ChangeResult) (before : List (Node X)) (c : Node X) (after : List (Node X)) (unused : List ℕ) → is_change r ≡ false
      → settle st r before c after unused ≡ record { before = before; rest = c ∷ after; unused = unused }
  settle_idle Unchanged before c after unused q = refl
  settle_idle Remove before c after unused q = absurd (true≢false q)
  settle_idle Split before c after unused q = absurd (true≢false q)
  settle_idle Absorb before c after unused q = absurd (true≢false q)
  settle_idle Changed before c after unused q = absurd (true≢false q)

  -- RESULTS

  pub result_says : (b : Bool) (c : Node X) → len c ≤ 2 * st.order → (b ≡ false → Stocked st c) → Says st (result_of st b (len c)) c
  result_says false c two h = h refl
  result_says true c two h = by_length c.items two
    where
      by_length : (xs : List X) → length xs ≤ 2 * st.order → Says st (result_of st true (length xs)) (refill c xs)
      by_length [] le = refl
      by_length (x ∷ xs) le =
          by_test (λ r. Says st r (refill c (x ∷ xs))) (leb (suc (length xs)) st.order)
          (λ e.
          let held : Stocked st (refill c (x ∷ xs)) = record { some = omega arith; few = leb-true _ _ e } in
          by_test (λ r. Says st r (refill c (x ∷ xs))) (leb st.minimum (suc (length xs))) (λ _. held) (λ _. held))
          (λ e. record { over = leb-false _ _ e; twice = le })

pub result_idle : (st : Settings) (b : Bool) (n : ℕ) → is_change (result_of st b n) ≡ false → b ≡ false
result_idle st false n = λ q. refl
result_idle st true zero = λ q. q
result_idle st true (suc n) =
    by_test (λ r. is_change r ≡ false → true ≡ false) (leb (suc n) st.order)
    (λ _. by_test (λ r. is_change r ≡ false → true ≡ false) (leb st.minimum (suc n)) (λ _ q. q) (λ _ q. q))
    (λ _ q. q)
