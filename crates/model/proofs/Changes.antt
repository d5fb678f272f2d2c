-- A node, changed, holds what the plain list holds after the tasks that it took; it loses and doubles no slot, and removals take none.
-- Assumes nothing.
use mathlib.Core.Path.{◌≡◌, refl, sym, ap, ◌∙◌}
use mathlib.Core.Logic.{◌⊎◌, inl, inr}
use mathlib.Core.Bool.{Bool, false, ◌&&◌, ◌||◌, true≢false}
use mathlib.Core.List.{List, [], ◌∷◌, ◌++◌, reverse_aux, append_assoc}
use Prim.Native.Nat.{ℕ, zero, suc, ◌+◌, ◌*◌, ◌≤◌, ◌<◌, min, max, suc-le-suc}
use native.Mathlib.Omega.{arith}
use native.Mathlib.Nat.{le_refl, le_trans, lt_of_le_of_lt, mul-suc, mul-zero}
use lib.Dec.{leb, ltb}
use lib.ListN.{length, length-append, length-reverse_aux}
use borrow.Author.Tests.{le-leb, le-ltb, ltb-true, ltb-false, leb-true, leb-false}
use Rattle.model.specs.declared.Entry.{Entry}
use Rattle.model.specs.declared.Counts.{Counts}
use Rattle.model.specs.declared.Settings.{Settings}
use Rattle.model.specs.Lists.{hit, times, All, none, one, cons}
use Rattle.model.specs.Tree.{Node, Item, Tree, len, refill, slots, greatest_key}
use Rattle.model.specs.Plain.{Task, step, effect_on, count, alters, plain_list, plain_counts}
use Rattle.model.specs.Share.{Place}
use Rattle.model.specs.declared.ChangeResult.{ChangeResult}
use Rattle.model.specs.declared.ChangeResult.TheVariants.{Split}
use Rattle.model.specs.Change.{is_change, Run, Walked, Outcome, counted, take_tasks, change_leaf, Spot, seek, ceiling_for, settle, walk, change_interior, change}
use Rattle.model.specs.Sound.{InLimits, Stocked, Whole, Sorted, Ascending}
use Rattle.model.specs.Promises.{flat, joined, back, OverFull, Says, takes, Rising, Removing, Due, Given, Ready, Enough}
use Rattle.model.proofs.Lists.{by_test, both_left, both_right, or_left, or_right, all_append, all_left, all_right, all_map, all_both, all_turned, all_head, all_tail, all_drop, ordered_left, ordered_right}
use Rattle.model.proofs.Plain.{Under, Over, Fit, list_inside, counts_inside, list_append, counts_append, list_sorted, step_idle, step_long, step_shrinks}
use Rattle.model.proofs.Trees.{flat_append, flat_joined, flat_zero, flat_three, back_joined, separator_ends, ends_over, ends_under, slots_in, own, own_turned, slots_three, slots_joined, slots_leaf}
use Rattle.model.proofs.Settles.{takes_none, takes_one, items_of, many, Standing, Settles, settles, settle_idle, result_says, result_idle}

-- TASKS

-- of the tasks ts, all but `left` were taken, and turned the list old into new and the counts c into d
pub record Did (ceiling : ℕ) (ts left : List Task) (old new : List Entry) (c d : Counts) : Type 0 where
  pub taken : List Task
  pub split : ts ≡ taken ++ left
  pub within : All (λ t. t.key ≤ ceiling) taken
  pub list : new ≡ plain_list taken old
  pub counts : d ≡ plain_counts taken old c

pub did_none : (ceiling : ℕ) (ts : List Task) (old : List Entry) (c : Counts) → Did ceiling ts ts old old c c
did_none ceiling ts old c = record { taken = []; split = refl; within = none; list = refl; counts = refl }

did_one : (ceiling : ℕ) (t : Task) {ts left : List Task} (old : List Entry) {new : List Entry} (c : Counts) {d : Counts} → t.key ≤ ceiling
    → Did ceiling ts left (step t old) new (count (effect_on t old) c) d → Did ceiling (t ∷ ts) left old new c d
did_one ceiling t old c h r =
    record { taken = t ∷ r.taken; split = ap (t ∷◌) r.split; within = one h r.within; list = r.list; counts = r.counts }

pub did_then : (ceiling : ℕ) {ts mid left : List Task} {a b e : List Entry} {x y z : Counts} → Did ceiling ts mid a b x y → Did ceiling mid left b e y z
    → Did ceiling ts left a e x z
did_then ceiling {ts} {mid} {left} {a} {b} {e} {x} {y} {z} p q =
    record {
      taken = p.taken ++ q.taken;
      split = p.split ∙ ap (p.taken ++◌) q.split ∙ sym (append_assoc p.taken q.taken left);
      within = all_append p.within q.within;
      list = q.list ∙ ap (plain_list q.taken) p.list ∙ sym (list_append p.taken q.taken a);
      counts = q.counts ∙ rw (p.list, p.counts) (sym (counts_append p.taken q.taken a x));
    }

pub did_fewer : {ceiling : ℕ} {ts left : List Task} {a b : List Entry} {c d : Counts} → Did ceiling ts left a b c d → length left ≤ length ts
did_fewer {left = left} r = rw r.split (simp length-append (omega arith))

-- what holds of all tasks holds of those left
pub did_left : {P : Task → Type 0} {ceiling : ℕ} {ts left : List Task} {a b : List Entry} {c d : Counts} → Did ceiling ts left a b c d → All P ts → All P left
did_left {P} {left = left} r h = all_right r.taken left (rw r.split at h)

pub did_rising : {ceiling : ℕ} {ts left : List Task} {a b : List Entry} {c d : Counts} → Did ceiling ts left a b c d → Rising ts → Rising left
did_rising {left = left} r h = ordered_right r.taken left (rw r.split at h)

-- THE SEARCH

-- the search of a child moves the place only
pub seek_turned : {Y : Type 0} (separator : Y → ℕ) (k : ℕ) (before : List Y) (c : Y) (cs : List Y)
    → reverse_aux (seek separator k before c cs).before ((seek separator k before c cs).child ∷ (seek separator k before c cs).after)
    ≡ reverse_aux before (c ∷ cs)
seek_turned separator k before c [] = refl
seek_turned {Y} separator k before c (n ∷ cs) =
    by_test (λ (z : Spot Y). reverse_aux z.before (z.child ∷ z.after) ≡ reverse_aux before (c ∷ n ∷ cs)) (ltb (separator c) k)
    (λ q. seek_turned separator k (c ∷ before) n cs) (λ q. refl)

-- WHAT A CHANGED NODE OWES

pub stocked_ready : (st : Settings) (h : ℕ) (n : Tree h) → Stocked st n → Ready st h n
stocked_ready st zero n g = g.few
stocked_ready st (suc h) n g = g

-- enough for a node is enough for its children
pub child_enough : (h : ℕ) (ts : List Task) (unused : List ℕ) → Enough (suc h) ts unused → Enough h ts unused
child_enough h ts unused (inl room) = inl (omega (arith, mul-suc (length ts) h))
child_enough h ts unused (inr rem) = inr rem

pub record Owes (st : Settings) (h ceiling : ℕ) (n : Tree h) (ts : List Task) (run : Run) (o : Outcome (Tree h)) : Type 0 where
  -- the list and the nodes
  pub did : Did ceiling ts o.tasks (flat h n.items) (flat h o.node.items) run.counts o.run.counts
  pub whole : All (Whole st h) o.node.items
  pub says : (is_change o.result ≡ false → Stocked st n) → Says st o.result o.node
  pub kept : is_change o.result ≡ false → o.node ≡ n
  pub moves : Ready st h n → Due ceiling ts → length o.tasks < length ts
  -- the slots
  pub slot : o.node.slot ≡ n.slot
  pub slots : Enough h ts run.unused
      → (s : ℕ) → times s (slots (suc h) o.node) + times s o.run.unused ≡ times s (slots (suc h) n) + times s run.unused
  pub spent : length run.unused + length o.tasks * h ≤ length o.run.unused + length ts * h
  pub shrinks : Removing ts → len o.node ≤ len n
  pub grows : Removing ts → (s : ℕ) → times s run.unused ≤ times s o.run.unused
  pub up : Ascending run.unused → Ascending o.run.unused

-- of a function that changes nodes of a level
abbrev pub Lawful : Settings → (h : ℕ) → (ℕ → Tree h → List Task → Run → Outcome (Tree h)) → Type 0
Lawful st h f = (ceiling : ℕ) (n : Tree h) (ts : List Task) (run : Run) → Given st h n ts → Owes st h ceiling n ts run (f ceiling n ts run)

-- LEAF

module _ (limit ceiling : ℕ) where
  -- the entries after some tasks
  pub record Took (ts : List Task) (es : List Entry) (ch : Bool) (run : Run) (w : Walked Entry) : Type 0 where
    pub did : Did ceiling ts w.tasks es w.items run.counts w.run.counts
    pub idle : w.changed ≡ false → (ch ≡ false) × (w.items ≡ es)
    pub long : length es ≤ suc limit → length w.items ≤ suc limit
    pub moves : Due ceiling ts → length es ≤ limit → length w.tasks < length ts
    pub shrinks : Removing ts → length w.items ≤ length es
    pub unused : w.run.unused ≡ run.unused

  took : (ts : List Task) (es : List Entry) (ch : Bool) (run : Run) → Took ts es ch run (take_tasks limit ceiling ts es ch run)
  took [] es ch run =
      record {
        did = did_none ceiling [] es run.counts;
        idle = λ q. (q, refl);
        long = λ le. le;
        moves = λ due le. absurd due;
        shrinks = λ r. le_refl _;
        unused = refl;
      }
  took (t ∷ ts) es ch run =
      by_test (Took (t ∷ ts) es ch run) (leb t.key ceiling && leb (length es) limit)
      (λ q.
      let low : t.key ≤ ceiling = leb-true _ _ (both_left (leb t.key ceiling) (leb (length es) limit) q) in
      let short : length es ≤ limit = leb-true _ _ (both_right (leb t.key ceiling) (leb (length es) limit) q) in
      takes_it low short (took ts (step t es) (ch || alters (effect_on t es)) (counted (effect_on t es) run)))
      (λ q. record {
        did = did_none ceiling (t ∷ ts) es run.counts;
        idle = λ e. (e, refl);
        long = λ le. le;
        moves = λ due le. absurd (true≢false (sym (rw (le-leb t.key ceiling due, le-leb (length es) limit le) refl) ∙ q));
        shrinks = λ r. le_refl _;
        unused = refl;
      })
    where
      takes_it : {w : Walked Entry} → t.key ≤ ceiling → length es ≤ limit
          → Took ts (step t es) (ch || alters (effect_on t es)) (counted (effect_on t es) run) w → Took (t ∷ ts) es ch run w
      takes_it low short k =
          record {
            did = did_one ceiling t es run.counts low k.did;
            idle = λ q.
                let r = k.idle q in
                (or_left ch (alters (effect_on t es)) r.0, r.1 ∙ step_idle t es (or_right ch (alters (effect_on t es)) r.0));
            long = λ le. k.long (le_trans (step_long t es) (suc-le-suc short));
            moves = λ due le. suc-le-suc (did_fewer k.did);
            shrinks = λ r. le_trans (k.shrinks (all_tail r)) (step_shrinks t es (all_head r));
            unused = k.unused;
          }

entries_whole : (st : Settings) (es : List Entry) → All (Whole st zero) es
entries_whole st [] = none
entries_whole st (e ∷ es) = one tt (entries_whole st es)

same_stocked : (st : Settings) {X : Type 0} (n : Node X) (xs : List X) → xs ≡ n.items → Stocked st n → Stocked st (refill n xs)
same_stocked st n xs e g = rw e g

leaf_law : (st : Settings) → InLimits st → Lawful st zero (change_leaf st)
leaf_law st lim ceiling n ts run g =
    let limit : ℕ = max (len n) st.order in
    let w : Walked Entry = take_tasks limit ceiling ts n.items false run in
    let k : Took limit ceiling ts n.items false run w = took limit ceiling ts n.items false run in
    let few : len n ≤ st.order = g.few in
    let long : length w.items ≤ suc limit = k.long (omega arith) in
    record {
      did = rw (flat_zero n.items, flat_zero w.items) k.did;
      whole = entries_whole st w.items;
      says = λ same. result_says st w.changed (refill n w.items) (omega (arith, lim.wide)) (λ q. same_stocked st n w.items (k.idle q).1 (same (rw q refl)));
      kept = λ q. ap (refill n) (k.idle (result_idle st w.changed (length w.items) q)).1;
      moves = λ ready due. k.moves due (omega arith);
      slot = refl;
      slots = λ enough s. omega (arith, slots_leaf s n.items, slots_leaf s w.items, ap (times s) k.unused);
      spent = omega (arith, mul-zero (length ts), mul-zero (length w.tasks), ap length k.unused);
      shrinks = k.shrinks;
      grows = λ r s. omega (arith, ap (times s) k.unused);
      up = λ a. rw k.unused a;
    }

-- INTERIOR

module _ (st : Settings) (h : ℕ) where
  -- nodes side by side, seen from a place: each is stocked, and their keys ascend
  pub record Ranged (before rest : List (Node (Item h))) : Type 0 where
    pub stocked_before : All (Stocked st) before
    pub stocked_rest : All (Stocked st) rest
    pub whole : All (Whole st h) (back before ++ joined rest)
    pub sorted : Sorted (flat h (back before ++ joined rest))

  ranged_step : (before : List (Node (Item h))) (c : Node (Item h)) (rest : List (Node (Item h))) → Ranged before (c ∷ rest) → Ranged (c ∷ before) rest
  ranged_step before c rest r =
      record {
        stocked_before = one (all_head r.stocked_rest) r.stocked_before;
        stocked_rest = all_tail r.stocked_rest;
        whole = rw (append_assoc (back before) c.items (joined rest)) r.whole;
        sorted = rw (append_assoc (back before) c.items (joined rest)) r.sorted;
      }

  -- all keys of these nodes are below k
  abbrev pub Passed : ℕ → List (Node (Item h)) → Type 0
  Passed k ns = All (λ c. Under k (flat h c.items)) ns

  passed_back : {k : ℕ} {ns : List (Node (Item h))} → Passed k ns → Under k (flat h (back ns))
  passed_back none = none
  passed_back (one {x = n} {xs = ns} g gs) = rw (flat_append h (back ns) n.items) (all_append (passed_back gs) g)

  passed_more : {k m : ℕ} {ns : List (Node (Item h))} → k ≤ m → Passed k ns → Passed m ns
  passed_more le p = all_map (λ c u. all_map (λ e x. omega arith) u) p

  -- THE CHILD THAT A KEY GOES TO

  pub record Sought (k : ℕ) (before rest : List (Node (Item h))) (s : Spot (Node (Item h))) : Type 0 where
    pub same : back s.before ++ (s.child.items ++ joined s.after) ≡ back before ++ joined rest
    pub stocked_before : All (Stocked st) s.before
    pub stocked : Stocked st s.child
    pub stocked_after : All (Stocked st) s.after
    pub passed : Passed k s.before
    pub last : (s.after ≡ []) ⊎ (k ≤ greatest_key (suc h) s.child)
    pub long : length s.before + suc (length s.after) ≡ length before + length rest
    pub own_same : (x : ℕ) → own x s.before + (hit x s.child.slot + own x s.after) ≡ own x before + own x rest

  child_whole : (before : List (Node (Item h))) (c : Node (Item h)) (rest : List (Node (Item h))) → Ranged before (c ∷ rest) → Whole st (suc h) c
  child_whole before c rest r = (all_head r.stocked_rest, all_left c.items (joined rest) (all_right (back before) (c.items ++ joined rest) r.whole))

  child_sorted : (before : List (Node (Item h))) (c : Node (Item h)) (rest : List (Node (Item h))) → Ranged before (c ∷ rest) → Sorted (flat h c.items)
  child_sorted before c rest r =
      ordered_left (flat h c.items) (flat h (joined rest))
      (ordered_right (flat h (back before)) _ (rw (flat_three h (back before) c.items (joined rest)) at r.sorted))

  here : (k : ℕ) (before : List (Node (Item h))) (c : Node (Item h)) (cs : List (Node (Item h))) → Ranged before (c ∷ cs) → Passed k before
      → (cs ≡ []) ⊎ (k ≤ greatest_key (suc h) c) → Sought k before (c ∷ cs) (record { before = before; child = c; after = cs })
  here k before c cs r p last =
      record {
        same = refl;
        stocked_before = r.stocked_before;
        stocked = all_head r.stocked_rest;
        stocked_after = all_tail r.stocked_rest;
        passed = p;
        last = last;
        long = refl;
        own_same = λ x. refl;
      }

  further : (k : ℕ) (before : List (Node (Item h))) (c : Node (Item h)) (cs : List (Node (Item h))) {s : Spot (Node (Item h))} → Sought k (c ∷ before) cs s → Sought k before (c ∷ cs) s
  further k before c cs x =
      record {
        same = x.same ∙ append_assoc (back before) c.items (joined cs);
        stocked_before = x.stocked_before;
        stocked = x.stocked;
        stocked_after = x.stocked_after;
        passed = x.passed;
        last = x.last;
        long = x.long ∙ omega arith;
        own_same = λ y. x.own_same y ∙ omega arith;
      }

  pub sought : (k : ℕ) (before : List (Node (Item h))) (c : Node (Item h)) (cs : List (Node (Item h))) → Ranged before (c ∷ cs) → Passed k before
      → Sought k before (c ∷ cs) (seek (greatest_key (suc h)) k before c cs)
  sought k before c [] r p = here k before c [] r p (inl refl)
  sought k before c (n ∷ cs) r p =
      by_test (Sought k before (c ∷ n ∷ cs)) (ltb (greatest_key (suc h) c) k)
      (λ q.
      let under : Under k (flat h c.items) =
      ends_under (separator_ends st (suc h) c (child_whole before c (n ∷ cs) r)) (child_sorted before c (n ∷ cs) r) (ltb-true _ _ q) in
      further k before c (n ∷ cs) (sought k (c ∷ before) n cs (ranged_step before c (n ∷ cs) r) (one under p)))
      (λ q. here k before c (n ∷ cs) r p (inr (ltb-false _ _ q)))

  -- what stands behind the child is above the ceiling handed down to it
  ceiling_over : (k ceiling : ℕ) (s : Spot (Node (Item h))) → Over (greatest_key (suc h) s.child) (flat h (joined s.after))
      → (s.after ≡ []) ⊎ (k ≤ greatest_key (suc h) s.child) → (u : ℕ) → u ≤ ceiling_for (greatest_key (suc h) s.child) k ceiling → Over u (flat h (joined s.after))
  ceiling_over k ceiling s over (inl e) u le = rw e none
  ceiling_over k ceiling s over (inr g) u le =
      let le2 : u ≤ min (greatest_key (suc h) s.child) ceiling = rw (le-ltb (greatest_key (suc h) s.child) k g) at le in
      all_map (λ x p. omega arith) over

  -- A TURN of the walk: the child at a spot is changed, and its place settled

  pub record Turned (ceiling : ℕ) (ts left : List Task) (before rest : List (Node (Item h))) (run : Run) (result : ChangeResult) (p : Place (Node (Item h))) (d : Counts) : Type 0 where
    pub ranged : Ranged p.before p.rest
    pub did : Did ceiling ts left (flat h (back before ++ joined rest)) (flat h (items_of p)) run.counts d
    pub fewer : length left < length ts
    pub rising : Rising left
    pub passed : All (λ u. Passed u.key p.before) left
    pub grown : many p ≤ suc (length before + length rest)
    pub standing : Standing p.before p.rest
    pub idle : is_change result ≡ false → reverse_aux p.before p.rest ≡ reverse_aux before rest
    pub enough : Enough (suc h) ts run.unused → Enough (suc h) left p.unused
    pub slots : Enough (suc h) ts run.unused → (s : ℕ)
        → own s p.before + own s p.rest + times s (slots_in h (items_of p)) + times s p.unused
        ≡ own s before + own s rest + times s (slots_in h (back before ++ joined rest)) + times s run.unused
    pub spent : length run.unused + length left * suc h ≤ length p.unused + length ts * suc h
    pub shrinks : Removing ts → many p ≤ length before + length rest
    pub grows : Removing ts → (s : ℕ) → times s run.unused ≤ times s p.unused
    pub up : Ascending run.unused → Ascending p.unused

  module _ (lim : InLimits st) (ceiling : ℕ) (before rest : List (Node (Item h))) (t : Task) (ts : List Task) (run : Run) (s : Spot (Node (Item h))) (o : Outcome (Tree h))
      (x : Sought t.key before rest s) (r : Ranged before rest) (rising : Rising (t ∷ ts)) (low : t.key ≤ ceiling)
      (w : Owes st h (ceiling_for (greatest_key (suc h) s.child) t.key ceiling) s.child (t ∷ ts) run o) where
    abbrev spot : Place (Node (Item h))
    spot = settle st o.result s.before o.node s.after o.run.unused

    says : Says st o.result o.node
    says = w.says (λ _. x.stocked)

    law : Settles st (takes o.result) s.before o.node s.after o.run.unused spot
    law = settles st lim o.result o.node o.run.unused says x.stocked_before x.stocked_after

    parts_whole : All (Whole st h) (back s.before ++ (s.child.items ++ joined s.after))
    parts_whole = rw x.same r.whole

    parts_sorted : Sorted (flat h (back s.before) ++ (flat h s.child.items ++ flat h (joined s.after)))
    parts_sorted =
        let g : Sorted (flat h (back s.before ++ (s.child.items ++ joined s.after))) = rw x.same r.sorted in
        rw (flat_three h (back s.before) s.child.items (joined s.after)) at g

    -- every task is at or above the first
    later : All (λ u. t.key ≤ u.key) (t ∷ ts)
    later = first rising
      where
        first : Rising (t ∷ ts) → All (λ u. t.key ≤ u.key) (t ∷ ts)
        first (cons g gs) = one (le_refl _) g

    taken_later : All (λ u. t.key ≤ u.key) w.did.taken
    taken_later = all_left w.did.taken o.tasks (rw w.did.split at later)

    over : Over (greatest_key (suc h) s.child) (flat h (joined s.after))
    over =
        ends_over (separator_ends st (suc h) s.child (x.stocked, all_left s.child.items (joined s.after) (all_right (back s.before) _ parts_whole)))
        (ordered_right (flat h (back s.before)) _ parts_sorted)

    fit : Fit (flat h (back s.before)) (flat h (joined s.after)) w.did.taken
    fit =
        all_both (λ u g k. (all_map (λ e q. omega arith) (passed_back x.passed), ceiling_over t.key ceiling s over x.last u.key k))
        taken_later w.did.within

    old_is : flat h (back before ++ joined rest) ≡ flat h (back s.before) ++ (flat h s.child.items ++ flat h (joined s.after))
    old_is = ap (flat h) (sym x.same) ∙ flat_three h (back s.before) s.child.items (joined s.after)

    ceiling_low : (n : ℕ) → n ≤ ceiling_for (greatest_key (suc h) s.child) t.key ceiling → n ≤ ceiling
    ceiling_low n le = le_trans le (by_test (λ (m : ℕ). m ≤ ceiling) (ltb (greatest_key (suc h) s.child) t.key) (λ e. low) (λ e. omega arith))

    turn_did : Did ceiling (t ∷ ts) o.tasks (flat h (back before ++ joined rest)) (flat h (items_of spot)) run.counts o.run.counts
    turn_did =
        record {
          taken = w.did.taken;
          split = w.did.split;
          within = all_map (λ u g. ceiling_low u.key g) w.did.within;
          list =
              ap (flat h) law.same ∙ flat_three h (back s.before) o.node.items (joined s.after)
              ∙ ap (λ (z : List Entry). flat h (back s.before) ++ (z ++ flat h (joined s.after))) w.did.list
              ∙ sym (list_inside (flat h (back s.before)) (flat h s.child.items) (flat h (joined s.after)) fit)
              ∙ ap (plain_list w.did.taken) (sym old_is);
          counts =
              w.did.counts ∙ sym (counts_inside (flat h (back s.before)) (flat h s.child.items) (flat h (joined s.after)) run.counts fit)
              ∙ ap (λ (z : List Entry). plain_counts w.did.taken z run.counts) (sym old_is);
        }

    turn_ranged : Ranged spot.before spot.rest
    turn_ranged =
        record {
          stocked_before = rw law.stepped (all_drop law.steps x.stocked_before);
          stocked_rest = law.stocked;
          whole = rw law.same
              (all_append (all_left (back s.before) _ parts_whole) (all_append w.whole (all_right s.child.items _ (all_right (back s.before) _ parts_whole))));
          sorted = rw turn_did.list (list_sorted turn_did.taken r.sorted);
        }

    -- the next key does not exceed the ceiling handed down to its child
    pub ceiling_due : t.key ≤ ceiling_for (greatest_key (suc h) s.child) t.key ceiling
    ceiling_due = by_test (λ (n : ℕ). t.key ≤ n) (ltb (greatest_key (suc h) s.child) t.key) (λ e. le_refl t.key)
        (λ e. omega (arith, ltb-false (greatest_key (suc h) s.child) t.key e))

    turn_fewer : length o.tasks < suc (length ts)
    turn_fewer = w.moves (stocked_ready st h s.child x.stocked) ceiling_due

    -- SLOTS

    no_split : Removing (t ∷ ts) → o.result ≡ Split → ⊥
    no_split rem e =
        let b : OverFull st o.node = rw e at says in
        omega (arith, b.over, w.shrinks rem, x.stocked.few)

    takes_nothing : Removing (t ∷ ts) → takes o.result ≡ 0
    takes_nothing rem = takes_none o.result (no_split rem)

    turn_spent : length run.unused + length o.tasks * suc h ≤ length spot.unused + suc (length ts) * suc h
    turn_spent =
        omega (arith, turn_fewer, w.spent, mul-suc (suc (length ts)) h, mul-suc (length o.tasks) h, law.taken, takes_one o.result)

    -- a slot is left for a split of the child
    pub one_left : Enough (suc h) (t ∷ ts) run.unused → takes o.result ≤ length o.run.unused
    one_left (inl room) = omega (arith, takes_one o.result, turn_fewer, w.spent, room, mul-suc (suc (length ts)) h)
    one_left (inr rem) = omega (arith, takes_nothing rem)

    turn_enough : Enough (suc h) (t ∷ ts) run.unused → Enough (suc h) o.tasks spot.unused
    turn_enough (inl room) = inl (omega (arith, turn_spent, room))
    turn_enough (inr rem) = inr (did_left w.did rem)

    turn_slots : Enough (suc h) (t ∷ ts) run.unused → (y : ℕ)
        → own y spot.before + own y spot.rest + times y (slots_in h (items_of spot)) + times y spot.unused
        ≡ own y before + own y rest + times y (slots_in h (back before ++ joined rest)) + times y run.unused
    turn_slots enough y =
        omega (
          arith,
          law.slots (one_left enough) y,
          x.own_same y,
          w.slots (child_enough h (t ∷ ts) run.unused enough) y,
          ap (hit y) w.slot,
          slots_three y h (back s.before) o.node.items (joined s.after),
          slots_three y h (back s.before) s.child.items (joined s.after),
          ap (λ (z : List (Item h)). times y (slots_in h z)) law.same,
          ap (λ (z : List (Item h)). times y (slots_in h z)) x.same,
        )

    turned : reverse_aux s.before (s.child ∷ s.after) ≡ reverse_aux before rest
        → Turned ceiling (t ∷ ts) o.tasks before rest run o.result spot o.run.counts
    turned moved =
        record {
          ranged = turn_ranged;
          did = turn_did;
          fewer = turn_fewer;
          rising = did_rising w.did rising;
          passed = all_map (λ u g. rw law.stepped (all_drop law.steps (passed_more g x.passed))) (did_left w.did later);
          grown = omega (arith, law.few, takes_one o.result, x.long);
          standing = law.standing;
          idle = λ q.
              ap (λ (z : Place (Node (Item h))). reverse_aux z.before z.rest) (settle_idle st o.result s.before o.node s.after o.run.unused q)
              ∙ ap (λ (n : Node (Item h)). reverse_aux s.before (n ∷ s.after)) (w.kept q) ∙ moved;
          enough = turn_enough;
          slots = turn_slots;
          spent = turn_spent;
          shrinks = λ rem. omega (arith, law.few, takes_nothing rem, x.long);
          grows = λ rem y. le_trans (w.grows rem y) (law.grows (takes_nothing rem) y);
          up = λ a. law.up (w.up a);
        }

  -- THE WALK

  pub record Strolled (turns ceiling : ℕ) (ts : List Task) (before rest : List (Node (Item h))) (ch : Bool) (run : Run) (w : Walked (Node (Item h))) : Type 0 where
    pub did : Did ceiling ts w.tasks (flat h (back before ++ joined rest)) (flat h (joined w.items)) run.counts w.run.counts
    pub stocked : All (Stocked st) w.items
    pub whole : All (Whole st h) (joined w.items)
    pub grown : length w.items + length w.tasks ≤ length before + length rest + length ts
    pub moves : 0 < turns → 0 < length rest → Due ceiling ts → length w.tasks < length ts
    pub over : length ts ≤ turns → Standing before rest → All (λ t. t.key ≤ ceiling) ts → (w.tasks ≡ []) ⊎ (length w.items ≡ 0)
    pub idle : w.changed ≡ false → (ch ≡ false) × (w.items ≡ reverse_aux before rest)
    pub slots : Enough (suc h) ts run.unused → (s : ℕ)
        → own s w.items + times s (slots_in h (joined w.items)) + times s w.run.unused
        ≡ own s before + own s rest + times s (slots_in h (back before ++ joined rest)) + times s run.unused
    pub spent : length run.unused + length w.tasks * suc h ≤ length w.run.unused + length ts * suc h
    pub shrinks : Removing ts → length w.items ≤ length before + length rest
    pub grows : Removing ts → (s : ℕ) → times s run.unused ≤ times s w.run.unused
    pub up : Ascending run.unused → Ascending w.run.unused

  -- where it ends
  stops : (turns ceiling : ℕ) (ts : List Task) (before rest : List (Node (Item h))) (ch : Bool) (run : Run) → Ranged before rest
      → (0 < turns → 0 < length rest → Due ceiling ts → ⊥)
      → (length ts ≤ turns → Standing before rest → All (λ t. t.key ≤ ceiling) ts → (ts ≡ []) ⊎ (length (reverse_aux before rest) ≡ 0))
      → Strolled turns ceiling ts before rest ch run (record { items = reverse_aux before rest; changed = ch; tasks = ts; run = run })
  stops turns ceiling ts before rest ch run r no_move ended =
      record {
        did = rw (back_joined before rest) (did_none ceiling ts (flat h (back before ++ joined rest)) run.counts);
        stocked = all_turned before rest r.stocked_before r.stocked_rest;
        whole = rw (back_joined before rest) r.whole;
        grown = omega (arith, length-reverse_aux before rest);
        moves = λ a b c. absurd (no_move a b c);
        over = ended;
        idle = λ q. (q, refl);
        slots = λ e s. omega (arith, own_turned s before rest, ap (λ (z : List (Item h)). times s (slots_in h z)) (back_joined before rest));
        spent = omega arith;
        shrinks = λ rem. omega (arith, length-reverse_aux before rest);
        grows = λ rem s. omega arith;
        up = λ a. a;
      }

  -- where it goes on after a turn
  goes_on : (turns ceiling : ℕ) (ts left : List Task) (before rest : List (Node (Item h))) (ch : Bool) (run : Run) (result : ChangeResult) (p : Place (Node (Item h))) (d : Counts)
      (w : Walked (Node (Item h))) → Turned ceiling ts left before rest run result p d
      → Strolled turns ceiling left p.before p.rest (ch || is_change result) (record { unused = p.unused; counts = d }) w
      → Strolled (suc turns) ceiling ts before rest ch run w
  goes_on turns ceiling ts left before rest ch run result p d w x y =
      record {
        did = did_then ceiling x.did y.did;
        stocked = y.stocked;
        whole = y.whole;
        grown = omega (arith, x.grown, x.fewer, y.grown);
        moves = λ a b c. lt_of_le_of_lt (did_fewer y.did) x.fewer;
        over = λ enough standing low. y.over (omega (arith, x.fewer, enough)) x.standing (did_left x.did low);
        idle = λ q.
            let r = y.idle q in
            (or_left ch (is_change result) r.0, r.1 ∙ x.idle (or_right ch (is_change result) r.0));
        slots = λ e s. y.slots (x.enough e) s ∙ x.slots e s;
        spent = omega (arith, x.spent, y.spent);
        shrinks = λ rem. le_trans (y.shrinks (did_left x.did rem)) (x.shrinks rem);
        grows = λ rem s. le_trans (x.grows rem s) (y.grows (did_left x.did rem) s);
        up = λ a. y.up (x.up a);
      }

  bare : (before : List (Node (Item h))) → Standing before [] → length (reverse_aux before []) ≡ 0
  bare before (inl g) = absurd (omega arith)
  bare before (inr e) = omega (arith, length-reverse_aux before [], e)

  module _ (lim : InLimits st) (f : ℕ → Tree h → List Task → Run → Outcome (Tree h)) (lawful : Lawful st h f) where
    -- what the walk makes of the child that the next key goes to
    unfoldable pub outcome : (ceiling : ℕ) (before : List (Node (Item h))) (c : Node (Item h)) (cs : List (Node (Item h))) (t : Task) (ts : List Task) (run : Run) → Outcome (Tree h)
    outcome ceiling before c cs t ts run =
        f (ceiling_for (greatest_key (suc h) (seek (greatest_key (suc h)) t.key before c cs).child) t.key ceiling) (seek (greatest_key (suc h)) t.key before c cs).child (t ∷ ts) run

    module _ (ceiling : ℕ) (before : List (Node (Item h))) (c : Node (Item h)) (cs : List (Node (Item h))) (t : Task) (ts : List Task) (run : Run)
        (r : Ranged before (c ∷ cs)) (rising : Rising (t ∷ ts)) (p : Passed t.key before) (short : suc (length ts) ≤ st.order) where
      abbrev chosen : Spot (Node (Item h))
      chosen = seek (greatest_key (suc h)) t.key before c cs

      pub chosen_law : Sought t.key before (c ∷ cs) chosen
      chosen_law = sought t.key before c cs r p

      pub chosen_given : Given st h chosen.child (t ∷ ts)
      chosen_given =
          let s : Spot (Node (Item h)) = chosen in
          let x : Sought t.key before (c ∷ cs) s = chosen_law in
          let w : All (Whole st h) (back s.before ++ (s.child.items ++ joined s.after)) = rw x.same r.whole in
          let g : Sorted (flat h (back s.before ++ (s.child.items ++ joined s.after))) = rw x.same r.sorted in
          record {
            whole = all_left s.child.items (joined s.after) (all_right (back s.before) _ w);
            few = x.stocked.few;
            sorted = ordered_left (flat h s.child.items) (flat h (joined s.after))
                (ordered_right (flat h (back s.before)) _ (rw (flat_three h (back s.before) s.child.items (joined s.after)) at g));
            rising = rising;
            short = short;
          }

      pub owing : Owes st h (ceiling_for (greatest_key (suc h) chosen.child) t.key ceiling) chosen.child (t ∷ ts) run (outcome ceiling before c cs t ts run)
      unfolding outcome
      owing = lawful (ceiling_for (greatest_key (suc h) chosen.child) t.key ceiling) chosen.child (t ∷ ts) run chosen_given

      pub turning : t.key ≤ ceiling
          → Turned ceiling (t ∷ ts) (outcome ceiling before c cs t ts run).tasks before (c ∷ cs) run (outcome ceiling before c cs t ts run).result
          (settle st (outcome ceiling before c cs t ts run).result chosen.before (outcome ceiling before c cs t ts run).node chosen.after
          (outcome ceiling before c cs t ts run).run.unused)
          (outcome ceiling before c cs t ts run).run.counts
      turning low =
          turned lim ceiling before (c ∷ cs) t ts run chosen (outcome ceiling before c cs t ts run) chosen_law r rising low owing
          (seek_turned (greatest_key (suc h)) t.key before c cs)

    pub strolled : (turns ceiling : ℕ) (before rest : List (Node (Item h))) (ch : Bool) (ts : List Task) (run : Run)
        → Ranged before rest → Rising ts → All (λ u. Passed u.key before) ts → length ts ≤ st.order
        → Strolled turns ceiling ts before rest ch run (walk st (greatest_key (suc h)) f turns ceiling before rest ch ts run)
    unfolding outcome
    strolled zero ceiling before rest ch ts run r rising p short =
        stops zero ceiling ts before rest ch run r (λ a b c. omega arith) (λ enough s l. inl (no_tasks ts enough))
      where
        no_tasks : (us : List Task) → length us ≤ 0 → us ≡ []
        no_tasks [] le = refl
        no_tasks (u ∷ us) le = absurd (omega arith)
    strolled (suc turns) ceiling before [] ch ts run r rising p short =
        stops (suc turns) ceiling ts before [] ch run r (λ a b c. omega arith) (λ enough s l. inr (bare before s))
    strolled (suc turns) ceiling before (c ∷ cs) ch [] run r rising p short =
        stops (suc turns) ceiling [] before (c ∷ cs) ch run r (λ a b d. d) (λ enough s l. inl refl)
    strolled (suc turns) ceiling before (c ∷ cs) ch (t ∷ ts) run r rising (one p ps) short =
        by_test (Strolled (suc turns) ceiling (t ∷ ts) before (c ∷ cs) ch run) (leb t.key ceiling)
        (λ q.
        let x = turning ceiling before c cs t ts run r rising p short (leb-true _ _ q) in
        goes_on turns ceiling (t ∷ ts) _ before (c ∷ cs) ch run _ _ _ _ x
        (strolled turns ceiling _ _ _ _ _ x.ranged x.rising x.passed (omega (arith, x.fewer))))
        (λ q.
        let high : ceiling < t.key = leb-false _ _ q in
        stops (suc turns) ceiling (t ∷ ts) before (c ∷ cs) ch run r (λ a b low. omega arith) (λ enough s l. absurd (omega (arith, all_head l))))

-- A NODE OF ANY LEVEL

pub whole_joined : (st : Settings) (h : ℕ) {ns : List (Node (Item h))} → All (Whole st (suc h)) ns → All (Whole st h) (joined ns)
whole_joined st h none = none
whole_joined st h (one g gs) = all_append g.1 (whole_joined st h gs)

pub whole_back : (st : Settings) (h : ℕ) {ns : List (Node (Item h))} → All (Whole st (suc h)) ns → All (Whole st h) (back ns)
whole_back st h none = none
whole_back st h (one g gs) = all_append (whole_back st h gs) g.1

pub joined_whole : (st : Settings) (h : ℕ) (ns : List (Node (Item h))) → All (Stocked st) ns → All (Whole st h) (joined ns) → All (Whole st (suc h)) ns
joined_whole st h [] none w = none
joined_whole st h (n ∷ ns) (one g gs) w = one (g, all_left n.items (joined ns) w) (joined_whole st h ns gs (all_right n.items (joined ns) w))

pub first_ranged : (st : Settings) (h : ℕ) (ns : List (Node (Item h))) → All (Whole st (suc h)) ns → Sorted (flat (suc h) ns) → Ranged st h [] ns
first_ranged st h ns w s =
    record { stocked_before = none; stocked_rest = all_map (λ n g. g.0) w; whole = whole_joined st h w; sorted = rw (flat_joined h ns) at s }

pub none_passed : (st : Settings) (h : ℕ) (ts : List Task) → All (λ u. Passed st h u.key []) ts
none_passed st h [] = none
none_passed st h (t ∷ ts) = one none (none_passed st h ts)

due_some : (ceiling : ℕ) (ts : List Task) → Due ceiling ts → 0 < length ts
due_some ceiling [] due = absurd due
due_some ceiling (t ∷ ts) due = omega arith

pub interior_strolled : (st : Settings) (lim : InLimits st) (h : ℕ) (f : ℕ → Tree h → List Task → Run → Outcome (Tree h)) → Lawful st h f
    → (ceiling : ℕ) (n : Tree (suc h)) (ts : List Task) (run : Run) → Given st (suc h) n ts
    → Strolled st h (length ts) ceiling ts [] n.items false run (walk st (greatest_key (suc h)) f (length ts) ceiling [] n.items false ts run)
interior_strolled st lim h f law ceiling n ts run g =
    strolled st h lim f law (length ts) ceiling [] n.items false ts run (first_ranged st h n.items g.whole g.sorted) g.rising (none_passed st h ts) g.short

interior_law : (st : Settings) → InLimits st → (h : ℕ) (f : ℕ → Tree h → List Task → Run → Outcome (Tree h)) → Lawful st h f
    → Lawful st (suc h) (change_interior st (greatest_key (suc h)) f)
interior_law st lim h f law ceiling n ts run g =
    let w : Walked (Node (Item h)) = walk st (greatest_key (suc h)) f (length ts) ceiling [] n.items false ts run in
    let y : Strolled st h (length ts) ceiling ts [] n.items false run w = interior_strolled st lim h f law ceiling n ts run g in
    record {
      did = rw (flat_joined h n.items, flat_joined h w.items) y.did;
      whole = joined_whole st h w.items y.stocked y.whole;
      says = λ same. result_says st w.changed (refill n w.items) (omega (arith, y.grown, g.few, g.short))
          (λ q.
          let long = ap length (y.idle q).1 in
          let held : Stocked st n = same (rw q refl) in
          record { some = omega (arith, long); few = omega (arith, long) });
      kept = λ q. ap (refill n) (y.idle (result_idle st w.changed (length w.items) q)).1;
      moves = λ ready due. y.moves (due_some ceiling ts due) ready.some due;
      slot = refl;
      slots = λ e x. omega (arith, y.slots e x, slots_joined x h n.items, slots_joined x h w.items);
      spent = y.spent;
      shrinks = λ rem. omega (arith, y.shrinks rem);
      grows = y.grows;
      up = y.up;
    }

pub change_law : (st : Settings) → InLimits st → (h : ℕ) → Lawful st h (change st h)
change_law st lim zero = leaf_law st lim
change_law st lim (suc h) = interior_law st lim h (change st h) (change_law st lim h)
