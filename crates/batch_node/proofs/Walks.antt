-- The loop of interior change, over nodes: what a turn asks of a child, what it leaves, and where the loop ends. Assumes nothing.
use mathlib.Core.Path.{◌≡◌, refl, sym, ap, ◌∙◌, subst}
use mathlib.Core.Bool.{Bool, false, ◌||◌}
use mathlib.Core.List.{List, [], ◌∷◌, ◌++◌, reverse_aux}
use Prim.Native.Nat.{ℕ, zero, suc, ◌+◌, ◌*◌, ◌≤◌, ◌<◌}
use native.Mathlib.Omega.{arith}
use native.Mathlib.Nat.{not-suc-le-zero}
use lib.ListN.{length, length-append, length-reverse_aux}
use borrow.Author.Tests.{le-leb, lt-leb}
use Rattle.slots.specs.Nodes as S
use Rattle.tree_spare.specs.declared.Spare.{Spare}
use Rattle.tree_spare.specs.Spared.{Spared}
use Rattle.model.specs.declared.Settings.{Settings}
use Rattle.model.specs.declared.Counts.{Counts}
use Rattle.model.specs.Lists.{times, All}
use Rattle.model.specs.Tree.{Node, Item, Tree, slots, greatest_key}
use Rattle.model.specs.Plain.{Task}
use Rattle.model.specs.Share.{Place}
use Rattle.model.specs.declared.ChangeResult.{ChangeResult}
use Rattle.model.specs.Change.{is_change, result_of, Run, Walked, Outcome, Spot, seek, ceiling_for, settle, walk, change}
use Rattle.model.specs.Sound.{InLimits, Stocked, Fits}
use Rattle.model.specs.Promises.{flat, joined, back, Says, takes, Rising, Grants, Given, Enough}
use Rattle.model.proofs.Lists.{all_left, all_right, all_head}
use Rattle.model.proofs.Plain.{list_long, list_all}
use Rattle.model.proofs.Trees.{flat_three, flat_joined}
use Rattle.model.proofs.Settles.{items_of, settles}
use Rattle.model.proofs.Changes.{seek_turned, child_enough, Owes, Ranged, Passed, Sought, Turned, did_left, stocked_ready, ceiling_due, one_left, outcome, chosen_law, chosen_given, owing, turning, first_ranged, none_passed, change_law}
use Rattle.tree.specs.Bridge.{Holds, unused_of, Apart}
use Rattle.batch_share.specs.Children.{inner}
use Rattle.batch_share.specs.Promises.{Loose, Settled}
use Rattle.batch_node.specs.Promises.{run_of, Asked, Answers}
use Rattle.batch_node.proofs.Strolls.{Among, Strolling, apart_kept, child_holds, child_apart, loosened, strolled_on}

-- THE LOOP INVARIANT of interior change: the model's walk from here is the model's walk from the start, and the nodes hold the place
pub record Walking (st : Settings) (h s ceiling : ℕ) (ns₀ : List S.Node) (t₀ : Tree (suc h)) (ts₀ : List Task) (c₀ : Counts) (ns : List S.Node) (before rest : List (Tree h)) (turns : ℕ) (changed : Bool) (ts : List Task) (c : Counts) : Type 0 where
  pub stroll : Strolling h s ns₀ ns t₀ before rest
  pub holds₀ : Holds ns₀ (suc h) t₀
  pub apart₀ : Apart (suc h) t₀
  pub ranged : Ranged st h before rest
  pub rising : Rising ts
  pub passed : All (λ u. Passed st h u.key before) ts
  pub short : length ts ≤ st.order
  pub enough : Enough (suc h) ts (unused_of ns)
  -- a turn adds a child at most, and takes a task at least
  pub grown : length before + length rest + length ts ≤ 2 * st.order
  pub small : length (flat h (back before ++ joined rest)) + length ts < 1048576
  pub fit : All Fits (flat h (back before ++ joined rest))
  pub sets : All (Grants Fits) ts
  pub covered : length ts ≤ turns
  pub walked : walk st (greatest_key (suc h)) (change st h) turns ceiling before rest changed ts (run_of ns c)
      ≡ walk st (greatest_key (suc h)) (change st h) (length ts₀) ceiling [] t₀.items false ts₀ (run_of ns₀ c₀)

change_slot : (st : Settings) (h ceiling : ℕ) (t : Tree h) (ts : List Task) (run : Run) → (change st h ceiling t ts run).node.slot ≡ t.slot
change_slot st zero ceiling t ts run = refl
change_slot st (suc h) ceiling t ts run = refl

-- A TURN

module _ {st : Settings} {h s ceiling : ℕ} {ns₀ : List S.Node} {t₀ : Tree (suc h)} {ts₀ : List Task} {c₀ : Counts} {ns : List S.Node}
    {before : List (Tree h)} {k : Tree h} {ks : List (Tree h)} {turns : ℕ} {changed : Bool} {t : Task} {ts : List Task} {c : Counts}
    (lim : InLimits st) (w : Walking st h s ceiling ns₀ t₀ ts₀ c₀ ns before (k ∷ ks) turns changed (t ∷ ts) c) (le : t.key ≤ ceiling) where
  -- the spot, the child's outcome, and the place that is settled
  abbrev spot : Spot (Tree h)
  spot = seek (greatest_key (suc h)) t.key before k ks

  abbrev reach : ℕ
  reach = ceiling_for (greatest_key (suc h) spot.child) t.key ceiling

  abbrev out : Outcome (Tree h)
  out = change st h reach spot.child (t ∷ ts) (run_of ns c)

  abbrev place : Place (Tree h)
  place = settle st out.result spot.before out.node spot.after out.run.unused

  -- THE MODEL'S TURN LAWS, here

  found : Sought st h t.key before (k ∷ ks) spot
  found = chosen_law st h lim (change st h) (change_law st lim h) ceiling before k ks t ts (run_of ns c) w.ranged w.rising (all_head w.passed) w.short

  given : Given st h spot.child (t ∷ ts)
  given = chosen_given st h lim (change st h) (change_law st lim h) ceiling before k ks t ts (run_of ns c) w.ranged w.rising (all_head w.passed) w.short

  owes : Owes st h reach spot.child (t ∷ ts) (run_of ns c) out
  unfolding outcome
  owes = owing st h lim (change st h) (change_law st lim h) ceiling before k ks t ts (run_of ns c) w.ranged w.rising (all_head w.passed) w.short

  turned : Turned st h ceiling (t ∷ ts) out.tasks before (k ∷ ks) (run_of ns c) out.result place out.run.counts
  unfolding outcome
  turned = turning st h lim (change st h) (change_law st lim h) ceiling before k ks t ts (run_of ns c) w.ranged w.rising (all_head w.passed) w.short le

  pub fewer : length out.tasks < suc (length ts)
  fewer = turned.fewer

  -- WHAT THE CHILD IS ASKED

  same : reverse_aux spot.before (spot.child ∷ spot.after) ≡ reverse_aux before (k ∷ ks)
  same = seek_turned (greatest_key (suc h)) t.key before k ks

  among : Among h s ns spot.before spot.child spot.after
  among =
      record {
        holds = subst (λ (ys : List (Tree h)). Holds ns (suc h) (inner h s ys)) (sym same) w.stroll.holds;
        apart = apart_kept ns₀ (suc h) t₀ (inner h s (reverse_aux spot.before (spot.child ∷ spot.after))) (unused_of ns) w.holds₀ w.apart₀
            (λ x. ap (λ (ys : List (Tree h)). times x (slots (suc (suc h)) (inner h s ys)) + times x (unused_of ns)) same ∙ w.stroll.same x);
      }

  -- the entries of the child are among those of the place
  three : flat h (back spot.before) ++ (flat h spot.child.items ++ flat h (joined spot.after)) ≡ flat h (back before ++ joined (k ∷ ks))
  three = sym (flat_three h (back spot.before) spot.child.items (joined spot.after)) ∙ ap (flat h) found.same

  child_small : length (flat h spot.child.items) + suc (length ts) < 1048576
  child_small =
      omega (
        arith,
        w.small,
        ap length three,
        length-append (flat h (back spot.before)) (flat h spot.child.items ++ flat h (joined spot.after)),
        length-append (flat h spot.child.items) (flat h (joined spot.after)),
      )

  child_fit : All Fits (flat h spot.child.items)
  child_fit =
      all_left (flat h spot.child.items) (flat h (joined spot.after))
      (all_right (flat h (back spot.before)) _ (subst (All Fits) (sym three) w.fit))

  pub asked : {spare : Spare} → Spared ns spare → Asked st h reach ns spot.child (t ∷ ts) spare
  asked known =
      record {
        holds = child_holds among;
        apart = child_apart among;
        given = given;
        enough = child_enough h (t ∷ ts) (unused_of ns) w.enough;
        ready = stocked_ready st h spot.child found.stocked;
        due = ceiling_due st h lim ceiling before (k ∷ ks) t ts (run_of ns c) spot out found w.ranged w.rising le owes;
        small = child_small;
        fit = child_fit;
        sets = w.sets;
        empty = w.stroll.empty;
        spared = known;
      }

  -- WHAT IT LEAVES TO BE SETTLED

  pub says : Says st out.result out.node
  says = owes.says (λ _. found.stocked)

  -- a child that did not change is the one that was
  pub kept : is_change out.result ≡ false → out.node ≡ spot.child
  kept = owes.kept

  pub stocked_sides : (All (Stocked st) spot.before) × (All (Stocked st) spot.after)
  stocked_sides = (found.stocked_before, found.stocked_after)

  pub room : Enough (suc h) (t ∷ ts) (unused_of ns) → takes out.result ≤ length out.run.unused
  room = one_left st h lim ceiling before (k ∷ ks) t ts (run_of ns c) spot out found w.ranged w.rising le owes

  settled_same : items_of place ≡ back spot.before ++ (out.node.items ++ joined spot.after)
  settled_same = (settles st lim out.result out.node out.run.unused says found.stocked_before found.stocked_after).same

  place_small : length (flat h (items_of place)) + length out.tasks < 1048576
  place_small =
      omega (
        arith,
        w.small,
        ap length turned.did.list,
        list_long turned.did.taken (flat h (back before ++ joined (k ∷ ks))),
        ap length turned.did.split,
        length-append turned.did.taken out.tasks,
      )

  place_fit : All Fits (flat h (items_of place))
  place_fit =
      subst (All Fits) (sym turned.did.list)
      (list_all Fits (all_left turned.did.taken out.tasks (subst (All (Grants Fits)) turned.did.split w.sets)) w.fit)

  pub loose_small : length (flat h (back spot.before ++ (out.node.items ++ joined spot.after))) < 1048576
  loose_small = omega (arith, place_small, ap (λ (xs : List (Item h)). length (flat h xs)) settled_same)

  pub loose_fit : All Fits (flat h (back spot.before ++ (out.node.items ++ joined spot.after)))
  loose_fit = subst (λ (xs : List (Item h)). All Fits (flat h xs)) settled_same place_fit

  module _ {ms : List S.Node} {us : List Task} {r : ChangeResult} {d : Counts} (done : Answers h ns ms spot.child out us r d) where
    slot_kept : out.node.slot ≡ spot.child.slot
    slot_kept = change_slot st h reach spot.child (t ∷ ts) (run_of ns c)

    slots_kept : (x : ℕ) → times x (slots (suc h) out.node) + times x out.run.unused ≡ times x (slots (suc h) spot.child) + times x (unused_of ns)
    slots_kept = owes.slots (child_enough h (t ∷ ts) (unused_of ns) w.enough)

    pub loose : Loose h s ms spot.before spot.child out.node spot.after
    loose = loosened among done slot_kept slots_kept

    -- THE TURN: settled, the walk goes on from the place
    module _ {ls : List S.Node} (settled : Settled h s ms ls (reverse_aux spot.before (out.node ∷ spot.after)) place) where
      on_walk : (n : ℕ) → turns ≡ suc n → walk st (greatest_key (suc h)) (change st h) turns ceiling before (k ∷ ks) changed (t ∷ ts) (run_of ns c)
          ≡ walk st (greatest_key (suc h)) (change st h) n ceiling place.before place.rest (changed || is_change out.result) out.tasks (run_of ls out.run.counts)
      on_walk n e = rw (e, le-leb t.key ceiling le, settled.unused) refl

      again : (n : ℕ) → turns ≡ suc n
          → Walking st h s ceiling ns₀ t₀ ts₀ c₀ ls place.before place.rest n (changed || is_change out.result) out.tasks out.run.counts
      again n e =
          record {
            stroll = strolled_on w.stroll among same done slot_kept slots_kept settled (turned.slots w.enough);
            holds₀ = w.holds₀;
            apart₀ = w.apart₀;
            ranged = turned.ranged;
            rising = turned.rising;
            passed = turned.passed;
            short = omega (arith, fewer, w.short);
            enough = subst (Enough (suc h) out.tasks) (sym settled.unused) (turned.enough w.enough);
            grown = omega (arith, turned.grown, fewer, w.grown);
            small = place_small;
            fit = place_fit;
            sets = did_left turned.did w.sets;
            covered = omega (arith, fewer, w.covered, e);
            walked = sym (on_walk n e) ∙ w.walked;
          }

      pub turn : ((n : ℕ)
          × Walking st h s ceiling ns₀ t₀ ts₀ c₀ ls place.before place.rest n (changed || is_change out.result) out.tasks out.run.counts)
      turn = by turns refl w.covered
        where
          by : (m : ℕ) → turns ≡ m → suc (length ts) ≤ m
              → ((n : ℕ)
              × Walking st h s ceiling ns₀ t₀ ts₀ c₀ ls place.before place.rest n (changed || is_change out.result) out.tasks out.run.counts)
          by zero e g = absurd (not-suc-le-zero g)
          by (suc n) e g = (n, again n e)

-- THE START
pub start : {st : Settings} {h ceiling : ℕ} {ns : List S.Node} {t : Tree (suc h)} {ts : List Task} {spare : Spare} (c : Counts) → Asked st (suc h) ceiling ns t ts spare
    → Walking st h t.slot ceiling ns t ts c ns [] t.items (length ts) false ts c
start {st} {h} {ceiling} {ns} {t} {ts} c a =
    record {
      stroll = record { holds = a.holds; same = λ x. refl; frame = λ x u e. refl; empty = a.empty };
      holds₀ = a.holds;
      apart₀ = a.apart;
      ranged = first_ranged st h t.items a.given.whole a.given.sorted;
      rising = a.given.rising;
      passed = none_passed st h ts;
      short = a.given.short;
      enough = a.enough;
      grown = omega (arith, a.given.few, a.given.short);
      small = omega (arith, a.small, ap length (flat_joined h t.items));
      fit = subst (All Fits) (flat_joined h t.items) a.fit;
      sets = a.sets;
      covered = omega arith;
      walked = refl;
    }

-- THE END: no child, no task, or the next key exceeds the ceiling
abbrev pub Stop : {Y : Type 0} → ℕ → List Y → List Task → Type 0
Stop ceiling [] ts = Unit {0}
Stop ceiling (c ∷ cs) [] = Unit {0}
Stop ceiling (c ∷ cs) (t ∷ ts) = ceiling < t.key

stops : (st : Settings) {X : Type 0} (separator : Node X → ℕ) (f : ℕ → Node X → List Task → Run → Outcome (Node X)) (turns ceiling : ℕ) (before rest : List (Node X)) (ch : Bool) (ts : List Task) (run : Run)
    → Stop ceiling rest ts → walk st separator f turns ceiling before rest ch ts run ≡ record { items = reverse_aux before rest; changed = ch; tasks = ts; run = run }
stops st separator f zero ceiling before rest ch ts run e = refl
stops st separator f (suc n) ceiling before [] ch ts run e = refl
stops st separator f (suc n) ceiling before (c ∷ cs) ch [] run e = refl
stops st separator f (suc n) ceiling before (c ∷ cs) ch (t ∷ ts) run e = rw (lt-leb t.key ceiling e) refl

module _ {st : Settings} {h s ceiling : ℕ} {ns₀ : List S.Node} {t₀ : Tree (suc h)} {ts₀ : List Task} {c₀ : Counts} {ns : List S.Node}
    {before rest : List (Tree h)} {turns : ℕ} {changed : Bool} {ts : List Task} {c : Counts}
    (w : Walking st h s ceiling ns₀ t₀ ts₀ c₀ ns before rest turns changed ts c) (e : Stop ceiling rest ts) (es : t₀.slot ≡ s) where
  all : record { items = reverse_aux before rest; changed = changed; tasks = ts; run = run_of ns c }
      ≡ walk st (greatest_key (suc h)) (change st h) (length ts₀) ceiling [] t₀.items false ts₀ (run_of ns₀ c₀)
  all = sym (stops st (greatest_key (suc h)) (change st h) turns ceiling before rest changed ts (run_of ns c) e) ∙ w.walked

  pub finish : Answers (suc h) ns₀ ns t₀ (change st (suc h) ceiling t₀ ts₀ (run_of ns₀ c₀)) ts (result_of st changed (length before + length rest)) c
  finish =
      record {
        holds = subst (λ (ys : List (Tree h)). Holds ns (suc h) (record { slot = t₀.slot; items = ys })) (ap (λ (x : Walked (Tree h)). x.items) all)
            (subst (λ (x : ℕ). Holds ns (suc h) (record { slot = x; items = reverse_aux before rest })) (sym es) w.stroll.holds);
        unused = ap (λ (x : Walked (Tree h)). x.run.unused) all;
        frame = w.stroll.frame;
        empty = w.stroll.empty;
        left = ap (λ (x : Walked (Tree h)). x.tasks) all;
        result =
            ap (λ (n : ℕ). result_of st changed n) (sym (length-reverse_aux before rest))
            ∙ ap (λ (x : Walked (Tree h)). result_of st x.changed (length x.items)) all;
        counts = ap (λ (x : Walked (Tree h)). x.run.counts) all;
      }
