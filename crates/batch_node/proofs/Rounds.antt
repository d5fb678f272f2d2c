-- The rounds of interior change: from the values of the code to the walk over nodes, and back. Assumes nothing.
use mathlib.Core.Path.{◌≡◌, refl, sym, ap, ◌∙◌, subst}
use mathlib.Core.Bool.{Bool, true, false, ◌||◌, true≢false}
use mathlib.Core.List.{List, [], ◌∷◌, ◌++◌, map, reverse_aux}
use Prim.Native.Nat.{ℕ, suc, ◌+◌, ◌≤◌, ◌<◌}
use native.Mathlib.Omega.{arith}
use native.Mathlib.Decide.{dec_lt}
use lib.Dec.{ltb}
use lib.ListN.{length, get_or, drop, length-map, length-drop, length-append, length-reverse_aux}
use borrow.Author.Tests.{lt-ltb, ltb-true, leb-true}
use Rattle.slots_raw.specs.declared.Row.{Row}
use Rattle.slots_raw.specs.Slots.{blank, head_in}
use Rattle.slots.specs.Nodes.{Held, nodes, rows_at}
use Rattle.slots.specs.Promises.{ToTouch}
use Rattle.slots.specs.Nodes as S
use Rattle.model.specs.declared.Settings.{Settings}
use Rattle.model.specs.declared.Counts.{Counts}
use Rattle.model.specs.Tree.{Tree, greatest_key}
use Rattle.model.specs.Plain.{Task}
use Rattle.model.specs.Refuse.{Call, tasks_of}
use Rattle.model.specs.Share.{Place}
use Rattle.model.specs.declared.ChangeResult.{ChangeResult}
use Rattle.model.specs.Change.{Outcome, Spot, seek, ceiling_for, result_of, change, settle, is_change}
use Rattle.model.specs.Sound.{InLimits}
use Rattle.model.specs.Promises.{flat, joined, back, Says, takes}
use Rattle.model.proofs.Lists.{both_left, both_right, all_head}
use Rattle.model.proofs.Trees.{flat_three, flat_joined, back_joined}
use Rattle.batch_effect.specs.Under.{is_due}
use Rattle.batch_effect.proofs.Dues.{due_within, due_low}
use Rattle.batch_leaf.specs.declared.Run.{Run}
use Rattle.batch_leaf.specs.declared.Subtree.{Subtree}
use Rattle.batch_leaf.specs.Promises.{Underway}
use Rattle.batch_leaf.specs.Keys.{task_at}
use Rattle.batch_leaf.proofs.Tasks.{task_next, task_none}
use Rattle.tree.specs.Bridge.{child_of, row_for, Holds, tree_at, unused_of}
use Rattle.tree.proofs.ReadOff.{Light, Lights, child_slot, held_tree, kids_read}
use Rattle.tree_spare.specs.Spared.{Spared}
use Rattle.batch_share.specs.declared.Standing.{Standing}
use Rattle.batch_share.specs.Children.{kids_at, child_at, before_at, after_at}
use Rattle.batch_share.specs.Promises.{Loose, Pend, ToSettle, Settled, Ended, ChildSettled}
use Rattle.batch_share.proofs.Zips.{drop_turned, get_d_turned, map_turned}
use Rattle.batch_share.proofs.Places.{before_is, child_is, after_is}
use Rattle.batch_node.specs.declared.Reply.{Reply}
use Rattle.batch_node.specs.Promises.{run_of, Asked, ToChange, Answers, NodeChanged}
use Rattle.tree_node.specs.Ask.{child_for, Chosen}
use Rattle.tree_node.proofs.Seeks.{seek_child}
use Rattle.batch_seek.specs.Seek.{roams}
use Rattle.model.proofs.Changes.{seek_turned}
use Rattle.batch_seek.proofs.Seeks.{roams_yes}
use Rattle.batch_node.proofs.Leaves.{slot_in}
use Rattle.batch_node.proofs.Walks.{Walking, asked, says, kept, stocked_sides, room, loose, loose_small, loose_fit, turn, fewer, start, Stop, finish}

-- what holds of three things holds of equal ones
cross : {A B D : Type 0} (P : A → B → D → Type 0) {a a' : A} {b b' : B} {d d' : D} → a ≡ a' → b ≡ b' → d ≡ d' → P a b d → P a' b' d'
cross {A} {B} P {a' = a'} {b = b} {b' = b'} {d = d} ea eb ed p = subst (P a' b') ed (subst (λ (x : B). P a' x d) eb (subst (λ (x : A). P x b d) ea p))

-- THE LOOP'S INVARIANT, of the code's values: W₀ and run₀ are those of the start
pub record Roaming (st : Settings) (W₀ W : List ℕ) (h : ℕ) (node : Subtree) (b : Call) (run₀ : Run) (i : ℕ) (changed : Bool) (run : Run) : Type 0 where
  pub held : Held st W
  pub header : head_in W ≡ head_in W₀
  pub batch : Underway b run
  pub spared : Spared (nodes st W) run.spare
  pub before : List (Tree h)
  pub rest : List (Tree h)
  pub turns : ℕ
  pub index : i ≡ length before
  pub walking : Walking st h node.slot node.ceiling (nodes st W₀) (tree_at (nodes st W₀) (suc h) node.slot) (drop run₀.next (tasks_of b)) run₀.counts (nodes st W) before rest turns changed
      (drop run.next (tasks_of b)) run.counts

-- A ROUND: there is a child, and a task that is not above the ceiling
pub record Round (st : Settings) (W₀ W : List ℕ) (h : ℕ) (node : Subtree) (b : Call) (run₀ : Run) (i : ℕ) (changed : Bool) (run : Run) : Type 0 where
  pub here : Roaming st W₀ W h node b run₀ i changed run
  pub kid : Tree h
  pub kids : List (Tree h)
  pub task : Task
  pub tasks : List Task
  pub left : drop run.next (tasks_of b) ≡ task ∷ tasks
  pub key : task.key ≡ get_or b.keys run.next 0
  pub le : task.key ≤ node.ceiling
  pub walking : Walking st h node.slot node.ceiling (nodes st W₀) (tree_at (nodes st W₀) (suc h) node.slot) (drop run₀.next (tasks_of b)) run₀.counts (nodes st W) here.before (kid ∷ kids)
      here.turns changed (task ∷ tasks) run.counts

-- THE START
pub round_start : {st : Settings} {W : List ℕ} {h : ℕ} {node : Subtree} {b : Call} {run : Run}
    → ToChange st W (suc h) node b run → Roaming st W W h node b run 0 false run
round_start {st} {W} {h} {node} {b} {run} asks =
    record {
      held = asks.held;
      header = refl;
      batch = asks.batch;
      spared = asks.asked.spared;
      before = [];
      rest = (tree_at (nodes st W) (suc h) node.slot).items;
      turns = length (drop run.next (tasks_of b));
      index = refl;
      walking = start run.counts asks.asked;
    }

abbrev head_key : List Task → ℕ
head_key [] = 0
head_key (t ∷ ts) = t.key

module _ {st : Settings} {W₀ W : List ℕ} {h : ℕ} {node : Subtree} {b : Call} {run₀ : Run} {i : ℕ} {changed : Bool} {run : Run}
    (m : Roaming st W₀ W h node b run₀ i changed run) where
  abbrev ts : List Task
  ts = tasks_of b

  abbrev t₀ : Tree (suc h)
  t₀ = tree_at (nodes st W₀) (suc h) node.slot

  abbrev Here : List (Tree h) → List Task → Type 0
  Here rest us = Walking st h node.slot node.ceiling (nodes st W₀) t₀ (drop run₀.next ts) run₀.counts (nodes st W) m.before rest m.turns changed us run.counts

  long : length (rows_at st W node.slot) ≡ length m.before + length m.rest
  long =
      ap (λ (n : S.Node). length n.rows) (all_head m.walking.stroll.holds) ∙ length-map (reverse_aux m.before m.rest) (row_for (suc h))
      ∙ length-reverse_aux m.before m.rest

  pub round_at : ToTouch st W node.slot
  round_at =
      record {
        held = m.held;
        slot = slot_in st W node.slot (λ e. absurd (omega (arith, ap (λ (n : S.Node). n.kind) (all_head m.walking.stroll.holds), e)));
      }

  -- THE TEST IS MET
  module _ (q : roams b.keys run.next node.ceiling i (length (rows_at st W node.slot)) ≡ true) where
    due_now : is_due b.keys run.next node.ceiling ≡ true
    due_now = both_left (is_due b.keys run.next node.ceiling) (ltb i (length (rows_at st W node.slot))) q

    pub next_in : run.next < length b.keys
    next_in = due_within b.keys run.next node.ceiling due_now

    pub child_in : i < length (rows_at st W node.slot)
    child_in = ltb-true _ _ (both_right (is_due b.keys run.next node.ceiling) (ltb i (length (rows_at st W node.slot))) q)

    key_low : get_or b.keys run.next 0 ≤ node.ceiling
    key_low = leb-true _ _ (due_low b.keys run.next node.ceiling due_now)

    abbrev first : Task
    first = task_at b run.next

    firsts : drop run.next ts ≡ first ∷ drop (suc run.next) ts
    firsts = task_next b run.next next_in m.batch.lent

    pub round : Round st W₀ W h node b run₀ i changed run
    round = by m.rest refl
      where
        by : (r : List (Tree h)) → m.rest ≡ r → Round st W₀ W h node b run₀ i changed run
        by [] e = absurd (omega (arith, child_in, long, ap length e, m.index))
        by (k ∷ r) e =
            record {
              here = m;
              kid = k;
              kids = r;
              task = first;
              tasks = drop (suc run.next) ts;
              left = firsts;
              key = refl;
              le = key_low;
              walking = subst (Here (k ∷ r)) firsts (subst (λ (x : List (Tree h)). Here x (drop run.next ts)) e m.walking);
            }

  -- THE TEST IS NOT MET: the end
  stop_by : (rest : List (Tree h)) (us : List Task) → m.rest ≡ rest → drop run.next ts ≡ us → roams b.keys run.next node.ceiling i (length (rows_at st W node.slot)) ≡ false → Stop node.ceiling rest us
  stop_by [] us e f q = tt
  stop_by (k ∷ r) [] e f q = tt
  stop_by (k ∷ r) (t ∷ us) e f q = by (dec_lt run.next (length b.keys)) (dec_lt node.ceiling t.key)
    where
      by : Dec (run.next < length b.keys) → Dec (node.ceiling < t.key) → node.ceiling < t.key
      by d (yes g) = g
      by (no d) (no g) = absurd (omega (arith, ap length (sym f ∙ task_none b run.next (omega (arith, d)))))
      by (yes d) (no g) =
          let key : t.key ≡ get_or b.keys run.next 0 = ap head_key (sym f ∙ task_next b run.next d m.batch.lent) in
          absurd
          (true≢false
          (sym (lt-ltb i (length (rows_at st W node.slot)) (omega (arith, long, m.index, ap length e)))
          ∙ roams_yes b.keys run.next node.ceiling i (length (rows_at st W node.slot)) d (omega (arith, key, g)) ∙ q))

  pub round_end : (v : ChangeResult) {n : ℕ} → roams b.keys run.next node.ceiling i (length (rows_at st W node.slot)) ≡ false → n ≡ length (rows_at st W node.slot)
      → v ≡ result_of st changed n
      → NodeChanged st W₀ W (suc h) node b run₀ (record { run = run; result = v })
  round_end v q en ev =
      let f : Answers (suc h) (nodes st W₀) (nodes st W) t₀ (change st (suc h) node.ceiling t₀ (drop run₀.next ts) (run_of (nodes st W₀) run₀.counts)) (drop run.next ts)
      (result_of st changed (length m.before + length m.rest)) run.counts =
      finish m.walking (stop_by m.rest (drop run.next ts) refl refl q) refl in
      record {
        held = m.held;
        header = m.header;
        answers = record {
          holds = f.holds;
          unused = f.unused;
          frame = f.frame;
          empty = f.empty;
          left = f.left;
          result = ev ∙ ap (result_of st changed) (en ∙ long) ∙ f.result;
          counts = f.counts;
        };
        batch = m.batch;
        spared = m.spared;
      }

-- A TURN OF THE CODE: in a round the next key is sent to child j, by its row, with the greatest key that the child may take
pub record Sent (st : Settings) (W₀ W : List ℕ) (h : ℕ) (node : Subtree) (b : Call) (run₀ : Run) (i : ℕ) (changed : Bool) (run : Run) (j : ℕ) (row : Row)
    (slot reach : ℕ) : Type 0 where
  pub round : Round st W₀ W h node b run₀ i changed run
  pub sought : Chosen (rows_at st W node.slot) i (get_or b.keys run.next 0) j
  pub is : row ≡ get_or (rows_at st W node.slot) j blank
  pub child : slot ≡ child_of row
  pub top : reach ≡ ceiling_for row.key (get_or b.keys run.next 0) node.ceiling

module _ {st : Settings} {W₀ W : List ℕ} {h : ℕ} {node : Subtree} {b : Call} {run₀ : Run} {i : ℕ} {changed : Bool} {run : Run} {j : ℕ} {row : Row}
    {slot reach : ℕ} (sent : Sent st W₀ W h node b run₀ i changed run j row slot reach) where
  abbrev r : Round st W₀ W h node b run₀ i changed run
  r = sent.round

  abbrev us : List Task
  us = tasks_of b

  abbrev root : Tree (suc h)
  root = tree_at (nodes st W₀) (suc h) node.slot

  lim : InLimits st
  lim = r.here.held.shape.limits

  abbrev z : Spot (Tree h)
  z = seek (greatest_key (suc h)) r.task.key r.here.before r.kid r.kids

  rows_are : rows_at st W node.slot ≡ map (row_for (suc h)) (reverse_aux r.here.before (r.kid ∷ r.kids))
  rows_are = ap (λ (n : S.Node). n.rows) (all_head r.walking.stroll.holds)

  same : reverse_aux z.before (z.child ∷ z.after) ≡ reverse_aux r.here.before (r.kid ∷ r.kids)
  same = seek_turned (greatest_key (suc h)) r.task.key r.here.before r.kid r.kids

  -- THE CHILD that the code finds is the model's
  found_at : j ≡ length z.before
  found_at =
      let n : i ≡ 0 + length (map (row_for (suc h)) r.here.before) = omega (arith, r.here.index, length-map r.here.before (row_for (suc h))) in
      let e : drop i (rows_at st W node.slot) ≡ map (row_for (suc h)) (r.kid ∷ r.kids) =
      ap (drop i) (rows_are ∙ map_turned (row_for (suc h)) r.here.before (r.kid ∷ r.kids))
      ∙ ap (λ (x : ℕ). drop x (reverse_aux (map (row_for (suc h)) r.here.before) (map (row_for (suc h)) (r.kid ∷ r.kids)))) n
      ∙ drop_turned 0 (map (row_for (suc h)) r.here.before) (map (row_for (suc h)) (r.kid ∷ r.kids)) in
      omega (
        arith,
        sent.sought.is,
        ap (λ (x : List Row). child_for (get_or b.keys run.next 0) x) e,
        ap (λ (x : ℕ). child_for x (map (row_for (suc h)) (r.kid ∷ r.kids))) (sym r.key),
        r.here.index,
        seek_child h r.task.key r.here.before r.kid r.kids,
      )

  row_is : row ≡ row_for (suc h) z.child
  row_is =
      let n : j ≡ 0 + length (map (row_for (suc h)) z.before) = omega (arith, found_at, length-map z.before (row_for (suc h))) in
      sent.is ∙ ap (λ (l : List Row). get_or l j blank) (rows_are ∙ ap (map (row_for (suc h))) (sym same) ∙ map_turned (row_for (suc h)) z.before (z.child ∷ z.after))
      ∙ ap (λ (x : ℕ). get_or (reverse_aux (map (row_for (suc h)) z.before) (map (row_for (suc h)) (z.child ∷ z.after))) x blank) n
      ∙ get_d_turned 0 (map (row_for (suc h)) z.before) (map (row_for (suc h)) (z.child ∷ z.after)) blank

  abbrev top : ℕ
  top = ceiling_for (greatest_key (suc h) z.child) r.task.key node.ceiling

  reach_is : reach ≡ top
  reach_is =
      sent.top ∙ ap (λ (x : Row). ceiling_for x.key (get_or b.keys run.next 0) node.ceiling) row_is
      ∙ ap (λ (x : ℕ). ceiling_for (greatest_key (suc h) z.child) x node.ceiling) (sym r.key)

  ask : Asked st h top (nodes st W) z.child (r.task ∷ r.tasks) run.spare
  ask = asked lim r.walking r.le r.here.spared

  child_light : Light h z.child
  child_light = omega (arith, ask.small)

  read_child : tree_at (nodes st W) h slot ≡ z.child
  read_child =
      ap (tree_at (nodes st W) h) (sent.child ∙ ap child_of row_is ∙ child_slot h z.child child_light)
      ∙ held_tree (nodes st W) h z.child child_light ask.holds

  -- WHAT THE CALL OF NODE CHANGE ASKS
  pub child_call : (g : ℕ) → ToChange st W h (record { height = g; slot = slot; ceiling = reach }) b run
  child_call g =
      record {
        held = r.here.held;
        asked = subst (λ (x : Tree h). Asked st h reach (nodes st W) x (drop run.next us) run.spare) (sym read_child)
            (subst (λ (x : ℕ). Asked st h x (nodes st W) z.child (drop run.next us) run.spare) (sym reach_is)
            (subst (λ (x : List Task). Asked st h top (nodes st W) z.child x run.spare) (sym r.left) ask));
        batch = r.here.batch;
      }

  -- AFTER THE CALL
  module _ {W₁ : List ℕ} {g : ℕ} {y : Reply} (came : NodeChanged st W W₁ h (record { height = g; slot = slot; ceiling = reach }) b run y) where
    abbrev o : Outcome (Tree h)
    o = change st h top z.child (r.task ∷ r.tasks) (run_of (nodes st W) run.counts)

    abbrev ns₁ : List S.Node
    ns₁ = nodes st W₁

    abbrev Tells : ℕ → Tree h → List Task → Type 0
    Tells n x ts =
        Answers h (nodes st W) ns₁ x (change st h n x ts (run_of (nodes st W) run.counts)) (drop y.run.next us) (y.result) y.run.counts

    answers : Tells top z.child (r.task ∷ r.tasks)
    answers =
        subst (Tells top z.child) r.left
        (subst (λ (n : ℕ). Tells n z.child (drop run.next us)) reach_is (subst (λ (x : Tree h). Tells reach x (drop run.next us)) read_child came.answers))

    loosely : Loose h node.slot ns₁ z.before z.child o.node z.after
    loosely = loose lim r.walking r.le answers

    small : length (flat h (back z.before ++ (o.node.items ++ joined z.after))) < 1048576
    small = loose_small lim r.walking r.le

    few : Lights h (reverse_aux z.before (o.node ∷ z.after))
    few = omega (arith, small, ap length (flat_joined h (reverse_aux z.before (o.node ∷ z.after)) ∙ ap (flat h) (back_joined z.before (o.node ∷ z.after))))

    new_light : Light h o.node
    new_light =
        omega (
          arith,
          small,
          ap length (flat_three h (back z.before) o.node.items (joined z.after)),
          length-append (flat h (back z.before)) (flat h o.node.items ++ flat h (joined z.after)),
          length-append (flat h o.node.items) (flat h (joined z.after)),
        )

    new_holds : Holds ns₁ h o.node
    new_holds = answers.holds

    -- the old row names the new child
    new_read : tree_at ns₁ h (child_of (row_for (suc h) z.child)) ≡ o.node
    new_read = ap (tree_at ns₁ h) (child_slot h z.child child_light ∙ sym loosely.slot) ∙ held_tree ns₁ h o.node new_light new_holds

    rows_now : rows_at st W₁ node.slot ≡ map (row_for (suc h)) (reverse_aux z.before (z.child ∷ z.after))
    rows_now = ap (λ (n : S.Node). n.rows) loosely.parent

    abbrev reading : Row → Tree h
    reading x = tree_at ns₁ h (child_of x)

    kids_now : kids_at ns₁ h node.slot ≡ reverse_aux z.before (o.node ∷ z.after)
    kids_now =
        let swap : map reading (map (row_for (suc h)) (reverse_aux z.before (z.child ∷ z.after))) ≡ map reading (map (row_for (suc h)) (reverse_aux z.before (o.node ∷ z.after))) =
        ap (map reading) (map_turned (row_for (suc h)) z.before (z.child ∷ z.after))
        ∙ map_turned reading (map (row_for (suc h)) z.before) (map (row_for (suc h)) (z.child ∷ z.after))
        ∙ ap (λ (x : Tree h). reverse_aux (map reading (map (row_for (suc h)) z.before)) (x ∷ map reading (map (row_for (suc h)) z.after)))
        (new_read ∙ sym (ap (tree_at ns₁ h) (child_slot h o.node new_light) ∙ held_tree ns₁ h o.node new_light new_holds))
        ∙ sym (map_turned reading (map (row_for (suc h)) z.before) (map (row_for (suc h)) (o.node ∷ z.after)))
        ∙ sym (ap (map reading) (map_turned (row_for (suc h)) z.before (o.node ∷ z.after))) in
        ap (map reading) rows_now ∙ swap ∙ kids_read ns₁ h (reverse_aux z.before (o.node ∷ z.after)) few loosely.kids

    long_now : length (rows_at st W₁ node.slot) ≡ length z.before + suc (length z.after)
    long_now =
        ap length rows_now ∙ length-map (reverse_aux z.before (z.child ∷ z.after)) (row_for (suc h)) ∙ length-reverse_aux z.before (z.child ∷ z.after)

    -- WHAT SETTLING ASKS
    pub pending : ToSettle st W₁ h node.slot j y.run.spare y.result
    pending =
        cross (Pend st W₁ h node.slot j y.run.spare y.result) (sym (before_is ns₁ h node.slot z.before o.node z.after j kids_now found_at))
        (sym (child_is ns₁ h node.slot z.before o.node z.after j kids_now found_at)) (sym (after_is ns₁ h node.slot z.before o.node z.after j kids_now found_at))
        (record {
          held = came.held;
          within = omega (arith, found_at, long_now);
          few = omega (
            arith,
            long_now,
            r.walking.grown,
            ap length same,
            length-reverse_aux z.before (z.child ∷ z.after),
            length-reverse_aux r.here.before (r.kid ∷ r.kids),
          );
          old = z.child;
          loose = loosely;
          kept = λ e. kept lim r.walking r.le (ap is_change (sym answers.result ∙ e));
          says = subst (λ (x : ChangeResult). Says st x o.node) (sym answers.result) (says lim r.walking r.le);
          stocked_before = (stocked_sides lim r.walking r.le).0;
          stocked_after = (stocked_sides lim r.walking r.le).1;
          room = omega (arith, ap takes answers.result, ap length answers.unused, room lim r.walking r.le r.walking.enough);
          small = small;
          fit = loose_fit lim r.walking r.le;
          empty = answers.empty;
          spared = came.spared;
        })

    -- AND WHAT IT LEAVES
    module _ {W₂ : List ℕ} {to : Standing} (done : ChildSettled st W₁ W₂ h node.slot j y.result to) where
      ended : Ended st W₁ W₂ h node.slot y.result to (reverse_aux z.before (o.node ∷ z.after)) z.before o.node z.after
      ended =
          cross (Ended st W₁ W₂ h node.slot y.result to (reverse_aux z.before (o.node ∷ z.after))) (before_is ns₁ h node.slot z.before o.node z.after j kids_now found_at)
          (child_is ns₁ h node.slot z.before o.node z.after j kids_now found_at) (after_is ns₁ h node.slot z.before o.node z.after j kids_now found_at)
          (subst (λ (ys : List (Tree h)). Ended st W₁ W₂ h node.slot y.result to ys (before_at ns₁ h node.slot j) (child_at ns₁ h node.slot j) (after_at ns₁ h node.slot j)) kids_now done)

      abbrev p : Place (Tree h)
      p = settle st o.result z.before o.node z.after o.run.unused

      place_is : settle st (y.result) z.before o.node z.after (unused_of ns₁) ≡ p
      place_is =
          ap (λ (x : ChangeResult). settle st x z.before o.node z.after (unused_of ns₁)) answers.result
          ∙ ap (λ (f : List ℕ). settle st o.result z.before o.node z.after f) answers.unused

      abbrev There : ℕ → Bool → List Task → Counts → Type 0
      There n ch ts d = Walking st h node.slot node.ceiling (nodes st W₀) root (drop run₀.next us) run₀.counts (nodes st W₂) p.before p.rest n ch ts d

      turned : ((n : ℕ) × There n (changed || is_change o.result) o.tasks o.run.counts)
      turned =
          turn lim r.walking r.le answers
          (subst (λ (x : Place (Tree h)). Settled h node.slot ns₁ (nodes st W₂) (reverse_aux z.before (o.node ∷ z.after)) x) place_is ended.settled)

      pub round_less : run.next < y.run.next
      round_less =
          omega (
            arith,
            fewer lim r.walking r.le,
            ap length answers.left,
            ap length r.left,
            length-drop y.run.next us,
            length-drop run.next us,
          )

      pub round_again : {changed' : Bool} → changed' ≡ (changed || is_change (y.result))
          → Roaming st W₀ W₂ h node b run₀ to.at changed' (record { next = y.run.next; counts = y.run.counts; spare = to.spare })
      round_again ec =
          record {
            held = ended.held;
            header = ended.header ∙ came.header ∙ r.here.header;
            batch = record { lent = came.batch.lent; short = came.batch.short; within = came.batch.within; few = came.batch.few };
            spared = ended.spared;
            before = p.before;
            rest = p.rest;
            turns = turned.0;
            index = ended.at ∙ ap (λ (x : Place (Tree h)). length x.before) place_is;
            walking =
                subst (λ (b : Bool). There turned.0 b (drop y.run.next us) y.run.counts) (sym (ec ∙ ap (λ (x : ChangeResult). changed || is_change x) answers.result))
                (subst (λ (ts : List Task). There turned.0 (changed || is_change o.result) ts y.run.counts) (sym answers.left)
                (subst (There turned.0 (changed || is_change o.result) o.tasks) (sym answers.counts) turned.1));
          }
