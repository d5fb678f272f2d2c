-- The loop of `take_keys`: what the model's leaf takes from here on is what is left of what it takes from the start. Assumes nothing.
use mathlib.Core.Path.{◌≡◌, refl, sym, ap, ◌∙◌, subst}
use mathlib.Core.Bool.{Bool, true, false, ◌&&◌, ◌||◌}
use mathlib.Core.List.{List, ◌∷◌, map}
use Prim.Native.Nat.{ℕ, suc, ◌+◌, ◌≤◌, ◌<◌, max}
use native.Mathlib.Numerals.{add-one}
use native.Mathlib.Omega.{arith}
use lib.Dec.{ltb, leb}
use lib.ListN.{length, get_or, drop, length-map}
use borrow.Author.Tests.{ltb-true, ltb-false, leb-true}
use Rattle.slots.specs.Nodes.{Node, nodes, put_rows, rows_at}
use Rattle.slots.specs.Promises.{NodesPut}
use Rattle.slots.proofs.Nodes.{length_nodes, become, put_same, put_put}
use Rattle.slots.proofs.Pairs.{own_rows}
use Rattle.model.specs.declared.Settings.{Settings}
use Rattle.model.specs.declared.Counts.{Counts}
use Rattle.model.specs.declared.Entry.{Entry}
use Rattle.model.specs.declared.Wish.{Wish}
use Rattle.model.specs.declared.Effect.{Effect}
use Rattle.model.specs.declared.Effect.TheVariants.{Leave, Add, Replace, Remove}
use Rattle.model.specs.Plain.{Task, step, effect_on, alters, count}
use Rattle.model.specs.Sound.{Sorted}
use Rattle.model.specs.Refuse.{Call, tasks_of}
use Rattle.model.specs.Change.{Walked, take_tasks}
use Rattle.model.proofs.Lists.{both_left, both_right}
use Rattle.model.proofs.Plain.{step_sorted}
use Rattle.tree.specs.Bridge.{entry_of, entry_row}
use Rattle.tree.proofs.ReadOff.{entries_back}
use Rattle.tree.proofs.SoundHolds.{rows_again}
use Rattle.batch_effect.specs.Under.{is_due, AtMost}
use Rattle.batch_effect.proofs.Dues.{due_within, due_low}
use Rattle.batch_leaf.specs.declared.Run.{Run}
use Rattle.batch_leaf.specs.declared.Subtree.{Subtree}
use Rattle.batch_leaf.specs.Promises.{ToTakeKey, ToWish, Underway, KeysTaken, KeyDone}
use Rattle.batch_leaf.specs.Keys.{wish_at, taking, goes_on}
use Rattle.batch_leaf.proofs.Tasks.{task_next, task_none, lent_next}

-- THE LOOP

few_on : (e : Effect) (c : Counts) (n : ℕ) → AtMost c n → AtMost (count e c) (n + 1)
few_on Leave c n h = record { few = omega (arith, h.few) }
few_on (Add r) c n h = record { few = omega (arith, h.few) }
few_on (Replace r) c n h = record { few = omega (arith, h.few) }
few_on Remove c n h = record { few = omega (arith, h.few) }

-- what a leaf takes of some tasks, with any unused slots
abbrev takes : Settings → List ℕ → Subtree → List Task → Bool → Counts → List ℕ → Walked Entry
takes st W leaf ts changed c us =
    take_tasks st.order leaf.ceiling ts (map entry_of (rows_at st W leaf.slot)) changed (record { unused = us; counts = c })

-- the rows of the leaf have changed, the keys from `run.next` to `now.next` are taken, and the model, going on from here, ends as it does from the
-- start
pub record Turn (st : Settings) (W₀ W : List ℕ) (leaf : Subtree) (b : Call) (run : Run) (changed : Bool) (now : Run) : Type 0 where
  pub did : NodesPut st W₀ W (put_rows (nodes st W₀) leaf.slot (rows_at st W leaf.slot))
  pub slot : leaf.slot < st.nodes
  pub sorted : Sorted (map entry_of (rows_at st W leaf.slot))
  pub forth : run.next ≤ now.next
  pub batch : Underway b now
  pub spare : now.spare ≡ run.spare
  pub same : (us : List ℕ)
      → takes st W leaf (drop now.next (tasks_of b)) changed now.counts us ≡ takes st W₀ leaf (drop run.next (tasks_of b)) false run.counts us

pub turn_start : {st : Settings} {W : List ℕ} {leaf : Subtree} {b : Call} {run : Run} → ToTakeKey st W leaf.slot → Underway b run
    → Turn st W W leaf b run false run
turn_start {st} {W} {leaf} l b =
    record {
      did = record { held = l.held; is = sym (put_same (nodes st W) leaf.slot); header = refl };
      slot = l.slot;
      sorted = l.sorted;
      forth = omega arith;
      batch = b;
      spare = refl;
      same = λ us. refl;
    }

module _ {st : Settings} {W₀ W : List ℕ} {leaf : Subtree} {b : Call} {run : Run} {changed : Bool} {now : Run}
    (t : Turn st W₀ W leaf b run changed now) where
  abbrev s : ℕ
  s = leaf.slot

  abbrev next : ℕ
  next = now.next

  abbrev c : Counts
  c = now.counts

  abbrev ceiling : ℕ
  ceiling = leaf.ceiling

  abbrev ts : List Task
  ts = tasks_of b

  abbrev es : List Entry
  es = map entry_of (rows_at st W s)

  abbrev n : ℕ
  n = length (rows_at st W s)

  -- the next key is taken
  module _ (q : goes_on b.keys next ceiling n st.order ≡ true) where
    due_now : is_due b.keys next ceiling ≡ true
    due_now = both_left (is_due b.keys next ceiling) (leb n st.order) q

    short_now : leb n st.order ≡ true
    short_now = both_right (is_due b.keys next ceiling) (leb n st.order) q

    pub turn_within : next < length b.keys
    turn_within = due_within b.keys next ceiling due_now

    pub turn_leaf : ToTakeKey st W s
    turn_leaf = record {
      held = t.did.held;
      slot = t.slot;
      sorted = t.sorted;
      few = leb-true _ _ short_now;
    }

    pub turn_lent : ToWish b.operation b.places b.sizes (next + 1)
    turn_lent = lent_next b next turn_within t.batch.lent

    module _ (w : Wish) (asked : w ≡ wish_at b.operation b.places b.sizes next) where
      abbrev task : Task
      task = record { key = get_or b.keys next 0; wish = w }

      one_off : (us : List ℕ) → takes st W leaf (drop next ts) changed c us
          ≡ take_tasks st.order ceiling (drop (suc next) ts) (step task es) (changed || alters (effect_on task es)) (record { unused = us; counts = count (effect_on task es) c })
      one_off us =
          ap (λ (l : List Task). takes st W leaf l changed c us)
          (task_next b next (turn_within) t.batch.lent
          ∙ ap (λ (w : Wish). record { key = get_or b.keys next 0; wish = w } ∷ drop (suc next) ts) (sym asked))
          ∙ rw (length-map (rows_at st W s) entry_of, due_low b.keys next ceiling due_now, short_now) refl

      pub turn_on : {W' : List ℕ} {d : Effect} {changed' : Bool} {c' : Counts} → KeyDone st W W' s task d → changed' ≡ (changed || alters d)
          → c' ≡ count d c → Turn st W₀ W' leaf b run changed' (record { next = next + 1; counts = c'; spare = now.spare })
      turn_on {W'} {d} k e1 e2 =
          let w : next < length b.keys = turn_within in
          let new = map entry_row (step task es) in
          let rows : rows_at st W' s ≡ new = own_rows st W W' s new k.did t.slot in
          let here : map entry_of (rows_at st W' s) ≡ step task es = ap (map entry_of) rows ∙ entries_back (step task es) in
          record {
            did = record {
              held = k.did.held;
              is = k.did.is ∙ ap (λ (ns : List Node). put_rows ns s new) t.did.is
                  ∙ put_put (nodes st W₀) s (rows_at st W s) new (omega (arith, length_nodes st W₀, t.slot)) ∙ ap (put_rows (nodes st W₀) s) (sym rows);
              header = k.did.header ∙ t.did.header;
            };
            slot = t.slot;
            sorted = subst Sorted (sym here) (step_sorted task t.sorted);
            forth = omega (arith, t.forth);
            batch = record {
              lent = t.batch.lent;
              short = t.batch.short;
              within = omega arith;
              few = subst (λ (x : Counts). AtMost x (next + 1)) (sym e2) (few_on d c next t.batch.few);
            };
            spare = t.spare;
            same = λ us. rw (e1, e2, k.effect, here, add-one next) (sym (one_off us) ∙ t.same us);
          }

  -- the next key is not taken, or there is none
  module _ (q : goes_on b.keys next ceiling n st.order ≡ false) where
    abbrev stopped : List ℕ → Walked Entry
    stopped us = record { items = es; changed = changed; tasks = drop next ts; run = record { unused = us; counts = c } }

    stops_by : (us : List ℕ) (v : Bool) → ltb next (length b.keys) ≡ v → takes st W leaf (drop next ts) changed c us ≡ stopped us
    stops_by us true e =
        let r : (leb (get_or b.keys next 0) ceiling && leb n st.order) ≡ false =
        sym (ap (λ (v : Bool). (v && leb (get_or b.keys next 0) ceiling) && leb n st.order) e) ∙ q in
        rw (task_next b next (ltb-true _ _ e) t.batch.lent, length-map (rows_at st W s) entry_of, r) refl
    stops_by us false e = rw (task_none b next (ltb-false _ _ e)) refl

    pub turn_done : ToTakeKey st W₀ s → (us : List ℕ) → KeysTaken st W₀ W leaf b run us (record { run = now; changed = changed })
    turn_done l us =
        let limit : st.order ≡ max (length (rows_at st W₀ s)) st.order = omega (arith, l.few) in
        let all : stopped us ≡ taking st W₀ leaf b run us =
        sym (stops_by us (ltb next (length b.keys)) refl) ∙ t.same us
        ∙ ap (λ (m : ℕ). take_tasks m ceiling (drop run.next ts) (map entry_of (rows_at st W₀ s)) false (record { unused = us; counts = run.counts })) limit in
        record {
          did = become st W₀ W _ _ t.did
              (ap (put_rows (nodes st W₀) s) (sym (rows_again (rows_at st W s)) ∙ ap (λ (x : Walked Entry). map entry_row x.items) all));
          left = ap (λ (x : Walked Entry). x.tasks) all;
          changed = ap (λ (x : Walked Entry). x.changed) all;
          counts = ap (λ (x : Walked Entry). x.run.counts) all;
          forth = t.forth;
          batch = t.batch;
          spare = t.spare;
        }
