-- One key in a leaf's rows is one key in the model's list: where it is found, what may be done there, and the rows that it leaves. Assumes nothing.
use mathlib.Core.Path.{◌≡◌, refl, sym, ap, ◌∙◌, subst}
use mathlib.Core.Bool.{Bool, true, false, cond, true≢false}
use mathlib.Core.List.{List, [], ◌∷◌, ◌++◌, map, append_assoc}
use mathlib.Core.Option.{Option, none, some}
use Prim.Native.Nat.{ℕ, zero, suc, ◌≤◌, ◌<◌}
use native.Mathlib.Numerals.{add-one}
use native.Mathlib.Omega.{arith}
use lib.Dec.{eqb, ltb}
use lib.ListN.{length, get_or, take, drop, drop_of_length-le}
use lib.Seq.{drop-cons, set_split}
use borrow.Author.Tests.{ltb-true, ltb-false, eqb-true, eq-eqb}
use Rattle.slots_raw.specs.declared.Row.{Row}
use Rattle.std.specs.Prelude as Std
use Rattle.std.specs.Prelude.{Result, Ok, Err}
use Rattle.slots_raw.specs.Slots.{blank}
use Rattle.slots.specs.Nodes.{nodes, put_rows, rows_at}
use Rattle.slots.specs.Promises.{NodesPut}
use Rattle.slots_find.specs.Search.{key_at, Ascending, pick, find_row}
use Rattle.slots_find.specs.Promises.{Sought, Within}
use Rattle.slots_find.specs.Search as S
use Rattle.slots_raw.proofs.Over.{map_append}
use Rattle.slots.proofs.Nodes.{become}
use Rattle.model.specs.declared.Settings.{Settings}
use Rattle.model.specs.declared.Entry.{Entry}
use Rattle.model.specs.declared.Reference.{Reference}
use Rattle.model.specs.declared.Action.{Action}
use Rattle.model.specs.declared.Action.TheVariants as Do
use Rattle.model.specs.declared.Wish.{Wish}
use Rattle.model.specs.declared.Wish.TheVariants.{Always, IfMet}
use Rattle.model.specs.declared.Effect.{Effect}
use Rattle.model.specs.declared.Effect.TheVariants.{Leave, Add, Replace, Remove}
use Rattle.model.specs.Plain.{Task, step, effect, act, met, held, above, below, from, under, alters, entry_for, reference_for}
use Rattle.model.specs.Sound.{Sorted}
use Rattle.model.proofs.Lists.{by_test}
use Rattle.model.proofs.Plain.{step_idle}
use Rattle.model.proofs.Readable.{entry_keys_lem}
use Rattle.tree.specs.Bridge.{entry_of, entry_row}
use Rattle.tree.proofs.SoundHolds.{rows_again}
use Rattle.tree.proofs.Keys.{rows_ascend, entries_from}
use Rattle.batch_effect.specs.declared.Held.{Held}
use Rattle.batch_effect.specs.Under.{option_of}
use Rattle.batch_leaf.specs.Promises.{ToTakeKey, ToPerform, KeyDone}
use Rattle.batch_leaf.specs.Keys.{held_at, place_of, performed}

-- ROWS AND ENTRIES

abbrev entries : List Row → List Entry
entries l = map entry_of l

abbrev rows : List Entry → List Row
rows es = map entry_row es

rows_append : (a b : List Entry) → rows (a ++ b) ≡ rows a ++ rows b
rows_append a b = map_append entry_row a b

-- sorted entries can be searched
pub ascending : (l : List Row) → Sorted (entries l) → Ascending l
ascending l s = subst Ascending (rows_again l) (rows_ascend zero (entries l) (entry_keys_lem s))

-- WHERE A KEY STANDS

module _ (k : ℕ) where
  low_one : (r : Row) (l : List Row) (b : Bool) → rows (below k (entries l)) ≡ take (S.below k l) l
      → rows (cond b (entry_of r ∷ below k (entries l)) []) ≡ take (pick b (suc (S.below k l)) 0) (r ∷ l)
  unfolding pick
  low_one r l true h = ap (r ∷◌) h
  low_one r l false h = refl

  -- the entries below k are the rows before its place
  low_rows : (l : List Row) → rows (below k (entries l)) ≡ take (S.below k l) l
  unfolding S.below
  low_rows [] = refl
  low_rows (r ∷ l) = low_one r l (ltb r.key k) (low_rows l)

  from_row : (l : List Row) (i : ℕ) → i ≡ S.below k l → i < length l → from k (entries l) ≡ entry_of (get_or l i blank) ∷ entries (drop (suc i) l)
  from_row l i e h = entries_from k l ∙ ap (λ (j : ℕ). entries (drop j l)) (sym e) ∙ ap entries (drop-cons l i blank h)

  above_row : (l : List Row) (i : ℕ) → i ≡ S.below k l → i < length l → key_at l i ≡ k → above k (from k (entries l)) ≡ entries (drop (suc i) l)
  above_row l i e h q = rw (from_row l i e h, eq-eqb (key_at l i) k q) refl

  -- what is found, with what the model has there
  data View (l : List Row) : Result ℕ ℕ → Type 0 where
    stands : {i : ℕ} → i ≡ S.below k l → i < length l → key_at l i ≡ k → View l (Ok i)
    lacks : {i : ℕ} → i ≡ S.below k l → held k (entries l) ≡ none → above k (from k (entries l)) ≡ from k (entries l) → View l (Err i)

  viewed : (l : List Row) (a b : Bool) → ltb (S.below k l) (length l) ≡ a → eqb (key_at l (S.below k l)) k ≡ b
      → View l (pick a (pick b (Ok (S.below k l)) (Err (S.below k l))) (Err (S.below k l)))
  unfolding pick
  viewed l true true p q = stands refl (ltb-true _ _ p) (eqb-true _ _ q)
  viewed l true false p q =
      let e = from_row l (S.below k l) refl (ltb-true _ _ p) in
      lacks refl (rw (e, q) refl) (rw (e, q) refl)
  viewed l false b p q =
      let e : from k (entries l) ≡ [] = entries_from k l ∙ ap entries (drop_of_length-le l (ltb-false _ _ p)) in
      lacks refl (rw e refl) (rw e refl)

  view : (l : List Row) (r : Result ℕ ℕ) → Sought l k r → View l r
  unfolding find_row
  view l r s = subst (View l) (sym s.is) (viewed l (ltb (S.below k l) (length l)) (eqb (key_at l (S.below k l)) k) refl refl)

  -- what stands there is what the model holds
  presence_held : (l : List Row) (r : Result ℕ ℕ) → View l r → option_of (held_at l r) ≡ held k (entries l)
  presence_held l (Ok i) (stands e h q) = rw (from_row l i e h, eq-eqb (key_at l i) k q) refl
  presence_held l (Err i) (lacks e h g) = sym h

place_within : (l : List Row) (r : Result ℕ ℕ) → Within l r → place_of r ≤ length l
place_within l (Ok i) h = omega arith
place_within l (Err i) h = h

-- WHAT CAN BE DONE

-- under a key that is absent nothing is replaced or removed
abbrev touches : Effect → Bool
touches Leave = false
touches (Add r) = false
touches (Replace r) = true
touches Remove = true

act_absent : (a : Action) → touches (act a none) ≡ false
act_absent (Do.Set r) = refl
act_absent Do.Remove = refl

absent : (w : Wish) → touches (effect w none) ≡ false
absent (Always a) = act_absent a
absent (IfMet e a) = by_test (λ (x : Effect). touches x ≡ false) (met e none) (λ _. act_absent a) (λ _. refl)

-- under a key that is present nothing is added
abbrev adds : Effect → Bool
adds Leave = false
adds (Add r) = true
adds (Replace r) = false
adds Remove = false

act_present : (a : Action) (r : Reference) → adds (act a (some r)) ≡ false
act_present (Do.Set r) h = refl
act_present Do.Remove h = refl

present : (w : Wish) (r : Reference) → adds (effect w (some r)) ≡ false
present (Always a) r = act_present a r
present (IfMet e a) r = by_test (λ (x : Effect). adds x ≡ false) (met e (some r)) (λ _. act_present a r) (λ _. refl)

module _ (st : Settings) (W : List ℕ) (s k : ℕ) (w : Wish) (leaf : ToTakeKey st W s) where
  able : (r : Result ℕ ℕ) (d : Effect) → View k (rows_at st W s) r → place_of r ≤ length (rows_at st W s)
      → d ≡ effect w (option_of (held_at (rows_at st W s) r)) → ToPerform st W s (place_of r) d
  able r Leave v b e = record { held = leaf.held; slot = leaf.slot }
  able r (Add n) v b e =
      record { held = leaf.held; slot = leaf.slot; within = b; room = omega (arith, leaf.few, leaf.held.shape.limits.wide) }
  able (Ok i) (Replace n) (stands p h q) b e = record { held = leaf.held; slot = leaf.slot; within = omega arith }
  able (Err i) (Replace n) v b e = absurd (true≢false (ap touches e ∙ absent w))
  able (Ok i) Remove (stands p h q) b e = record { held = leaf.held; slot = leaf.slot; within = omega arith }
  able (Err i) Remove v b e = absurd (true≢false (ap touches e ∙ absent w))

-- WHAT IT LEAVES

module _ (k : ℕ) (w : Wish) (l : List Row) where
  abbrev task : Task
  task = record { key = k; wish = w }

  stepped : (n : Effect) → n ≡ effect w (held k (entries l))
      → step task (entries l) ≡ below k (entries l) ++ (under k (held k (entries l)) n ++ above k (from k (entries l)))
  stepped n e = ap (λ (x : Effect). below k (entries l) ++ (under k (held k (entries l)) x ++ above k (from k (entries l)))) (sym e)

  -- the rows before place i, new ones, and the rows from place j on are the entries below k, new ones, and those above k
  joined : (i j : ℕ) (es : List Entry) → i ≡ S.below k l → above k (from k (entries l)) ≡ entries (drop j l)
      → take i l ++ (rows es ++ drop j l) ≡ rows (below k (entries l) ++ (es ++ above k (from k (entries l))))
  joined i j es p g =
      ap (λ (x : List Row). x ++ (rows es ++ drop j l)) (ap (λ (n : ℕ). take n l) p ∙ sym (low_rows k l))
      ∙ ap (λ (x : List Row). rows (below k (entries l)) ++ (rows es ++ x)) (sym (rows_again (drop j l)) ∙ ap rows (sym g))
      ∙ ap (λ (x : List Row). rows (below k (entries l)) ++ x) (sym (rows_append es (above k (from k (entries l)))))
      ∙ sym (rows_append (below k (entries l)) (es ++ above k (from k (entries l))))

  -- the rows after an effect are the entries after the task
  performed_step : (r : Result ℕ ℕ) (d : Effect) → View k l r → d ≡ effect w (held k (entries l)) → performed l (place_of r) k d ≡ rows (step task (entries l))
  performed_step r Leave v e = sym (rows_again l) ∙ ap rows (sym (step_idle task (entries l) (ap alters (sym e))))
  performed_step (Ok i) (Add n) (stands p h q) e =
      absurd (true≢false (ap adds e ∙ ap (λ (o : Option Reference). adds (effect w o)) (sym (presence_held k l (Ok i) (stands p h q)))
      ∙ present w (reference_for (get_or l i blank).body (get_or l i blank).size)))
  performed_step (Err i) (Add n) (lacks p h g) e =
      append_assoc (take i l) (entry_row (entry_for k n) ∷ []) (drop i l)
      ∙ joined i i (entry_for k n ∷ []) p (g ∙ entries_from k l ∙ ap (λ (j : ℕ). entries (drop j l)) (sym p))
      ∙ ap rows (sym (stepped (Add n) e))
  performed_step (Ok i) (Replace n) (stands p h q) e =
      set_split l i (entry_row (entry_for k n)) h
      ∙ joined i (suc i) (entry_for k n ∷ []) p (above_row k l i p h q)
      ∙ ap rows (sym (stepped (Replace n) e))
  performed_step (Err i) (Replace n) (lacks p h g) e =
      absurd (true≢false (ap touches e ∙ ap (λ (o : Option Reference). touches (effect w o)) h ∙ absent w))
  performed_step (Ok i) Remove (stands p h q) e =
      ap (λ (j : ℕ). take i l ++ drop j l) (add-one i)
      ∙ joined i (suc i) [] p (above_row k l i p h q)
      ∙ ap rows (sym (stepped Remove e))
  performed_step (Err i) Remove (lacks p h g) e =
      absurd (true≢false (ap touches e ∙ ap (λ (o : Option Reference). touches (effect w o)) h ∙ absent w))

-- ONE KEY: what is decided by what was found can be done there, and done it is the task

module _ {st : Settings} {W : List ℕ} {s k : ℕ} (w : Wish) (leaf : ToTakeKey st W s) {r : Result ℕ ℕ} {p : Std.Option Held} (d : Effect) {i : ℕ} (sought : Sought (rows_at st W s) k r) (ep : p ≡ held_at (rows_at st W s) r) (ed : d ≡ effect w (option_of p)) (ei : i ≡ place_of r) where
  abbrev l : List Row
  l = rows_at st W s

  decided : d ≡ effect w (option_of (held_at l r))
  decided = ed ∙ ap (λ (x : Std.Option Held). effect w (option_of x)) ep

  pub key_able : ToPerform st W s i d
  key_able =
      subst (λ (j : ℕ). ToPerform st W s j d) (sym ei) (able st W s k w leaf r d (view k l r sought) (place_within l r sought.within) decided)

  pub key_done : {W' : List ℕ} → NodesPut st W W' (put_rows (nodes st W) s (performed l i k d)) → KeyDone st W W' s (record { key = k; wish = w }) d
  key_done {W'} n =
      let v = view k l r sought in
      let e = decided ∙ ap (effect w) (presence_held k l r v) in
      record {
        did = become st W W' _ _ n (ap (put_rows (nodes st W) s) (ap (λ (j : ℕ). performed l j k d) ei ∙ performed_step k w l r d v e));
        effect = e;
      }
