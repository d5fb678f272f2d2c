-- A key changes only its own place of the plain list, keeps its order and its bounds, and keys that differ may change places. Assumes nothing.
use mathlib.Core.Path.{◌≡◌, refl, sym, ap, ◌∙◌}
use mathlib.Core.Logic.{◌≢◌}
use mathlib.Core.Bool.{Bool, true, false, cond, true≢false}
use mathlib.Core.List.{List, [], ◌∷◌, ◌++◌, append_assoc}
use mathlib.Core.Option.{Option, some}
use mathlib.Core.Option as O
use Prim.Native.Nat.{ℕ, suc, ◌+◌, ◌≤◌, ◌<◌}
use native.Mathlib.Omega.{arith}
use native.Mathlib.Decide.{dec_lt}
use lib.Dec.{eqb, ltb}
use lib.ListN.{length, length-append}
use borrow.Author.Tests.{lt-ltb, le-ltb, ne_eqb, ltb-true, ltb-false, eqb-true, eqb-false}
use Rattle.model.specs.declared.Reference.{Reference}
use Rattle.model.specs.declared.Entry.{Entry}
use Rattle.model.specs.declared.Counts.{Counts}
use Rattle.model.specs.declared.Action.{Action}
use Rattle.model.specs.declared.Action.TheVariants as Do
use Rattle.model.specs.Lists.{All, none, one, nil, cons}
use Rattle.model.specs.declared.Wish.{Wish}
use Rattle.model.specs.declared.Wish.TheVariants.{Always, IfMet}
use Rattle.model.specs.declared.Effect.{Effect}
use Rattle.model.specs.declared.Effect.TheVariants.{Leave, Add, Replace, Remove}
use Rattle.model.specs.Plain.{alters, Task, step, below, from, first, above, held, under, act, met, effect, effect_on, plain_list, plain_counts, count, reference_of, entry_for}
use Rattle.model.specs.Sound.{Sorted}
use Rattle.model.specs.Promises.{Puts, Grants}
use Rattle.model.proofs.Lists.{by_test, all_append, all_map, ordered_append, ordered_left, ordered_right}

abbrev pub Under : ℕ → List Entry → Type 0
Under k es = All (λ e. e.key < k) es

abbrev pub Over : ℕ → List Entry → Type 0
Over k es = All (λ e. k < e.key) es

-- THE ENTRIES BEFORE AND BEHIND its place do not matter to a key

module _ (k : ℕ) where
  below_front : {a : List Entry} (b : List Entry) → Under k a → below k (a ++ b) ≡ a ++ below k b
  below_front b none = refl
  below_front b (one {x = e} h hs) = rw (lt-ltb e.key k h) (ap (e ∷◌) (below_front b hs))

  pub from_front : {a : List Entry} (b : List Entry) → Under k a → from k (a ++ b) ≡ from k b
  from_front b none = refl
  from_front b (one {x = e} h hs) = rw (lt-ltb e.key k h) (from_front b hs)

  over_below : {c : List Entry} → Over k c → below k c ≡ []
  over_below none = refl
  over_below (one {x = e} h hs) = rw (le-ltb e.key k (omega arith)) refl

  over_from : {c : List Entry} → Over k c → from k c ≡ c
  over_from none = refl
  over_from (one {x = e} h hs) = rw (le-ltb e.key k (omega arith)) refl

  over_first : {c : List Entry} → Over k c → first k c ≡ O.none
  over_first none = refl
  over_first (one {x = e} h hs) = rw (ne_eqb e.key k (λ q. omega arith)) refl

  over_above : {c : List Entry} → Over k c → above k c ≡ c
  over_above none = refl
  over_above (one {x = e} h hs) = rw (ne_eqb e.key k (λ q. omega arith)) refl

  below_back : (b : List Entry) {c : List Entry} → Over k c → below k (b ++ c) ≡ below k b
  below_back [] h = over_below h
  below_back (e ∷ b) h = ap (λ (r : List Entry). cond (ltb e.key k) (e ∷ r) []) (below_back b h)

  pick_append : (t : Bool) (x y c : List Entry) → cond t (x ++ c) (y ++ c) ≡ cond t x y ++ c
  pick_append true x y c = refl
  pick_append false x y c = refl

  pub from_back : (b : List Entry) {c : List Entry} → Over k c → from k (b ++ c) ≡ from k b ++ c
  from_back [] h = over_from h
  from_back (e ∷ b) {c} h = ap (λ (r : List Entry). cond (ltb e.key k) r (e ∷ (b ++ c))) (from_back b h) ∙ pick_append (ltb e.key k) (from k b) (e ∷ b) c

  pub first_back : (b : List Entry) {c : List Entry} → Over k c → first k (b ++ c) ≡ first k b
  first_back [] h = over_first h
  first_back (e ∷ b) h = refl

  above_back : (b : List Entry) {c : List Entry} → Over k c → above k (b ++ c) ≡ above k b ++ c
  above_back [] h = over_above h
  above_back (e ∷ b) {c} h = pick_append (eqb e.key k) b (e ∷ b) c

pub step_front : (t : Task) {a : List Entry} (b : List Entry) → Under t.key a → step t (a ++ b) ≡ a ++ step t b
step_front t b h = rw (below_front t.key b h, from_front t.key b h) (simp append_assoc)

pub effect_front : (t : Task) {a : List Entry} (b : List Entry) → Under t.key a → effect_on t (a ++ b) ≡ effect_on t b
effect_front t b h = rw (from_front t.key b h) refl

pub step_back_lem : (t : Task) (b : List Entry) {c : List Entry} → Over t.key c → step t (b ++ c) ≡ step t b ++ c
step_back_lem t b h =
    rw (below_back t.key b h, from_back t.key b h, first_back t.key (from t.key b) h, above_back t.key (from t.key b) h) (simp append_assoc)

pub effect_back : (t : Task) (b : List Entry) {c : List Entry} → Over t.key c → effect_on t (b ++ c) ≡ effect_on t b
effect_back t b h = rw (from_back t.key b h, first_back t.key (from t.key b) h) refl

-- a batch whose keys are all above the entries before, and below those behind
abbrev pub Fit : List Entry → List Entry → List Task → Type 0
Fit a c ts = All (λ t. Under t.key a × Over t.key c) ts

list_within : (a c : List Entry) {ts : List Task} (b : List Entry) → Fit a c ts → plain_list ts (a ++ (b ++ c)) ≡ a ++ (plain_list ts b ++ c)
list_within a c b none = refl
list_within a c b (one {x = t} {xs = ts} h hs) =
    ap (plain_list ts) (step_front t (b ++ c) h.0 ∙ ap (a ++◌) (step_back_lem t b h.1)) ∙ list_within a c (step t b) hs

pub list_inside : {ts : List Task} (a b c : List Entry) → Fit a c ts → plain_list ts (a ++ (b ++ c)) ≡ a ++ (plain_list ts b ++ c)
list_inside a b c h = list_within a c b h

counts_within : (a c : List Entry) {ts : List Task} (b : List Entry) (n : Counts) → Fit a c ts → plain_counts ts (a ++ (b ++ c)) n ≡ plain_counts ts b n
counts_within a c b n none = refl
counts_within a c b n (one {x = t} {xs = ts} h hs) =
    rw (step_front t (b ++ c) h.0, step_back_lem t b h.1, effect_front t (b ++ c) h.0, effect_back t b h.1)
    (counts_within a c (step t b) (count (effect_on t b) n) hs)

pub counts_inside : {ts : List Task} (a b c : List Entry) (n : Counts) → Fit a c ts → plain_counts ts (a ++ (b ++ c)) n ≡ plain_counts ts b n
counts_inside a b c n h = counts_within a c b n h

pub list_append : (ts us : List Task) (es : List Entry) → plain_list (ts ++ us) es ≡ plain_list us (plain_list ts es)
list_append [] us es = refl
list_append (t ∷ ts) us es = list_append ts us (step t es)

pub counts_append : (ts us : List Task) (es : List Entry) (n : Counts) → plain_counts (ts ++ us) es n ≡ plain_counts us (plain_list ts es) (plain_counts ts es n)
counts_append [] us es n = refl
counts_append (t ∷ ts) us es n = counts_append ts us (step t es) (count (effect_on t es) n)

-- WHAT A KEY LEAVES, in three parts

module _ (k : ℕ) where
  pub cut : (es : List Entry) → below k es ++ from k es ≡ es
  cut [] = refl
  cut (e ∷ es) = both (ltb e.key k) (cut es)
    where
      both : (t : Bool) → below k es ++ from k es ≡ es → cond t (e ∷ below k es) [] ++ cond t (from k es) (e ∷ es) ≡ e ∷ es
      both true h = ap (e ∷◌) h
      both false h = refl

  pub below_under : (es : List Entry) → Under k (below k es)
  below_under [] = none
  below_under (e ∷ es) = by_test (Under k) (ltb e.key k) (λ q. one (ltb-true _ _ q) (below_under es)) (λ q. none)

  pub from_least : {es : List Entry} → Sorted es → All (λ e. k ≤ e.key) (from k es)
  from_least nil = none
  from_least (cons {x = e} {xs = es} h s) =
      by_test (All (λ x. k ≤ x.key)) (ltb e.key k) (λ q. from_least s)
      (λ q. let le : k ≤ e.key = ltb-false _ _ q in one le (all_map (λ x g. omega arith) h))

  above_over : {fs : List Entry} → Sorted fs → All (λ e. k ≤ e.key) fs → Over k (above k fs)
  above_over nil none = none
  above_over (cons {x = e} {xs = es} h s) (one g gs) =
      by_test (Over k) (eqb e.key k) (λ q. let eq : e.key ≡ k = eqb-true _ _ q in all_map (λ x p. omega arith) h)
      (λ q. let ne : (e.key ≡ k → ⊥) = eqb-false _ _ q in one (omega arith) (all_map (λ x p. omega arith) h))

  above_sorted : {fs : List Entry} → Sorted fs → Sorted (above k fs)
  above_sorted nil = nil
  above_sorted (cons {x = e} {xs = es} h s) = by_test Sorted (eqb e.key k) (λ q. s) (λ q. cons h s)

  at_key : (o : Option Reference) (e : Effect) → All (λ x. x.key ≡ k) (under k o e)
  at_key O.none Leave = none
  at_key (some r) Leave = one refl none
  at_key o (Add r) = one refl none
  at_key o (Replace r) = one refl none
  at_key o Remove = none

  under_sorted : (o : Option Reference) (e : Effect) → Sorted (under k o e)
  under_sorted O.none Leave = nil
  under_sorted (some r) Leave = cons none nil
  under_sorted o (Add r) = cons none nil
  under_sorted o (Replace r) = cons none nil
  under_sorted o Remove = nil

  threefold : {a m c : List Entry} → Sorted a → Sorted m → Sorted c → Under k a → All (λ x. x.key ≡ k) m → Over k c → Sorted (a ++ (m ++ c))
  threefold sa sm sc ha hm hc =
      ordered_append sa (ordered_append sm sc (all_map (λ x p. all_map (λ y q. omega arith) hc) hm))
      (all_map (λ x p. all_append (all_map (λ y q. omega arith) hm) (all_map (λ y q. omega arith) hc)) ha)

-- ORDER is kept

pub step_sorted : (t : Task) {es : List Entry} → Sorted es → Sorted (step t es)
step_sorted t {es} s =
    let k = t.key in
    let whole : Sorted (below k es ++ from k es) = rw (cut k es) s in
    let tail = ordered_right (below k es) (from k es) whole in
    threefold k (ordered_left (below k es) (from k es) whole) (under_sorted k (held k es) (effect_on t es)) (above_sorted k tail) (below_under k es) (at_key k (held k es) (effect_on t es))
    (above_over k tail (from_least k s))

pub list_sorted : (ts : List Task) {es : List Entry} → Sorted es → Sorted (plain_list ts es)
list_sorted [] s = s
list_sorted (t ∷ ts) s = list_sorted ts (step_sorted t s)

-- WHAT HOLDS OF EACH ENTRY, old or put there, is kept

module _ (P : Entry → Type 0) where
  all_from : (k : ℕ) {es : List Entry} → All P es → All P (from k es)
  all_from k none = none
  all_from k (one {x = e} {xs = es} g gs) = by_test (All P) (ltb e.key k) (λ q. all_from k gs) (λ q. one g gs)

  all_below : (k : ℕ) {es : List Entry} → All P es → All P (below k es)
  all_below k none = none
  all_below k (one {x = e} {xs = es} g gs) = by_test (All P) (ltb e.key k) (λ q. one g (all_below k gs)) (λ q. none)

  all_above : (k : ℕ) {es : List Entry} → All P es → All P (above k es)
  all_above k none = none
  all_above k (one {x = e} {xs = es} g gs) = by_test (All P) (eqb e.key k) (λ q. gs) (λ q. one g gs)

  -- the reference held under k, if there is one, makes an entry that was there
  abbrev Kept : ℕ → Option Reference → Type 0
  Kept k O.none = Unit {0}
  Kept k (some r) = P (entry_for k r)

  first_kept : (k : ℕ) {fs : List Entry} → All P fs → Kept k (first k fs)
  first_kept k none = tt
  first_kept k (one {x = e} g gs) =
      by_test (Kept k) (eqb e.key k)
      (λ q. let p : P (entry_for e.key (reference_of e)) = g in rw (eqb-true e.key k q) at p) (λ q. tt)

  pub granted : (t : Task) → ((r : Reference) → P (entry_for t.key r)) → Grants P t
  granted t f = go t.wish
    where
      puts : (a : Action) → Puts P t.key a
      puts (Do.Set r) = f r
      puts Do.Remove = tt

      go : (w : Wish) → Grants P (record { key = t.key; wish = w })
      go (Always a) = puts a
      go (IfMet e a) = puts a

  abbrev Made : ℕ → Effect → Type 0
  Made k Leave = Unit {0}
  Made k (Add r) = P (entry_for k r)
  Made k (Replace r) = P (entry_for k r)
  Made k Remove = Unit {0}

  act_made : (k : ℕ) (a : Action) (o : Option Reference) → Puts P k a → Made k (act a o)
  act_made k (Do.Set r) O.none p = p
  act_made k (Do.Set r) (some held) p = p
  act_made k Do.Remove O.none p = tt
  act_made k Do.Remove (some held) p = tt

  effect_made : (k : ℕ) (w : Wish) (o : Option Reference) → Grants P (record { key = k; wish = w }) → Made k (effect w o)
  effect_made k (Always a) o p = act_made k a o p
  effect_made k (IfMet e a) o p = by_test (Made k) (met e o) (λ q. act_made k a o p) (λ q. tt)

  under_all : (k : ℕ) (o : Option Reference) (e : Effect) → Kept k o → Made k e → All P (under k o e)
  under_all k O.none Leave h m = none
  under_all k (some r) Leave h m = one h none
  under_all k o (Add r) h m = one m none
  under_all k o (Replace r) h m = one m none
  under_all k o Remove h m = none

  pub step_all : (t : Task) {es : List Entry} → Grants P t → All P es → All P (step t es)
  step_all t {es} g h =
      all_append (all_below t.key h)
      (all_append (under_all t.key (held t.key es) (effect_on t es) (first_kept t.key (all_from t.key h)) (effect_made t.key t.wish (held t.key es) g))
      (all_above t.key (all_from t.key h)))

  pub list_all : {ts : List Task} {es : List Entry} → All (Grants P) ts → All P es → All P (plain_list ts es)
  list_all none h = h
  list_all (one {x = t} g gs) h = list_all gs (step_all t g h)

-- A KEY THAT DOES NOTHING leaves the list as it is

idle : (e : Effect) → alters e ≡ false → e ≡ Leave
idle Leave q = refl
idle (Add r) q = absurd (true≢false q)
idle (Replace r) q = absurd (true≢false q)
idle Remove q = absurd (true≢false q)

idle_from : (k : ℕ) (fs : List Entry) → under k (first k fs) Leave ++ above k fs ≡ fs
idle_from k [] = refl
idle_from k (e ∷ fs) = go (eqb e.key k) refl
  where
    go : (t : Bool) → eqb e.key k ≡ t → under k (cond t (some (reference_of e)) O.none) Leave ++ cond t fs (e ∷ fs) ≡ e ∷ fs
    go true q = ap (λ (j : ℕ). record { key = j; place = e.place; size = e.size } ∷ fs) (sym (eqb-true e.key k q))
    go false q = refl

-- a list is what is below a key, what is held under it, and what is above it
pub joined_again : (k : ℕ) (es : List Entry) → below k es ++ (under k (held k es) Leave ++ above k (from k es)) ≡ es
joined_again k es = ap (below k es ++◌) (idle_from k (from k es)) ∙ cut k es

pub step_idle : (t : Task) (es : List Entry) → alters (effect_on t es) ≡ false → step t es ≡ es
step_idle t es q =
    ap (λ (x : Effect). below t.key es ++ (under t.key (held t.key es) x ++ above t.key (from t.key es))) (idle (effect_on t es) q)
    ∙ joined_again t.key es

-- LENGTHS: a key adds one entry at most, and a removal none

under_long : (k : ℕ) (o : Option Reference) (e : Effect) → length (under k o e) ≤ 1
under_long k O.none Leave = omega arith
under_long k (some r) Leave = omega arith
under_long k o (Add r) = omega arith
under_long k o (Replace r) = omega arith
under_long k o Remove = omega arith

above_long : (k : ℕ) (fs : List Entry) → length (above k fs) ≤ length fs
above_long k [] = omega arith
above_long k (e ∷ fs) = by_test (λ (r : List Entry). length r ≤ suc (length fs)) (eqb e.key k) (λ q. omega arith) (λ q. omega arith)

parts_long : (t : Task) (es : List Entry) → length (step t es) ≤ length (under t.key (held t.key es) (effect_on t es)) + length es
parts_long t es =
    let k = t.key in
    omega (
      arith,
      length-append (below k es) (under k (held k es) (effect_on t es) ++ above k (from k es)),
      length-append (under k (held k es) (effect_on t es)) (above k (from k es)),
      above_long k (from k es),
      sym (length-append (below k es) (from k es)) ∙ ap length (cut k es),
    )

pub step_long : (t : Task) (es : List Entry) → length (step t es) ≤ suc (length es)
step_long t es = omega (arith, parts_long t es, under_long t.key (held t.key es) (effect_on t es))

pub list_long : (ts : List Task) (es : List Entry) → length (plain_list ts es) ≤ length es + length ts
list_long [] es = omega arith
list_long (t ∷ ts) es = omega (arith, list_long ts (step t es), step_long t es)

removed : (k : ℕ) (o : Option Reference) → under k o (effect (Always Do.Remove) o) ≡ []
removed k O.none = refl
removed k (some r) = refl

pub step_shrinks : (t : Task) (es : List Entry) → t.wish ≡ Always Do.Remove → length (step t es) ≤ length es
step_shrinks t es e =
    let gone : under t.key (held t.key es) (effect_on t es) ≡ [] = rw e (removed t.key (held t.key es)) in
    omega (arith, parts_long t es, ap length gone)

-- KEYS THAT DIFFER MAY CHANGE PLACES

-- a key below another: the entries that the upper one may touch stand behind those that the lower one may
module _ (t u : Task) (lt : t.key < u.key) {es : List Entry} (s : Sorted es) where
  low : List Entry
  low = below u.key es

  high : List Entry
  high = from u.key es

  parted : es ≡ low ++ high
  unfolding low high
  parted = sym (cut u.key es)

  low_under : Under u.key low
  unfolding low
  low_under = below_under u.key es

  high_over : Over t.key high
  unfolding high
  high_over = all_map (λ e g. omega arith) (from_least u.key s)

  low_still : Under u.key (step t low)
  low_still = step_all (λ e. e.key < u.key) t (granted (λ e. e.key < u.key) t (λ r. lt)) low_under

  high_still : Over t.key (step u high)
  high_still = step_all (λ e. t.key < e.key) u (granted (λ e. t.key < e.key) u (λ r. lt)) high_over

  lower_done : step t es ≡ step t low ++ high
  lower_done = ap (step t) parted ∙ step_back_lem t low high_over

  upper_done : step u es ≡ low ++ step u high
  upper_done = ap (step u) parted ∙ step_front u high low_under

  pub swap_steps : step t (step u es) ≡ step u (step t es)
  swap_steps =
      ap (step t) upper_done ∙ step_back_lem t low high_still
      ∙ sym (ap (step u) lower_done ∙ step_front u high low_still)

  pub lower_effect : effect_on t (step u es) ≡ effect_on t es
  lower_effect =
      ap (effect_on t) upper_done ∙ effect_back t low high_still ∙ sym (ap (effect_on t) parted ∙ effect_back t low high_over)

  pub upper_effect : effect_on u (step t es) ≡ effect_on u es
  upper_effect =
      ap (effect_on u) lower_done ∙ effect_front u high low_still ∙ sym (ap (effect_on u) parted ∙ effect_front u high low_under)

pub record Swaps (t u : Task) (es : List Entry) : Type 0 where
  pub list : step t (step u es) ≡ step u (step t es)
  pub effect : effect_on t (step u es) ≡ effect_on t es
  pub other : effect_on u (step t es) ≡ effect_on u es

step_swap : (t u : Task) {es : List Entry} → t.key ≢ u.key → Sorted es → Swaps t u es
step_swap t u {es} ne s = by (dec_lt t.key u.key)
  where
    by : Dec (t.key < u.key) → Swaps t u es
    by (yes lt) = record { list = swap_steps t u lt s; effect = lower_effect t u lt s; other = upper_effect t u lt s }
    by (no ge) =
        let lt : u.key < t.key = omega arith in
        record { list = sym (swap_steps u t lt s); effect = upper_effect u t lt s; other = lower_effect u t lt s }

-- tasks with no key of another's
abbrev pub Differs : Task → List Task → Type 0
Differs t us = All (λ u. t.key ≢ u.key) us

pub record Passes (t : Task) (us : List Task) (es : List Entry) : Type 0 where
  pub list : step t (plain_list us es) ≡ plain_list us (step t es)
  pub effect : effect_on t (plain_list us es) ≡ effect_on t es
  pub counts : (c : Counts) → plain_counts us (step t es) c ≡ plain_counts us es c

-- a key passes a batch
passes : (t : Task) {us : List Task} {es : List Entry} → Differs t us → Sorted es → Passes t us es
passes t none s = record { list = refl; effect = refl; counts = λ c. refl }
passes t {es = es} (one {x = u} {xs = us} ne nes) s =
    let one-swap : Swaps t u es = step_swap t u ne s in
    let rest : Passes t us (step u es) = passes t nes (step_sorted u s) in
    record {
      list = rest.list ∙ ap (plain_list us) one-swap.list;
      effect = rest.effect ∙ one-swap.effect;
      counts = λ c.
          ap (λ (fs : List Entry). plain_counts us fs (count (effect_on u (step t es)) c)) (sym one-swap.list)
          ∙ rest.counts (count (effect_on u (step t es)) c) ∙ ap (λ (f : Effect). plain_counts us (step u es) (count f c)) one-swap.other;
    }

-- two batches that share no key
pub list_swap : {us ts : List Task} {es : List Entry} → All (λ t. Differs t us) ts → Sorted es → plain_list us (plain_list ts es) ≡ plain_list ts (plain_list us es)
list_swap none s = refl
list_swap {us = us} {es = es} (one {x = t} {xs = ts} d ds) s =
    list_swap ds (step_sorted t s) ∙ ap (plain_list ts) (sym (passes t d s).list)

pub counts_swap : {us ts : List Task} {es : List Entry} (c : Counts) → All (λ t. Differs t us) ts → Sorted es → plain_counts ts (plain_list us es) c ≡ plain_counts ts es c
counts_swap c none s = refl
counts_swap {us = us} {es = es} c (one {x = t} {xs = ts} d ds) s =
    ap (λ (f : Effect). plain_counts ts (step t (plain_list us es)) (count f c)) (passes t d s).effect
    ∙ ap (λ (fs : List Entry). plain_counts ts fs (count (effect_on t es) c)) (passes t d s).list
    ∙ counts_swap (count (effect_on t es) c) ds (step_sorted t s)
