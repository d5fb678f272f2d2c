-- Of trees: a separator is the last key below it, totals are those of the list of entries, and slots are counted level by level.
-- Assumes nothing.
use mathlib.Core.Path.{◌≡◌, refl, sym, ap, ◌∙◌}
use mathlib.Core.Bool.{Bool, true, false, cond}
use mathlib.Core.List.{List, [], ◌∷◌, ◌++◌, map, reverse_aux, append_assoc, append-nil}
use Prim.Native.Nat.{ℕ, zero, suc, ◌+◌, ◌*◌, ◌≤◌, ◌<◌}
use native.Mathlib.Omega.{arith}
use native.Mathlib.Decide.{ℕ_discrete, dec_lt}
use native.Mathlib.Nat.{mul-suc, mul-zero, mul-add, le_trans}
use lib.Dec.{ltb}
use lib.ListN.{length, length-append}
use borrow.Author.Tests.{lt-ltb, le-ltb}
use Rattle.model.specs.declared.Entry.{Entry}
use Rattle.model.specs.declared.Totals.{Totals}
use Rattle.model.specs.declared.Settings.{Settings}
use Rattle.model.specs.Lists.{concat, hit, times, All, none, one}
use Rattle.model.specs.Tree.{Node, Item, Tree, Index, len, entries, slots, slots_of, greatest_key, last_of, total, is_live, adds, plus, sum_of, no_totals}
use Rattle.model.specs.Sound.{Whole, Rooted, Sorted, Fits, Once, Sound}
use Rattle.model.specs.Promises.{flat, joined, back}
use Rattle.model.proofs.Lists.{by_test, all_append, all_right, all_map, ordered_apart, parts_append, times_append, hit_same, hit_other}
use Rattle.model.proofs.Plain.{Under, Over}

-- ENTRIES OF ITEMS SIDE BY SIDE

pub flat_append : (h : ℕ) (xs ys : List (Item h)) → flat h (xs ++ ys) ≡ flat h xs ++ flat h ys
flat_append h xs ys = parts_append (entries h) xs ys

pub flat_three : (h : ℕ) (a b c : List (Item h)) → flat h (a ++ (b ++ c)) ≡ flat h a ++ (flat h b ++ flat h c)
flat_three h a b c = flat_append h a (b ++ c) ∙ ap (flat h a ++◌) (flat_append h b c)

pub flat_zero : (es : List Entry) → flat zero es ≡ es
flat_zero [] = refl
flat_zero (e ∷ es) = ap (e ∷◌) (flat_zero es)

pub joined_append : {X : Type 0} (xs ys : List (Node X)) → joined (xs ++ ys) ≡ joined xs ++ joined ys
joined_append xs ys = parts_append (λ n. n.items) xs ys

pub flat_joined : (h : ℕ) (ns : List (Node (Item h))) → flat (suc h) ns ≡ flat h (joined ns)
flat_joined h [] = refl
flat_joined h (n ∷ ns) = ap (flat h n.items ++◌) (flat_joined h ns) ∙ sym (flat_append h n.items (joined ns))

pub back_joined : {X : Type 0} (before rest : List (Node X)) → joined (reverse_aux before rest) ≡ back before ++ joined rest
back_joined [] rest = refl
back_joined (c ∷ before) rest = back_joined before (c ∷ rest) ∙ sym (append_assoc (back before) c.items (joined rest))

-- A SEPARATOR IS THE LAST KEY

-- a list whose last key is k
pub record Ends (es : List Entry) (k : ℕ) : Type 0 where
  pub init : List Entry
  pub last : Entry
  pub whole : es ≡ init ++ (last ∷ [])
  pub key : last.key ≡ k

ends_append : (a : List Entry) {b : List Entry} {k : ℕ} → Ends b k → Ends (a ++ b) k
ends_append a e =
    record { init = a ++ e.init; last = e.last; whole = ap (a ++◌) e.whole ∙ sym (append_assoc a e.init (e.last ∷ [])); key = e.key }

ends_nil : {b : List Entry} {k : ℕ} → Ends b k → Ends (b ++ []) k
ends_nil {b} e = record { init = e.init; last = e.last; whole = append-nil b ∙ e.whole; key = e.key }

row_ends : (st : Settings) (h : ℕ) → ((i : Item h) → Whole st h i → Ends (entries h i) (greatest_key h i))
    → (x : Item h) (xs : List (Item h)) → All (Whole st h) (x ∷ xs) → Ends (flat h (x ∷ xs)) (last_of (map (greatest_key h) (x ∷ xs)))
row_ends st h f x [] (one w ws) = ends_nil (f x w)
row_ends st h f x (y ∷ xs) (one w ws) = ends_append (entries h x) (row_ends st h f y xs ws)

node_ends : (st : Settings) (h : ℕ) → ((i : Item h) → Whole st h i → Ends (entries h i) (greatest_key h i))
    → (xs : List (Item h)) → 0 < length xs → All (Whole st h) xs → Ends (flat h xs) (last_of (map (greatest_key h) xs))
node_ends st h f [] t ws = absurd (omega arith)
node_ends st h f (x ∷ xs) t ws = row_ends st h f x xs ws

pub separator_ends : (st : Settings) (h : ℕ) (i : Item h) → Whole st h i → Ends (entries h i) (greatest_key h i)
separator_ends st zero e w = record { init = []; last = e; whole = refl; key = refl }
separator_ends st (suc h) n w = node_ends st h (separator_ends st h) n.items w.0.some w.1

pub ends_over : {es fs : List Entry} {k : ℕ} → Ends es k → Sorted (es ++ fs) → Over k fs
ends_over {es} {fs} {k} e s =
    let s2 : Sorted ((e.init ++ (e.last ∷ [])) ++ fs) = rw e.whole at s in
    pick e.key (all_right e.init (e.last ∷ []) (ordered_apart (e.init ++ (e.last ∷ [])) fs s2))
  where
    pick : e.last.key ≡ k → All (λ x. All (λ y. x.key < y.key) fs) (e.last ∷ []) → Over k fs
    pick q (one g gs) = all_map (λ x p. omega arith) g

pub ends_under : {es : List Entry} {k m : ℕ} → Ends es k → Sorted es → k < m → Under m es
ends_under {es} {k} {m} e s h =
    let s2 : Sorted (e.init ++ (e.last ∷ [])) = rw e.whole at s in
    rw e.whole (all_append (all_map (λ x p. first x p) (ordered_apart e.init (e.last ∷ []) s2)) (one (rw e.key h) none))
  where
    first : (x : Entry) → All (λ y. x.key < y.key) (e.last ∷ []) → x.key < m
    first x (one g gs) = let q : e.last.key ≡ k = e.key in omega arith

-- TOTALS ARE THOSE OF THE LIST

pub plus_zero : (t : Totals) → plus t no_totals ≡ t
plus_zero t = same (omega arith) (omega arith) (omega arith)
  where
    same : t.live + 0 ≡ t.live → t.dead + 0 ≡ t.dead → t.size + 0 ≡ t.size → plus t no_totals ≡ t
    same p q r = λ j. record { live = p j; dead = q j; size = r j }

pub zero_plus : (t : Totals) → plus no_totals t ≡ t
zero_plus t = same (omega arith) (omega arith) (omega arith)
  where
    same : 0 + t.live ≡ t.live → 0 + t.dead ≡ t.dead → 0 + t.size ≡ t.size → plus no_totals t ≡ t
    same p q r = λ j. record { live = p j; dead = q j; size = r j }

pub plus_assoc : (a b c : Totals) → plus (plus a b) c ≡ plus a (plus b c)
plus_assoc a b c = same (omega arith) (omega arith) (omega arith)
  where
    same : a.live + b.live + c.live ≡ a.live + (b.live + c.live) → a.dead + b.dead + c.dead ≡ a.dead + (b.dead + c.dead)
        → a.size + b.size + c.size ≡ a.size + (b.size + c.size) → plus (plus a b) c ≡ plus a (plus b c)
    same p q r = λ j. record { live = p j; dead = q j; size = r j }

-- the totals of entries, one by one
abbrev pub list_totals : List Entry → Totals
list_totals es = sum_of (map adds es)

pub totals_append : (a b : List Entry) → list_totals (a ++ b) ≡ plus (list_totals a) (list_totals b)
totals_append [] b = sym (zero_plus (list_totals b))
totals_append (e ∷ a) b = ap (plus (adds e)) (totals_append a b) ∙ sym (plus_assoc (adds e) (list_totals a) (list_totals b))

total_items : (h : ℕ) → ((i : Item h) → total h i ≡ list_totals (entries h i)) → (xs : List (Item h)) → sum_of (map (total h) xs) ≡ list_totals (flat h xs)
total_items h f [] = refl
total_items h f (x ∷ xs) =
    ap (λ (t : Totals). plus t (sum_of (map (total h) xs))) (f x) ∙ ap (plus (list_totals (entries h x))) (total_items h f xs)
    ∙ sym (totals_append (entries h x) (flat h xs))

pub total_list : (h : ℕ) (i : Item h) → total h i ≡ list_totals (entries h i)
total_list zero e = sym (plus_zero (adds e))
total_list (suc h) n = total_items h (total_list h) n.items

-- each entry is live or dead
live_or_dead : (b : Bool) → cond {A = ℕ} b 1 0 + cond b 0 1 ≡ 1
live_or_dead true = refl
live_or_dead false = refl

pub totals_count : (es : List Entry) → (list_totals es).live + (list_totals es).dead ≡ length es
totals_count [] = refl
totals_count (e ∷ es) = omega (arith, live_or_dead (is_live e), totals_count es)

-- an entry adds its size at most
pub adds_most : (e : Entry) → (adds e).size ≤ e.size
adds_most e = by_test (◌≤ e.size) (is_live e) (λ _. omega arith) (λ _. omega arith)

-- sizes of 32 bits add up to little
pub sizes_few : {es : List Entry} → All Fits es → (list_totals es).size ≤ length es * 4294967296
sizes_few none = omega arith
sizes_few (one {x = e} f fs) = omega (arith, f.size, adds_most e, sizes_few fs)

-- SLOTS, counted

-- the slots below items side by side
abbrev pub slots_in : (h : ℕ) → List (Item h) → List ℕ
slots_in h xs = concat (map (slots h) xs)

-- the slots of nodes side by side, not of what is below them
abbrev pub own : {X : Type 0} → ℕ → List (Node X) → ℕ
own s [] = 0
own s (n ∷ ns) = hit s n.slot + own s ns

module _ (s : ℕ) where
  pub own_append : {X : Type 0} (a b : List (Node X)) → own s (a ++ b) ≡ own s a + own s b
  own_append [] b = omega arith
  own_append (n ∷ a) b = omega (arith, own_append a b)

  pub own_turned : {X : Type 0} (a b : List (Node X)) → own s (reverse_aux a b) ≡ own s a + own s b
  own_turned [] b = omega arith
  own_turned (n ∷ a) b = omega (arith, own_turned a (n ∷ b))

  pub slots_append : (h : ℕ) (a b : List (Item h)) → times s (slots_in h (a ++ b)) ≡ times s (slots_in h a) + times s (slots_in h b)
  slots_append h a b = ap (times s) (parts_append (slots h) a b) ∙ times_append s (slots_in h a) (slots_in h b)

  pub slots_three : (h : ℕ) (a b c : List (Item h)) → times s (slots_in h (a ++ (b ++ c))) ≡ times s (slots_in h a) + (times s (slots_in h b) + times s (slots_in h c))
  slots_three h a b c = omega (arith, slots_append h a (b ++ c), slots_append h b c)

  pub slots_joined : (h : ℕ) (ns : List (Node (Item h))) → times s (slots_in (suc h) ns) ≡ own s ns + times s (slots_in h (joined ns))
  slots_joined h [] = omega arith
  slots_joined h (n ∷ ns) =
      omega (arith, slots_joined h ns, times_append s (slots (suc h) n) (slots_in (suc h) ns), slots_append h n.items (joined ns))

  -- the entries of a leaf take no slot
  pub slots_leaf : (es : List Entry) → times s (slots_in zero es) ≡ 0
  slots_leaf [] = refl
  slots_leaf (e ∷ es) = slots_leaf es

-- HOW MANY ENTRIES: at most order for each node

-- the root has at most order items
pub root_few : (st : Settings) (h : ℕ) (n : Tree h) → Rooted st h n → len n ≤ st.order
root_few st zero n r = r
root_few st (suc h) n r = r.1

items_few : (st : Settings) (h : ℕ) → ((i : Item (suc h)) → Whole st (suc h) i → length (entries (suc h) i) ≤ st.order * length (slots (suc h) i))
    → {xs : List (Item (suc h))} → All (Whole st (suc h)) xs → length (flat (suc h) xs) ≤ st.order * length (slots_in (suc h) xs)
items_few st h f none = omega arith
items_few st h f (one {x = x} {xs = xs} w ws) =
    omega (
      arith,
      length-append (entries (suc h) x) (flat (suc h) xs),
      f x w,
      items_few st h f ws,
      mul-add st.order (length (slots (suc h) x)) (length (slots_in (suc h) xs)),
      ap (λ (n : ℕ). st.order * n) (length-append (slots (suc h) x) (slots_in (suc h) xs)),
    )

leaf_long : (es : List Entry) → length (flat zero es) ≡ length es
leaf_long es = ap length (flat_zero es)

pub leaf_bare : (es : List Entry) → length (slots_in zero es) ≡ 0
leaf_bare [] = refl
leaf_bare (e ∷ es) = leaf_bare es

pub entries_few : (st : Settings) (h : ℕ) (n : Tree h) → len n ≤ st.order → All (Whole st h) n.items → length (entries (suc h) n) ≤ st.order * length (slots (suc h) n)
entries_few st zero n few w = omega (arith, leaf_long n.items, leaf_bare n.items, mul-suc st.order (length (slots_in zero n.items)), mul-zero st.order, ap (λ (k : ℕ). st.order * k) (leaf_bare n.items))
entries_few st (suc h) n few w =
    le_trans (items_few st h (λ i g. entries_few st h i g.0.few g.1) w) (omega (arith, mul-suc st.order (length (slots_in (suc h) n.items))))

-- EVERY SLOT ONCE: the used and the unused ones are as many as the nodes

-- how many elements of a list are below n, counted number by number
abbrev tally : ℕ → List ℕ → ℕ
tally zero l = 0
tally (suc n) l = times n l + tally n l

tally_nil : (n : ℕ) → tally n [] ≡ 0
tally_nil zero = refl
tally_nil (suc n) = omega (arith, tally_nil n)

tally_cons : (n x : ℕ) (l : List ℕ) → tally n (x ∷ l) ≡ tally n (x ∷ []) + tally n l
tally_cons zero x l = refl
tally_cons (suc n) x l = omega (arith, tally_cons n x l)

tally_past : (n x : ℕ) → n ≤ x → tally n (x ∷ []) ≡ 0
tally_past zero x le = refl
tally_past (suc n) x le = omega (arith, hit_other n x (λ e. omega arith), tally_past n x (omega arith))

tally_one : (n x : ℕ) → x < n → tally n (x ∷ []) ≡ 1
tally_one zero x lt = absurd (omega arith)
tally_one (suc n) x lt = by (ℕ_discrete n x) (λ l. tally_one n x l)
  where
    by : Dec (n ≡ x) → (x < n → tally n (x ∷ []) ≡ 1) → hit n x + 0 + tally n (x ∷ []) ≡ 1
    by (yes e) again = omega (arith, hit_same n x e, tally_past n x (omega arith))
    by (no ne) again = let le : x < n = omega arith in omega (arith, hit_other n x ne, again le)

tally_all : (n : ℕ) {l : List ℕ} → All (λ x. x < n) l → tally n l ≡ length l
tally_all n none = tally_nil n
tally_all n (one {x = x} {xs = l} h hs) = omega (arith, tally_cons n x l, tally_one n x h, tally_all n hs)

none_past : (n : ℕ) (l : List ℕ) → ((s : ℕ) → n ≤ s → times s l ≡ 0) → All (λ x. x < n) l
none_past n [] f = none
none_past n (x ∷ l) f = one (by (dec_lt x n)) (none_past n l (λ s le. omega (arith, f s le)))
  where
    by : Dec (x < n) → x < n
    by (yes lt) = lt
    by (no ge) = let le : n ≤ x = omega arith in absurd (omega (arith, f x le, hit_same x x refl))

tally_ones : (n : ℕ) (l : List ℕ) → ((s : ℕ) → s < n → times s l ≡ 1) → tally n l ≡ n
tally_ones zero l f = refl
tally_ones (suc n) l f =
    let last : times n l ≡ 1 = f n (omega arith) in
    let rest : tally n l ≡ n = tally_ones n l (λ s lt. f s (omega arith)) in
    omega arith

once_in : (s n k : ℕ) → k ≡ cond (ltb s n) 1 0 → s < n → k ≡ 1
once_in s n k e lt = e ∙ rw (lt-ltb s n lt)

once_past : (s n k : ℕ) → k ≡ cond (ltb s n) 1 0 → n ≤ s → k ≡ 0
once_past s n k e le = e ∙ rw (le-ltb s n le)

-- unused is N less the nodes in use
pub once_count : (n : ℕ) (used unused : List ℕ) → Once n used unused → length used + length unused ≡ n
once_count n used unused f =
    let all : List ℕ = used ++ unused in
    let each : (s : ℕ) → times s (used ++ unused) ≡ cond (ltb s n) 1 0 = λ s. times_append s used unused ∙ f s in
    let few : All (λ x. x < n) (used ++ unused) = none_past n (used ++ unused) (λ s le. once_past s n _ (each s) le) in
    let full : tally n (used ++ unused) ≡ n = tally_ones n (used ++ unused) (λ s lt. once_in s n _ (each s) lt) in
    omega (arith, tally_all n few, length-append used unused)

-- a sound index has at most a node for each slot, whatever is in use elsewhere
pub used_most : (st : Settings) {elsewhere : List ℕ} (x : Index) → Sound st elsewhere x → length (slots_of x) ≤ st.nodes
used_most st {elsewhere} x s =
    omega (arith, once_count st.nodes (elsewhere ++ slots_of x) x.unused s.once, length-append elsewhere (slots_of x))
