-- A batch on a tree does what it does to the plain list, with its counts, and takes every task; the tree stays in shape, its slots once each.
-- Assumes nothing.
use mathlib.Core.Path.{◌≡◌, refl, sym, ap, ◌∙◌}
use mathlib.Core.Logic.{◌⊎◌, inl, inr}
use mathlib.Core.Bool.{false, true≢false}
use mathlib.Core.List.{List, [], ◌∷◌, ◌++◌, append-nil}
use Prim.Native.Nat.{ℕ, zero, suc, ◌+◌, ◌*◌, ◌≤◌, ◌<◌, max}
use native.Mathlib.Omega.{arith}
use native.Mathlib.Nat.{le_refl, le_trans, mul-suc, mul-zero}
use lib.ListN.{length, take, drop, take-append-drop}
use Rattle.model.specs.declared.Counts.{Counts}
use Rattle.model.specs.declared.Settings.{Settings}
use Rattle.model.specs.Lists.{hit, times, All, none, one, nil}
use Rattle.model.specs.Tree.{Item, Tree, Index, len, depth, slots, entries_of, slots_of, lowest, others, release}
use Rattle.model.specs.Plain.{Task, plain_list, plain_counts, no_counts}
use Rattle.model.specs.Share.{half}
use Rattle.model.specs.declared.ChangeResult.{ChangeResult}
use Rattle.model.specs.declared.ChangeResult.TheVariants.{Unchanged, Remove, Split, Absorb, Changed}
use Rattle.model.specs.Change.{is_change, Run, Outcome, change, no_ceiling, cut_root, settle_root, Batched, change_root, collapse, batch}
use Rattle.model.specs.Refuse.{needed}
use Rattle.model.specs.Sound.{InLimits, Stocked, Whole, Rooted, Sorted, Ascending}
use Rattle.model.specs.Promises.{flat, OverFull, Says, Rising, Removing, Given, Ready, Enough}
use Rattle.model.proofs.Lists.{all_left, all_right, all_head, times_append}
use Rattle.model.proofs.Plain.{list_sorted}
use Rattle.model.proofs.Trees.{flat_append, slots_in, slots_append}
use Rattle.model.proofs.Settles.{times_release, length_others, others_up, release_up, Fair, half_fair, cut_stocked}
use Rattle.model.proofs.Changes.{Did, did_none, did_then, did_left, did_rising, stocked_ready, Owes, change_law, interior_strolled}

-- THE ROOT'S RESULT

-- a root that a batch may be run on: in order, nothing empty but a lone leaf
pub record Fine (st : Settings) (x : Index) : Type 0 where
  pub whole : All (Whole st x.height) x.root.items
  pub sorted : Sorted (entries_of x)
  pub ready : Ready st x.height x.root

pub ready_few : (st : Settings) (h : ℕ) (n : Tree h) → Ready st h n → len n ≤ st.order
ready_few st zero n r = r
ready_few st (suc h) n r = r.few

module _ (st : Settings) (lim : InLimits st) where
  -- a root cut at k
  cut_list : (k h : ℕ) (t : Tree h) (unused : List ℕ) → entries_of (cut_root k h t unused) ≡ flat h t.items
  cut_list k h t unused =
      ap (flat h (take k t.items) ++◌) (append-nil (flat h (drop k t.items)))
      ∙ sym (flat_append h (take k t.items) (drop k t.items)) ∙ ap (flat h) (take-append-drop k t.items)

  cut_whole : (k h : ℕ) (t : Tree h) (unused : List ℕ) → All (Whole st h) t.items → Fair st k (len t)
      → All (Whole st (suc h)) (cut_root k h t unused).root.items
  cut_whole k h t unused w f =
      let v : All (Whole st h) (take k t.items ++ drop k t.items) = rw (take-append-drop k t.items) w in
      let parts = cut_stocked {X = Item h} k (record { slot = lowest unused; items = t.items }) (lowest (others unused)) f in
      one (parts.0, all_left _ _ v) (one (parts.1, all_right (take k t.items) _ v) none)

  cut_slots : (s k h : ℕ) (t : Tree h) (unused : List ℕ) → 2 ≤ length unused
      → times s (slots_of (cut_root k h t unused)) + times s (cut_root k h t unused).unused ≡ times s (slots (suc h) t) + times s unused
  cut_slots s k h t [] two = absurd (omega arith)
  cut_slots s k h t (a ∷ []) two = absurd (omega arith)
  cut_slots s k h t (a ∷ (b ∷ unused)) two =
      let lo : List (Item h) = take k t.items in
      let hi : List (Item h) = drop k t.items in
      omega (
        arith,
        times_append s (slots_in h lo) (b ∷ (slots_in h hi ++ [])),
        times_append s (slots_in h hi) [],
        slots_append s h lo hi,
        ap (λ (z : List (Item h)). times s (slots_in h z)) (take-append-drop k t.items),
      )

  pub record RootSettled (r : ChangeResult) (h : ℕ) (t : Tree h) (unused : List ℕ) (y : Index) : Type 0 where
    pub list : entries_of y ≡ flat h t.items
    pub fine : Fine st y
    pub root_slot : y.root.slot ≡ t.slot
    pub slots : (r ≡ Split → 2 ≤ length unused) → (s : ℕ) → times s (slots_of y) + times s y.unused ≡ times s (slots (suc h) t) + times s unused
    pub taken : length unused ≤ 2 + length y.unused
    pub height : y.height ≤ suc h
    pub lower : (r ≡ Split → ⊥) → (y.height ≤ h) × ((s : ℕ) → times s unused ≤ times s y.unused)
    pub up : Ascending unused → Ascending y.unused

  stays : (r : ChangeResult) (h : ℕ) (t : Tree h) (unused : List ℕ) → All (Whole st h) t.items → Sorted (flat h t.items) → Ready st h t
      → RootSettled r h t unused (record { height = h; root = t; unused = unused })
  stays r h t unused w s g =
      record {
        list = refl;
        fine = record { whole = w; sorted = s; ready = g };
        root_slot = refl;
        slots = λ e i. refl;
        taken = omega arith;
        height = omega arith;
        lower = λ ns. (le_refl h, λ i. le_refl _);
        up = λ a. a;
      }

  same_ready : (h : ℕ) (n t : Tree h) → Ready st h n → len t ≡ len n → Ready st h t
  same_ready zero n t g e = omega (arith, g, e)
  same_ready (suc h) n t g e = record { some = omega (arith, g.some, e); few = omega (arith, g.few, e) }

  pub root_settled : (r : ChangeResult) (h : ℕ) (n t : Tree h) (unused : List ℕ) → All (Whole st h) t.items → Sorted (flat h t.items) → Ready st h n
      → ((is_change r ≡ false → Stocked st n) → Says st r t) → (is_change r ≡ false → len t ≡ len n) → RootSettled r h t unused (settle_root r h t unused)
  root_settled Unchanged h n t unused w s g says kept = stays Unchanged h t unused w s (same_ready h n t g (kept refl))
  root_settled Changed h n t unused w s g says kept = stays Changed h t unused w s (stocked_ready st h t (says (λ q. absurd (true≢false q))))
  root_settled Absorb h n t unused w s g says kept = stays Absorb h t unused w s (stocked_ready st h t (says (λ q. absurd (true≢false q))))
  root_settled Split h n t unused w s g says kept =
      let o : OverFull st t = says (λ q. absurd (true≢false q)) in
      let k : ℕ = half (len t) in
      let fair : Fair st (half (len t)) (len t) = half_fair st lim (len t) o.over o.twice in
      record {
        list = cut_list k h t unused;
        fine = record { whole = cut_whole k h t unused w fair; sorted = rw (cut_list k h t unused) s; ready = record { some = omega arith; few = omega (arith, lim.wide) } };
        root_slot = refl;
        slots = λ two i. cut_slots i k h t unused (two refl);
        taken = omega (arith, length_others unused, length_others (others unused));
        height = omega arith;
        lower = λ ns. absurd (ns refl);
        up = λ a. others_up (others_up a);
      }
  root_settled Remove h n t unused w s g says kept =
      let e : t.items ≡ [] = says (λ q. absurd (true≢false q)) in
      record {
        list = rw e refl;
        fine = record { whole = none; sorted = nil; ready = omega arith };
        root_slot = refl;
        slots = λ two i. rw e refl;
        taken = omega arith;
        height = omega arith;
        lower = λ ns. (omega arith, λ i. le_refl _);
        up = λ a. a;
      }

-- ROOM: what refusal 7 asks for, by the height

-- how many slots a call of the root may spend, at a height, of n tasks with m left
abbrev Spent : ℕ → ℕ → ℕ → ℕ → ℕ → Type 0
Spent h n m a b = a + m * h ≤ b + n * h

needed_is : (h n : ℕ) → needed n (suc (suc h)) ≡ n * suc (suc h) + 4
needed_is h n = ap (λ (m : ℕ). n * m + 4) (larger h)
  where
    larger : (g : ℕ) → max (suc (suc g)) 2 ≡ suc (suc g)
    larger g = omega arith

-- it is enough for the call, leaves two slots for a split root, and is enough for the tasks left
for_call : (h n a : ℕ) → needed n (suc h) ≤ a → n * h ≤ a
for_call zero n a room = omega (arith, mul-zero n)
for_call (suc h) n a room = omega (arith, needed_is h n, mul-suc n (suc h))

two_left : (h n m a b : ℕ) → m < n → Spent h n m a b → needed n (suc h) ≤ a → 2 ≤ b
two_left zero n m a b lt sp room = omega (arith, mul-zero n, mul-zero m)
two_left (suc h) n m a b lt sp room = omega (arith, needed_is h n, mul-suc n (suc h))

room_same : (h n m a b : ℕ) → m < n → Spent h n m a b → needed n (suc h) ≤ a → needed m (suc h) ≤ b
room_same zero n m a b lt sp room = omega (arith, mul-zero n, mul-zero m)
room_same (suc h) n m a b lt sp room = omega (arith, needed_is h n, needed_is h m, mul-suc n (suc h), mul-suc m (suc h))

room_gone : (h n m a b : ℕ) → m < n → Spent h n m a b → needed n (suc h) ≤ a → needed m 1 ≤ b
room_gone zero n m a b lt sp room = omega (arith, mul-zero n, mul-zero m)
room_gone (suc h) n m a b lt sp room = omega (arith, needed_is h n, mul-suc n (suc h), mul-suc m h)

room_split : (n m a b c : ℕ) → m < n → Spent 0 n m a b → needed n 1 ≤ a → b ≤ 2 + c → needed m 2 ≤ c
room_split n m a b c lt sp room two = omega (arith, mul-zero n, mul-zero m)

abbrev pub Room : Index → List Task → Type 0
Room x ts = (needed (length ts) (depth x) ≤ length x.unused) ⊎ Removing ts

-- a depth below 8, or removals alone
abbrev pub Headroom : Index → List Task → Type 0
Headroom x ts = (x.height ≤ 6) ⊎ ((x.height ≤ 7) × Removing ts)

no_tasks : {ts : List Task} → ts ≡ [] → Removing ts
no_tasks e = rw e none

module _ (st : Settings) (lim : InLimits st) where
  -- ONE CALL of the root: what it is handed, what it makes of the root, the index once its result is settled, and what it owes
  module _ (x : Index) (t : Task) (ts : List Task) (c : Counts) (f : Fine st x) (rising : Rising (t ∷ ts)) (short : suc (length ts) ≤ st.order)
      (low : All (λ u. u.key ≤ no_ceiling) (t ∷ ts)) where
    unfoldable pub calling : Run
    calling = record { unused = x.unused; counts = c }

    unfoldable pub called : Outcome (Tree x.height)
    called = change st x.height no_ceiling x.root (t ∷ ts) calling

    unfoldable pub after_call : Index
    after_call = settle_root called.result x.height called.node called.run.unused

    pub call_given : Given st x.height x.root (t ∷ ts)
    call_given = record { whole = f.whole; few = ready_few st x.height x.root f.ready; sorted = f.sorted; rising = rising; short = short }

    pub call_owes : Owes st x.height no_ceiling x.root (t ∷ ts) calling called
    unfolding called
    call_owes = change_law st lim x.height no_ceiling x.root (t ∷ ts) calling call_given

    pub call_settled : RootSettled st lim called.result x.height called.node called.run.unused after_call
    unfolding after_call
    call_settled =
        root_settled st lim called.result x.height x.root called.node called.run.unused call_owes.whole
        (rw call_owes.did.list (list_sorted call_owes.did.taken f.sorted)) f.ready call_owes.says (λ q. ap len (call_owes.kept q))

    pub call_fewer : length called.tasks < suc (length ts)
    call_fewer = call_owes.moves f.ready (all_head low)

    -- an interior root's walk ends with no task, or no child
    ends : (h : ℕ) (n : Tree h) → Given st h n (t ∷ ts) → 0 < h
        → ((change st h no_ceiling n (t ∷ ts) calling).tasks ≡ []) ⊎ (len (change st h no_ceiling n (t ∷ ts) calling).node ≡ 0)
    ends zero n g pos = absurd (omega arith)
    ends (suc h) n g pos =
        (interior_strolled st lim h (change st h) (change_law st lim h) no_ceiling n (t ∷ ts) calling g).over (le_refl _) (inr refl) low

    split_over_lem : called.result ≡ Split → OverFull st called.node
    split_over_lem e = rw e at (call_owes.says (λ q. absurd (true≢false (sym (ap is_change e) ∙ q))))

    -- so an interior root that is split has taken all
    split_all : called.result ≡ Split → 0 < x.height → called.tasks ≡ []
    unfolding called
    split_all e pos = by (ends x.height x.root call_given pos)
      where
        by : (called.tasks ≡ []) ⊎ (len called.node ≡ 0) → called.tasks ≡ []
        by (inl q) = q
        by (inr q) = absurd (omega (arith, (split_over_lem e).over, q))

    no_split : Removing (t ∷ ts) → called.result ≡ Split → ⊥
    no_split rem e = omega (arith, (split_over_lem e).over, call_owes.shrinks rem, call_given.few)

    spent : Spent x.height (suc (length ts)) (length called.tasks) (length x.unused) (length called.run.unused)
    unfolding calling
    spent = call_owes.spent

    pub call_enough : Room x (t ∷ ts) → Enough x.height (t ∷ ts) x.unused
    call_enough (inl room) = inl (for_call x.height (suc (length ts)) (length x.unused) room)
    call_enough (inr rem) = inr rem

    pub call_two : Room x (t ∷ ts) → called.result ≡ Split → 2 ≤ length called.run.unused
    call_two (inl room) e = two_left x.height (suc (length ts)) (length called.tasks) (length x.unused) (length called.run.unused) call_fewer spent room
    call_two (inr rem) e = absurd (no_split rem e)

    pub call_slots : Room x (t ∷ ts) → (s : ℕ) → times s (slots_of after_call) + times s after_call.unused ≡ times s (slots_of x) + times s x.unused
    unfolding calling
    call_slots room s = call_settled.slots (call_two room) s ∙ call_owes.slots (call_enough room) s

    -- the room that is left, by the result
    room_left : (r : ChangeResult) (h : ℕ) (n : Tree h) (unused : List ℕ) (left : List Task) → length left < suc (length ts)
        → Spent h (suc (length ts)) (length left) (length x.unused) (length unused) → needed (suc (length ts)) (suc h) ≤ length x.unused
        → (r ≡ Split → 0 < h → left ≡ []) → Room (settle_root r h n unused) left
    room_left Unchanged h n unused left lt sp room all = inl (room_same h (suc (length ts)) (length left) (length x.unused) (length unused) lt sp room)
    room_left Changed h n unused left lt sp room all = inl (room_same h (suc (length ts)) (length left) (length x.unused) (length unused) lt sp room)
    room_left Absorb h n unused left lt sp room all = inl (room_same h (suc (length ts)) (length left) (length x.unused) (length unused) lt sp room)
    room_left Remove h n unused left lt sp room all = inl (room_gone h (suc (length ts)) (length left) (length x.unused) (length unused) lt sp room)
    room_left Split zero n unused left lt sp room all =
        inl (room_split (suc (length ts)) (length left) (length x.unused) (length unused) (length (others (others unused))) lt sp room
        (omega (arith, length_others unused, length_others (others unused))))
    room_left Split (suc h) n unused left lt sp room all = inr (no_tasks (all refl (omega arith)))

    pub call_room : Room x (t ∷ ts) → Room after_call called.tasks
    unfolding after_call
    call_room (inl room) = room_left called.result x.height called.node called.run.unused called.tasks call_fewer spent room split_all
    call_room (inr rem) = inr (did_left call_owes.did rem)

    headroom_left : (r : ChangeResult) (h : ℕ) (n : Tree h) (unused : List ℕ) (left : List Task) → h ≤ 6 → (r ≡ Split → 0 < h → left ≡ []) → Headroom (settle_root r h n unused) left
    headroom_left Unchanged h n unused left le all = inl le
    headroom_left Changed h n unused left le all = inl le
    headroom_left Absorb h n unused left le all = inl le
    headroom_left Remove h n unused left le all = inl (omega arith)
    headroom_left Split zero n unused left le all = inl (omega arith)
    headroom_left Split (suc h) n unused left le all = inr (omega arith, no_tasks (all refl (omega arith)))

    call_headroom : Headroom x (t ∷ ts) → Headroom after_call called.tasks
    unfolding after_call
    call_headroom (inl le) = headroom_left called.result x.height called.node called.run.unused called.tasks le split_all
    call_headroom (inr (le, rem)) = inr (omega (arith, (call_settled.lower (no_split rem)).0), did_left call_owes.did rem)

  -- ALL CALLS

  pub record Ran (x : Index) (ts : List Task) (c : Counts) (b : Batched) : Type 0 where
    pub did : Did no_ceiling ts [] (entries_of x) (entries_of b.index) c b.counts
    pub left : b.tasks ≡ []
    pub fine : Fine st b.index
    pub root_slot : b.index.root.slot ≡ x.root.slot
    pub slots : Room x ts → (s : ℕ) → times s (slots_of b.index) + times s b.index.unused ≡ times s (slots_of x) + times s x.unused
    pub shallow : Headroom x ts → b.index.height ≤ 7
    pub lower : Removing ts → b.index.height ≤ x.height
    pub grows : Removing ts → (s : ℕ) → times s x.unused ≤ times s b.index.unused
    pub up : Ascending x.unused → Ascending b.index.unused

  headroom_low : (x : Index) (ts : List Task) → Headroom x ts → x.height ≤ 7
  headroom_low x ts (inl le) = omega arith
  headroom_low x ts (inr (le, rem)) = le

  ran_none : (x : Index) (c : Counts) → Fine st x → Ran x [] c (record { index = x; tasks = []; counts = c })
  ran_none x c f =
      record {
        did = did_none no_ceiling [] (entries_of x) c;
        left = refl;
        fine = f;
        root_slot = refl;
        slots = λ room s. refl;
        shallow = headroom_low x [];
        lower = λ rem. le_refl _;
        grows = λ rem s. le_refl _;
        up = λ a. a;
      }

  ran : (calls : ℕ) (x : Index) (ts : List Task) (c : Counts) → length ts ≤ calls → length ts ≤ st.order → Fine st x → Rising ts → All (λ t. t.key ≤ no_ceiling) ts
      → Ran x ts c (change_root st calls x ts c)
  unfolding calling called after_call
  ran zero x [] c enough short f rising low = ran_none x c f
  ran zero x (t ∷ ts) c enough short f rising low = absurd (omega arith)
  ran (suc calls) x [] c enough short f rising low = ran_none x c f
  ran (suc calls) x (t ∷ ts) c enough short f rising low =
      let owes = call_owes x t ts c f rising short low in
      let root = call_settled x t ts c f rising short low in
      let less = call_fewer x t ts c f rising short low in
      let next = ran calls (after_call x t ts c f rising short low) (called x t ts c f rising short low).tasks (called x t ts c f rising short low).run.counts
      (omega (arith, less)) (omega (arith, less)) root.fine (did_rising owes.did rising) (did_left owes.did low) in
      record {
        did = did_then no_ceiling owes.did (rw root.list at next.did);
        left = next.left;
        fine = next.fine;
        root_slot = next.root_slot ∙ root.root_slot ∙ owes.slot;
        slots = λ room s. next.slots (call_room x t ts c f rising short low room) s ∙ call_slots x t ts c f rising short low room s;
        shallow = λ deep. next.shallow (call_headroom x t ts c f rising short low deep);
        lower = λ rem. le_trans (next.lower (did_left owes.did rem)) (root.lower (no_split x t ts c f rising short low rem)).0;
        grows = λ rem s.
            le_trans (owes.grows rem s) (le_trans ((root.lower (no_split x t ts c f rising short low rem)).1 s) (next.grows (did_left owes.did rem) s));
        up = λ a. next.up (root.up (owes.up a));
      }

  -- COLLAPSE

  pub record Collapsed (h slot : ℕ) (xs : List (Item h)) (unused : List ℕ) (y : Index) : Type 0 where
    pub list : entries_of y ≡ flat h xs
    pub whole : All (Whole st y.height) y.root.items
    pub rooted : Rooted st y.height y.root
    pub root_slot : y.root.slot ≡ slot
    pub slots : (s : ℕ) → times s (slots_of y) + times s y.unused ≡ hit s slot + times s (slots_in h xs) + times s unused
    pub lower : y.height ≤ h
    pub grows : (s : ℕ) → times s unused ≤ times s y.unused
    pub up : Ascending unused → Ascending y.unused

  stands : (h slot : ℕ) (xs : List (Item h)) (unused : List ℕ) → All (Whole st h) xs → Rooted st h (record { slot = slot; items = xs })
      → Collapsed h slot xs unused (record { height = h; root = record { slot = slot; items = xs }; unused = unused })
  stands h slot xs unused w r =
      record { list = refl; whole = w; rooted = r; root_slot = refl; slots = λ s. refl; lower = le_refl h; grows = λ s. le_refl _; up = λ a. a }

  collapsed : (h slot : ℕ) (xs : List (Item h)) (unused : List ℕ) → All (Whole st h) xs → Ready st h (record { slot = slot; items = xs })
      → Collapsed h slot xs unused (collapse h slot xs unused)
  collapsed zero slot es unused w r = stands zero slot es unused w r
  collapsed (suc h) slot [] unused w r = absurd (omega (arith, r.some))
  collapsed (suc h) slot (c ∷ []) unused w r =
      let g : Whole st (suc h) c = all_head w in
      let z : Collapsed h slot c.items (release c.slot unused) (collapse h slot c.items (release c.slot unused)) =
      collapsed h slot c.items (release c.slot unused) g.1 (child_ready h c g.0) in
      record {
        list = z.list ∙ sym (append-nil (flat h c.items));
        whole = z.whole;
        rooted = z.rooted;
        root_slot = z.root_slot;
        slots = λ s. omega (arith, z.slots s, times_release s c.slot unused, times_append s (slots_in h c.items) []);
        lower = omega (arith, z.lower);
        grows = λ s. omega (arith, z.grows s, times_release s c.slot unused);
        up = λ a. z.up (release_up c.slot a);
      }
    where
      child_ready : (g : ℕ) (n : Tree g) → Stocked st n → Ready st g (record { slot = slot; items = n.items })
      child_ready zero n q = q.few
      child_ready (suc g) n q = record { some = q.some; few = q.few }
  collapsed (suc h) slot (c ∷ (d ∷ cs)) unused w r = stands (suc h) slot (c ∷ d ∷ cs) unused w (omega arith, r.few)

  -- THE LAW OF A BATCH

  pub record BatchOwes (x : Index) (ts : List Task) (b : Batched) : Type 0 where
    pub list : entries_of b.index ≡ plain_list ts (entries_of x)
    pub counts : b.counts ≡ plain_counts ts (entries_of x) no_counts
    pub left : b.tasks ≡ []
    pub whole : All (Whole st b.index.height) b.index.root.items
    pub rooted : Rooted st b.index.height b.index.root
    pub root_slot : b.index.root.slot ≡ x.root.slot
    pub slots : Room x ts → (s : ℕ) → times s (slots_of b.index) + times s b.index.unused ≡ times s (slots_of x) + times s x.unused
    pub shallow : Headroom x ts → b.index.height ≤ 7
    pub lower : Removing ts → b.index.height ≤ x.height
    pub grows : Removing ts → (s : ℕ) → times s x.unused ≤ times s b.index.unused
    pub up : Ascending x.unused → Ascending b.index.unused

  pub batch_law : (x : Index) (ts : List Task) → length ts ≤ st.order → Fine st x → Rising ts → All (λ t. t.key ≤ no_ceiling) ts → BatchOwes x ts (batch st ts x)
  batch_law x ts short f rising low =
      let b : Batched = change_root st (length ts) x ts no_counts in
      let r : Ran x ts no_counts b = ran (length ts) x ts no_counts (le_refl _) short f rising low in
      let z : Collapsed b.index.height b.index.root.slot b.index.root.items b.index.unused
      (collapse b.index.height b.index.root.slot b.index.root.items b.index.unused) =
      collapsed b.index.height b.index.root.slot b.index.root.items b.index.unused r.fine.whole r.fine.ready in
      let e : ts ≡ r.did.taken = r.did.split ∙ append-nil r.did.taken in
      record {
        list = z.list ∙ r.did.list ∙ ap (λ (us : List Task). plain_list us (entries_of x)) (sym e);
        counts = r.did.counts ∙ ap (λ (us : List Task). plain_counts us (entries_of x) no_counts) (sym e);
        left = r.left;
        whole = z.whole;
        rooted = z.rooted;
        root_slot = z.root_slot ∙ r.root_slot;
        slots = λ room s. z.slots s ∙ r.slots room s;
        shallow = λ deep. le_trans z.lower (r.shallow deep);
        lower = λ rem. le_trans z.lower (r.lower rem);
        grows = λ rem s. le_trans (r.grows rem s) (z.grows s);
        up = λ a. z.up (r.up a);
      }
