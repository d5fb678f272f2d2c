-- The unused slots of a pool are the model's list: ascending, each once, a released slot in its place, and the lowest taken. Assumes nothing.
use mathlib.Core.Path.{◌≡◌, refl, sym, ap, ◌∙◌}
use mathlib.Core.Logic.{◌≢◌}
use mathlib.Core.Bool.{Bool, true, false, cond}
use mathlib.Core.List.{List, [], ◌∷◌, map}
use Prim.Native.Nat.{ℕ, zero, suc, ◌+◌, ◌≤◌, ◌<◌}
use native.Mathlib.Omega.{arith}
use native.Mathlib.Nat.{not-suc-le-zero, le_of_suc-le-suc}
use native.Mathlib.Decide.{dec_lt, ℕ_discrete}
use lib.Dec.{eqb}
use lib.ListN.{length, set, get_or-eq_default}
use borrow.Author.Tests.{lt-ltb, le-ltb, eq-eqb, ne_eqb}
use Rattle.slots_raw.specs.Slots.{seen}
use Rattle.slots_raw.proofs.Views.{seen_unused}
use Rattle.slots.proofs.Others.{seen_none, nth_seen}
use Rattle.slots.specs.Nodes.{unused_kind, nth, unused}
use Rattle.slots.specs.Nodes as S
use Rattle.slots_find.specs.Promises.{Lowest}
use Rattle.model.specs.Lists.{hit, times, All, none, one, nil, cons}
use Rattle.model.specs.Tree.{lowest, others, release}
use Rattle.model.specs.Sound.{Ascending}
use Rattle.model.proofs.Lists.{by_test, all_map, hit_same, hit_other}
use Rattle.tree.specs.Bridge.{unused_from, unused_of}

-- a node in use is one of the pool's
pub used_in : (ns : List S.Node) (x : ℕ) → (nth ns x).kind ≢ unused_kind → x < length ns
used_in ns x u = by (dec_lt x (length ns))
  where
    by : Dec (x < length ns) → x < length ns
    by (yes g) = g
    by (no g) = let le : length ns ≤ x = omega arith in absurd (u (ap (λ (n : S.Node). n.kind) (get_or-eq_default ns unused le)))

-- EACH ONCE, and only those of no kind

low_none : (x s : ℕ) (ns : List S.Node) → x < s → times x (unused_from s ns) ≡ 0
low_none x s [] h = refl
low_none x s (n ∷ ns) h =
    by_test (λ (l : List ℕ). times x l ≡ 0) (eqb n.kind unused_kind) (λ _. omega (arith, hit_other x s (λ e. absurd (omega arith)), low_none x (suc s) ns (omega arith)))
    (λ _. low_none x (suc s) ns (omega arith))

-- slot s + j is no unused one if node j is in use
used_at : (s j : ℕ) (ns : List S.Node) → (nth ns j).kind ≢ unused_kind → times (s + j) (unused_from s ns) ≡ 0
used_at s j [] u = refl
used_at s zero (n ∷ ns) u = rw (ne_eqb n.kind unused_kind u) (low_none (s + 0) (suc s) ns (omega arith))
used_at s (suc j) (n ∷ ns) u =
    let e : s + suc j ≡ suc s + j = omega arith in
    by_test (λ (l : List ℕ). times (s + suc j) l ≡ 0) (eqb n.kind unused_kind)
    (λ _. omega (arith, hit_other (s + suc j) s (λ q. absurd (omega arith)), ap (λ (y : ℕ). times y (unused_from (suc s) ns)) e, used_at (suc s) j ns u))
    (λ _. ap (λ (y : ℕ). times y (unused_from (suc s) ns)) e ∙ used_at (suc s) j ns u)

pub used_none : (ns : List S.Node) (x : ℕ) → (nth ns x).kind ≢ unused_kind → times x (unused_of ns) ≡ 0
used_none ns x u = let e : 0 + x ≡ x = omega arith in ap (λ (y : ℕ). times y (unused_of ns)) (sym e) ∙ used_at 0 x ns u

-- .. and is one if node j is not
unused_at : (s j : ℕ) (ns : List S.Node) → j < length ns → (nth ns j).kind ≡ unused_kind → times (s + j) (unused_from s ns) ≡ 1
unused_at s j [] h u = absurd (not-suc-le-zero h)
unused_at s zero (n ∷ ns) h u =
    let e : s + 0 ≡ s = omega arith in
    rw (eq-eqb n.kind unused_kind u) (omega (arith, hit_same (s + 0) s e, low_none (s + 0) (suc s) ns (omega arith)))
unused_at s (suc j) (n ∷ ns) h u =
    let e : s + suc j ≡ suc s + j = omega arith in
    by_test (λ (l : List ℕ). times (s + suc j) l ≡ 1) (eqb n.kind unused_kind)
    (λ _. omega (arith, hit_other (s + suc j) s (λ q. absurd (omega arith)), ap (λ (y : ℕ). times y (unused_from (suc s) ns)) e, unused_at (suc s) j ns (le_of_suc-le-suc h) u))
    (λ _. ap (λ (y : ℕ). times y (unused_from (suc s) ns)) e ∙ unused_at (suc s) j ns (le_of_suc-le-suc h) u)

pub unused_one : (ns : List S.Node) (x : ℕ) → x < length ns → (nth ns x).kind ≡ unused_kind → times x (unused_of ns) ≡ 1
unused_one ns x h u = let e : 0 + x ≡ x = omega arith in ap (λ (y : ℕ). times y (unused_of ns)) (sym e) ∙ unused_at 0 x ns h u

past_from : (x s : ℕ) (ns : List S.Node) → s + length ns ≤ x → times x (unused_from s ns) ≡ 0
past_from x s [] h = refl
past_from x s (n ∷ ns) h =
    by_test (λ (l : List ℕ). times x l ≡ 0) (eqb n.kind unused_kind) (λ _. omega (arith, hit_other x s (λ e. absurd (omega arith)), past_from x (suc s) ns (omega arith)))
    (λ _. past_from x (suc s) ns (omega arith))

pub unused_past : (ns : List S.Node) (x : ℕ) → length ns ≤ x → times x (unused_of ns) ≡ 0
unused_past ns x h = past_from x 0 ns (omega arith)

once_from : (x s : ℕ) (ns : List S.Node) → times x (unused_from s ns) ≤ 1
once_from x s [] = omega arith
once_from x s (n ∷ ns) =
    by_test (λ (l : List ℕ). times x l ≤ 1) (eqb n.kind unused_kind) (λ _. by (once_from x (suc s) ns) (ℕ_discrete x s)) (λ _. once_from x (suc s) ns)
  where
    by : times x (unused_from (suc s) ns) ≤ 1 → Dec (x ≡ s) → hit x s + times x (unused_from (suc s) ns) ≤ 1
    by r (yes e) = omega (arith, hit_same x s e, low_none x (suc s) ns (omega arith))
    by r (no e) = omega (arith, hit_other x s e, r)

pub unused_once : (ns : List S.Node) (x : ℕ) → times x (unused_of ns) ≤ 1
unused_once ns x = once_from x 0 ns

-- ASCENDING

at_least : (a : ℕ) (ns : List S.Node) → All (λ x. a ≤ x) (unused_from a ns)
at_least a [] = none
at_least a (n ∷ ns) =
    by_test (All (λ x. a ≤ x)) (eqb n.kind unused_kind) (λ _. one (omega arith) (all_map (λ x h. omega (arith, h)) (at_least (suc a) ns)))
    (λ _. all_map (λ x h. omega (arith, h)) (at_least (suc a) ns))

up_from : (a : ℕ) (ns : List S.Node) → Ascending (unused_from a ns)
up_from a [] = nil
up_from a (n ∷ ns) =
    by_test Ascending (eqb n.kind unused_kind) (λ _. cons (all_map (λ x h. omega (arith, h)) (at_least (suc a) ns)) (up_from (suc a) ns)) (λ _. up_from (suc a) ns)

pub unused_up : (ns : List S.Node) → Ascending (unused_of ns)
unused_up ns = up_from 0 ns

-- A SLOT RELEASED

release_low : (s : ℕ) (us : List ℕ) → All (λ x. suc s ≤ x) us → release s us ≡ s ∷ us
release_low s [] a = refl
release_low s (u ∷ us) (one h hs) = rw (lt-ltb s u h) refl

released : (a s : ℕ) (ns : List S.Node) → s < length ns → (nth ns s).kind ≢ unused_kind → unused_from a (set ns s unused) ≡ release (a + s) (unused_from a ns)
released a s [] h u = absurd (not-suc-le-zero h)
released a zero (n ∷ ns) h u =
    let e : a + 0 ≡ a = omega arith in
    rw (ne_eqb n.kind unused_kind u, e) (sym (release_low a (unused_from (suc a) ns) (at_least (suc a) ns)))
released a (suc s) (n ∷ ns) h u =
    let e : a + suc s ≡ suc a + s = omega arith in
    by (eqb n.kind unused_kind) (rw e (released (suc a) s ns (le_of_suc-le-suc h) u))
  where
    by : (b : Bool) → unused_from (suc a) (set ns s unused) ≡ release (a + suc s) (unused_from (suc a) ns)
        → cond b (a ∷ unused_from (suc a) (set ns s unused)) (unused_from (suc a) (set ns s unused)) ≡ release (a + suc s) (cond b (a ∷ unused_from (suc a) ns) (unused_from (suc a) ns))
    by true r = ap (λ (l : List ℕ). a ∷ l) r ∙ rw (le-ltb (a + suc s) a (omega arith)) refl
    by false r = r

pub unused_released : (ns : List S.Node) (s : ℕ) → s < length ns → (nth ns s).kind ≢ unused_kind → unused_of (set ns s unused) ≡ release s (unused_of ns)
unused_released ns s h u = let e : 0 + s ≡ s = omega arith in released 0 s ns h u ∙ ap (λ (x : ℕ). release x (unused_of ns)) e

-- THE LOWEST TAKEN

taken : (a x : ℕ) (ns : List S.Node) (n : S.Node) → x < length ns → ((t : ℕ) → t < x → (nth ns t).kind ≢ unused_kind) → (nth ns x).kind ≡ unused_kind → n.kind ≢ unused_kind
    → (lowest (unused_from a ns) ≡ a + x) × (unused_from a (set ns x n) ≡ others (unused_from a ns))
taken a x [] n h b z u = absurd (not-suc-le-zero h)
taken a zero (m ∷ ns) n h b z u = (rw (eq-eqb m.kind unused_kind z) (omega arith), rw (eq-eqb m.kind unused_kind z, ne_eqb n.kind unused_kind u) refl)
taken a (suc x) (m ∷ ns) n h b z u =
    let r = taken (suc a) x ns n (le_of_suc-le-suc h) (λ t g. b (suc t) (omega arith)) z u in
    (rw (ne_eqb m.kind unused_kind (b 0 (omega arith))) (r.0 ∙ omega arith), rw (ne_eqb m.kind unused_kind (b 0 (omega arith))) r.1)

-- the slot that the code takes is the model's lowest, and the others stay
pub unused_taken : (ns : List S.Node) (x : ℕ) (n : S.Node) → Lowest ns x → x < length ns → n.kind ≢ unused_kind
    → (lowest (unused_of ns) ≡ x) × (unused_of (set ns x n) ≡ others (unused_of ns))
unused_taken ns x n w h u =
    let e : 0 + x ≡ x = omega arith in
    let r = taken 0 x ns n h w.before (w.here h) u in
    (r.0 ∙ e, r.1)

-- rows that change leave the unused slots as they were
set_same : (a s : ℕ) (ns : List S.Node) (n : S.Node) → n.kind ≡ (nth ns s).kind → unused_from a (set ns s n) ≡ unused_from a ns
set_same a s [] n e = refl
set_same a zero (m ∷ ns) n e = rw e refl
set_same a (suc s) (m ∷ ns) n e = rw (set_same (suc a) s ns n e) refl

pub unused_kept : (ns : List S.Node) (s : ℕ) (n : S.Node) → n.kind ≡ (nth ns s).kind → unused_of (set ns s n) ≡ unused_of ns
unused_kept ns s n e = set_same 0 s ns n e

-- THEY ARE THE SAME to whoever sees the nodes

seen_kind : (root k : ℕ) → eqb (seen root k) unused_kind ≡ eqb k unused_kind
seen_kind root k = by (ℕ_discrete k 0)
  where
    none : (root : ℕ) → seen root 0 ≡ 0
    none root = ap (λ (n : S.Node). n.kind) (seen_none root)

    by : Dec (k ≡ 0) → eqb (seen root k) unused_kind ≡ eqb k unused_kind
    by (yes e) = eq-eqb (seen root k) 0 (ap (seen root) e ∙ none root) ∙ sym (eq-eqb k 0 e)
    by (no ne) = ne_eqb (seen root k) 0 (λ e. ne (seen_unused root k e)) ∙ sym (ne_eqb k 0 ne)

seen_from : (root s : ℕ) (ns : List S.Node) → unused_from s (map (S.node_seen root) ns) ≡ unused_from s ns
seen_from root s [] = refl
seen_from root s (n ∷ ns) = rw (seen_kind root n.kind, seen_from root (suc s) ns)

pub unused_seen : (root : ℕ) (ns : List S.Node) → unused_of (map (S.node_seen root) ns) ≡ unused_of ns
unused_seen root ns = seen_from root 0 ns

-- a slot that is in use to one is in use
pub used_seen : (root : ℕ) (ns : List S.Node) (s : ℕ) → (nth (map (S.node_seen root) ns) s).kind ≢ unused_kind → (nth ns s).kind ≢ unused_kind
used_seen root ns s u e =
    u (ap (λ (n : S.Node). n.kind) (nth_seen root ns s) ∙ ap (seen root) e ∙ ap (λ (n : S.Node). n.kind) (seen_none root))
