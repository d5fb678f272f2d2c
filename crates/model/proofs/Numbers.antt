-- What holds of each number that stands in a list; that an ascending list is told by how often each number stands in it; and the numbers from
-- one up. Assumes nothing.
use mathlib.Core.Path.{◌≡◌, refl, sym, ap, ◌∙◌, subst}
use mathlib.Core.Bool.{Bool, true, false}
use mathlib.Core.List.{List, [], ◌∷◌, ◌++◌, map}
use Prim.Native.Nat.{ℕ, zero, suc, ◌+◌, ◌-◌, ◌≤◌, ◌<◌}
use native.Mathlib.Omega.{arith}
use native.Mathlib.Decide.{ℕ_discrete, dec_lt}
use native.Mathlib.Nat.{not-suc-le-zero, le_of_suc-le-suc}
use lib.Dec.{ltb, eqb}
use lib.ListN.{length, get_or}
use borrow.Author.Tests.{ltb-true, ltb-false, eqb-true, eqb-false}
use Rattle.model.specs.Lists.{hit, times, up_from, All, none, one, nil, cons}
use Rattle.model.specs.Sound.{Ascending, Once}
use Rattle.model.proofs.Lists.{by_test, hit_same, hit_other}

-- EACH NUMBER OF A LIST

pub all_times : (P : ℕ → Type 0) (l : List ℕ) → ((x : ℕ) → 0 < times x l → P x) → All P l
all_times P [] f = none
all_times P (x ∷ l) f = one (f x (omega (arith, hit_same x x refl))) (all_times P l (λ y g. f y (omega arith)))

pub times_all : (P : ℕ → Type 0) {l : List ℕ} → All P l → (x : ℕ) → 0 < times x l → P x
times_all P none x g = absurd (omega arith)
times_all P (one {x = y} {xs = l} h hs) x g = by (ℕ_discrete x y) (λ k. times_all P hs x k)
  where
    by : Dec (x ≡ y) → (0 < times x l → P x) → P x
    by (yes e) again = subst P (sym e) h
    by (no ne) again = again (omega (arith, hit_other x y ne))

-- TWO ASCENDING LISTS with the same numbers are one

-- the first is the least
first_least : (x y : ℕ) {l : List ℕ} → All (λ v. y ≤ v) l → 0 < times x (y ∷ l) → y ≤ x
first_least x y {l} h g = by (ℕ_discrete x y)
  where
    by : Dec (x ≡ y) → y ≤ x
    by (yes e) = omega arith
    by (no ne) = times_all (λ v. y ≤ v) h x (omega (arith, hit_other x y ne))

pub ascending_same : {a b : List ℕ} → Ascending a → Ascending b → ((x : ℕ) → times x a ≡ times x b) → a ≡ b
ascending_same nil nil f = refl
ascending_same nil (cons {x = y} {xs = b} h s) f = absurd (omega (arith, f y, hit_same y y refl))
ascending_same (cons {x = x} {xs = a} h s) nil f = absurd (omega (arith, f x, hit_same x x refl))
ascending_same (cons {x = x} {xs = a} h s) (cons {x = y} {xs = b} g t) f =
    let up : y ≤ x = first_least x y g (omega (arith, f x, hit_same x x refl)) in
    let down : x ≤ y = first_least y x h (omega (arith, f y, hit_same y y refl)) in
    let e : x ≡ y = omega arith in
    let rest : (z : ℕ) → times z a ≡ times z b = λ z. omega (arith, f z, ap (hit z) e) in
    ap (λ (z : ℕ). z ∷ a) e ∙ ap (λ (l : List ℕ). y ∷ l) (ascending_same s t rest)

-- NUMBERS FROM a UP

pub length_up : (a n : ℕ) → length (up_from a n) ≡ n
length_up a zero = refl
length_up a (suc n) = ap suc (length_up (suc a) n)

pub map_up : {A : Type 0} (f : ℕ → A) (a n s : ℕ) (d : A) → s < n → get_or (map f (up_from a n)) s d ≡ f (a + s)
map_up f a zero s d h = absurd (not-suc-le-zero h)
map_up f a (suc n) zero d h = let e : a ≡ a + 0 = omega arith in ap f e
map_up f a (suc n) (suc s) d h = let e : suc a + s ≡ a + suc s = omega arith in map_up f (suc a) n s d (le_of_suc-le-suc h) ∙ ap f e

-- n of them, and then those from b on
pub up_append : (a n m b : ℕ) → b ≡ a + n → up_from a n ++ up_from b m ≡ up_from a (n + m)
up_append a zero m b e =
    let z : b ≡ a = omega arith in
    let w : m ≡ 0 + m = omega arith in
    ap (λ (k : ℕ). up_from k m) z ∙ ap (up_from a) w
up_append a (suc n) m b e =
    let w : suc (n + m) ≡ suc n + m = omega arith in
    ap (a ∷◌) (up_append (suc a) n m b (omega arith)) ∙ ap (up_from a) w

run_over : (a m b : ℕ) → b ≤ a → All (λ f. b ≤ f) (up_from a m)
run_over a zero b le = none
run_over a (suc m) b le = one le (run_over (suc a) m b (omega arith))

pub run_up : (a m : ℕ) → Ascending (up_from a m)
run_up a zero = nil
run_up a (suc m) = cons (run_over (suc a) m a (omega arith)) (run_up (suc a) m)

-- each of them stands there once

pub run_below : (s a m : ℕ) → s < a → times s (up_from a m) ≡ 0
run_below s a zero lt = refl
run_below s a (suc m) lt = omega (arith, hit_other s a (λ e. omega arith), run_below s (suc a) m (omega arith))

pub run_above : (s a m : ℕ) → a + m ≤ s → times s (up_from a m) ≡ 0
run_above s a zero le = refl
run_above s a (suc m) le = omega (arith, hit_other s a (λ e. omega arith), run_above s (suc a) m (omega arith))

pub run_inside : (s a m : ℕ) → a ≤ s → s < a + m → times s (up_from a m) ≡ 1
run_inside s a zero le lt = absurd (omega arith)
run_inside s a (suc m) le lt = go (eqb s a) refl (λ g k. run_inside s (suc a) m g k)
  where
    go : (t : Bool) → eqb s a ≡ t → (suc a ≤ s → s < suc a + m → times s (up_from (suc a) m) ≡ 1) → hit s a + times s (up_from (suc a) m) ≡ 1
    go true q again =
        let is : s ≡ a = eqb-true s a q in
        omega (arith, hit_same s a is, run_below s (suc a) m (omega arith))
    go false q again =
        let ne : (s ≡ a → ⊥) = eqb-false s a q in
        let e : times s (up_from (suc a) m) ≡ 1 = again (omega arith) (omega arith) in
        omega (arith, hit_other s a ne)

-- a number that stands among them is one of them
pub run_near : (s a m : ℕ) → 0 < times s (up_from a m) → (a ≤ s) × (s < a + m)
run_near s a m some = (low (dec_lt s a), high (dec_lt s (a + m)))
  where
    low : Dec (s < a) → a ≤ s
    low (yes lt) = absurd (omega (arith, run_below s a m lt))
    low (no ge) = omega arith

    high : Dec (s < a + m) → s < a + m
    high (yes lt) = lt
    high (no ge) = absurd (omega (arith, run_above s a m (omega arith)))

-- of n slots the first k are used, and the others unused
pub once_up : (n k : ℕ) → k ≤ n → Once n (up_from 0 k) (up_from k (n - k))
once_up n k le s =
    by_test (λ (v : ℕ). times s (up_from 0 k) + times s (up_from k (n - k)) ≡ v) (ltb s n) (λ e. inside (ltb-true s n e) (dec_lt s k))
    (λ e. outside (ltb-false s n e))
  where
    inside : s < n → Dec (s < k) → times s (up_from 0 k) + times s (up_from k (n - k)) ≡ 1
    inside lt (yes low) = omega (arith, run_inside s 0 k (omega arith) (omega arith), run_below s k (n - k) low)
    inside lt (no high) = omega (arith, run_above s 0 k (omega arith), run_inside s k (n - k) (omega arith) (omega arith))

    outside : n ≤ s → times s (up_from 0 k) + times s (up_from k (n - k)) ≡ 0
    outside past = omega (arith, run_above s 0 k (omega arith), run_above s k (n - k) (omega arith))

-- where those in use are the first k, in whatever order, the unused ones are the others
pub unused_only : (n k : ℕ) (used us : List ℕ) → k ≤ n → ((s : ℕ) → times s used ≡ times s (up_from 0 k)) → Once n used us → Ascending us
    → us ≡ up_from k (n - k)
unused_only n k used us le first once up = ascending_same up (run_up k (n - k)) (λ s. omega (arith, first s, once s, once_up n k le s))
