-- Laws of tests, of `All` and `Ordered`, and of joining, keeping and counting: they hold of any element. Assumes nothing.
use mathlib.Core.Path.{◌≡◌, refl, sym, ap, ◌∙◌, subst}
use mathlib.Core.Logic.{◌⊎◌, inl, inr}
use mathlib.Core.Bool.{Bool, true, false, cond, ◌&&◌, ◌||◌, true≢false}
use mathlib.Core.List.{List, [], ◌∷◌, ◌++◌, map, reverse, reverse_aux, reverse-cons, append_assoc, append-nil}
use Prim.Native.Nat.{ℕ, zero, suc, ◌+◌, ◌≤◌, ◌<◌}
use native.Mathlib.Omega.{arith}
use native.Mathlib.Numerals.{add-one}
use native.Mathlib.Nat.{not-suc-le-zero, le_of_suc-le-suc}
use lib.ListN.{length, take, drop, get_or, take-append-drop}
use lib.Seq.{take-suc, take_all}
use borrow.Author.Tests.{eq-eqb, ne_eqb}
use Rattle.model.specs.Lists.{concat, keep, hit, times, All, none, one, Ordered, nil, cons}

-- TESTS

-- a test that picks between two: what holds of each where it is picked holds of the pick
pub by_test {ℓ κ} : {A : Type ℓ} (P : A → Type κ) (t : Bool) {x y : A} → (t ≡ true → P x) → (t ≡ false → P y) → P (cond t x y)
by_test P true f g = f refl
by_test P false f g = g refl

pub both_left : (a b : Bool) → (a && b) ≡ true → a ≡ true
both_left true b q = refl
both_left false b q = q

pub both_right : (a b : Bool) → (a && b) ≡ true → b ≡ true
both_right true b q = q
both_right false b q = absurd (true≢false (sym q))

pub not_both : (a b : Bool) → (a && b) ≡ false → (a ≡ false) ⊎ (b ≡ false)
not_both true b e = inr e
not_both false b e = inl refl

pub or_left : (a b : Bool) → (a || b) ≡ false → a ≡ false
or_left true b q = q
or_left false b q = refl

pub or_right : (a b : Bool) → (a || b) ≡ false → b ≡ false
or_right true b q = absurd (true≢false q)
or_right false b q = q

-- P HOLDS OF EACH

pub all_append : {A : Type 0} {P : A → Type 0} {xs ys : List A} → All P xs → All P ys → All P (xs ++ ys)
all_append none h = h
all_append (one g gs) h = one g (all_append gs h)

pub all_left : {A : Type 0} {P : A → Type 0} (xs ys : List A) → All P (xs ++ ys) → All P xs
all_left [] ys h = none
all_left (x ∷ xs) ys (one g gs) = one g (all_left xs ys gs)

pub all_right : {A : Type 0} {P : A → Type 0} (xs ys : List A) → All P (xs ++ ys) → All P ys
all_right [] ys h = h
all_right (x ∷ xs) ys (one g gs) = all_right xs ys gs

pub all_map : {A : Type 0} {P Q : A → Type 0} {xs : List A} → ((x : A) → P x → Q x) → All P xs → All Q xs
all_map f none = none
all_map f (one g gs) = one (f _ g) (all_map f gs)

pub all_both : {A : Type 0} {P Q R : A → Type 0} {xs : List A} → ((x : A) → P x → Q x → R x) → All P xs → All Q xs → All R xs
all_both f none none = none
all_both f (one g gs) (one k ks) = one (f _ g k) (all_both f gs ks)

pub all_every : {A : Type 0} {P : A → Type 0} (xs : List A) → ((x : A) → P x) → All P xs
all_every [] f = none
all_every (x ∷ xs) f = one (f x) (all_every xs f)

-- P holds of f of each
pub all_of : {A B : Type 0} {P : B → Type 0} (f : A → B) {xs : List A} → All (λ x. P (f x)) xs → All P (map f xs)
all_of f none = none
all_of f (one g gs) = one g (all_of f gs)

-- each of the one stands so to each of the other, seen from the other
pub all_swap : {A B : Type 0} {R : A → B → Type 0} {ys : List B} {xs : List A} → All (λ x. All (R x) ys) xs → All (λ y. All (λ x. R x y) xs) ys
all_swap {ys = ys} none = all_every ys (λ y. none)
all_swap (one h hs) = all_both (λ y g gs. one g gs) h (all_swap hs)

pub all_turned : {A : Type 0} {P : A → Type 0} (xs ys : List A) → All P xs → All P ys → All P (reverse_aux xs ys)
all_turned [] ys none k = k
all_turned (x ∷ xs) ys (one g gs) k = all_turned xs (x ∷ ys) gs (one g k)

pub all_head : {A : Type 0} {P : A → Type 0} {x : A} {xs : List A} → All P (x ∷ xs) → P x
all_head (one g gs) = g

pub all_tail : {A : Type 0} {P : A → Type 0} {x : A} {xs : List A} → All P (x ∷ xs) → All P xs
all_tail (one g gs) = gs

pub all_take : {A : Type 0} {P : A → Type 0} (n : ℕ) {xs : List A} → All P xs → All P (take n xs)
all_take n {xs} h = all_left (take n xs) (drop n xs) (rw take-append-drop h)

pub all_drop : {A : Type 0} {P : A → Type 0} (n : ℕ) {xs : List A} → All P xs → All P (drop n xs)
all_drop n {xs} h = all_right (take n xs) (drop n xs) (rw take-append-drop h)

-- what holds of each holds of the one at i; of the first i + 1 if of the first i and of that; and of all if of as many as there are
module _ {A : Type 0} {P : A → Type 0} where
  pub all_at : (xs : List A) (i : ℕ) (z : A) → i < length xs → All P xs → P (get_or xs i z)
  all_at [] i z lt none = absurd (not-suc-le-zero lt)
  all_at (x ∷ xs) zero z lt (one g gs) = g
  all_at (x ∷ xs) (suc i) z lt (one g gs) = all_at xs i z (le_of_suc-le-suc lt) gs

  pub all_more : (xs : List A) (i : ℕ) (z : A) → i < length xs → All P (take i xs) → P (get_or xs i z) → All P (take (i + 1) xs)
  all_more xs i z lt h g = rw (add-one i, take-suc xs i z lt) (all_append h (one g none))

  pub all_past : (xs : List A) (i : ℕ) → length xs ≤ i → All P (take i xs) → All P xs
  all_past xs i le h = subst (All P) (take_all i xs le) h

-- what holds of each element of some lists joined holds of each of each of them ..
pub all_parts : {A B : Type 0} {P : B → Type 0} (f : A → List B) (xs : List A) → All P (concat (map f xs)) → All (λ x. All P (f x)) xs
all_parts f [] h = none
all_parts f (x ∷ xs) h = one (all_left (f x) (concat (map f xs)) h) (all_parts f xs (all_right (f x) (concat (map f xs)) h))

-- .. so of each of the one at i
pub parts_at : {A B C : Type 0} {P : C → Type 0} (f : B → List C) (g : A → B) (xs : List A) (i : ℕ) (z : A) → i < length xs
    → All P (concat (map f (map g xs))) → All P (f (g (get_or xs i z)))
parts_at f g [] i z lt h = absurd (not-suc-le-zero lt)
parts_at f g (x ∷ xs) zero z lt h = all_left (f (g x)) (concat (map f (map g xs))) h
parts_at f g (x ∷ xs) (suc i) z lt h = parts_at f g xs i z (le_of_suc-le-suc lt) (all_right (f (g x)) (concat (map f (map g xs))) h)

-- what holds of each element of each list holds of each of the lists joined
pub all_concat : {A B : Type 0} {P : B → Type 0} (f : A → List B) {xs : List A} → All (λ x. All P (f x)) xs → All P (concat (map f xs))
all_concat f none = none
all_concat f (one g gs) = all_append g (all_concat f gs)

-- ORDER

module _ {A : Type 0} {R : A → A → Type 0} where
  pub ordered_append : {a b : List A} → Ordered R a → Ordered R b → All (λ x. All (R x) b) a → Ordered R (a ++ b)
  ordered_append nil sb none = sb
  ordered_append (cons h sa) sb (one g gs) = cons (all_append h g) (ordered_append sa sb gs)

  pub ordered_left : (a b : List A) → Ordered R (a ++ b) → Ordered R a
  ordered_left [] b s = nil
  ordered_left (x ∷ a) b (cons h s) = cons (all_left a b h) (ordered_left a b s)

  pub ordered_right : (a b : List A) → Ordered R (a ++ b) → Ordered R b
  ordered_right [] b s = s
  ordered_right (x ∷ a) b (cons h s) = ordered_right a b s

  pub ordered_apart : (a b : List A) → Ordered R (a ++ b) → All (λ x. All (R x) b) a
  ordered_apart [] b s = none
  ordered_apart (x ∷ a) b (cons h s) = one (all_right a b h) (ordered_apart a b s)

-- JOINING AND KEEPING

-- f of each of two lists, joined
pub parts_append : {A B : Type 0} (f : A → List B) (xs ys : List A) → concat (map f (xs ++ ys)) ≡ concat (map f xs) ++ concat (map f ys)
parts_append f [] ys = refl
parts_append f (x ∷ xs) ys = ap (f x ++◌) (parts_append f xs ys) ∙ sym (append_assoc (f x) (concat (map f xs)) (concat (map f ys)))

module _ {A : Type 0} where
  pub concat_append : (a b : List (List A)) → concat (a ++ b) ≡ concat a ++ concat b
  concat_append [] b = refl
  concat_append (x ∷ a) b = ap (x ++◌) (concat_append a b) ∙ sym (append_assoc x (concat a) (concat b))

  pub keep_append : (p : A → Bool) (a b : List A) → keep p (a ++ b) ≡ keep p a ++ keep p b
  keep_append p [] b = refl
  keep_append p (x ∷ a) b = go (p x) (keep_append p a b)
    where
      go : (t : Bool) → keep p (a ++ b) ≡ keep p a ++ keep p b → cond t (x ∷ keep p (a ++ b)) (keep p (a ++ b)) ≡ cond t (x ∷ keep p a) (keep p a) ++ keep p b
      go true e = ap (x ∷◌) e
      go false e = e

  pub keep_none : (p : A → Bool) {xs : List A} → All (λ x. p x ≡ false) xs → keep p xs ≡ []
  keep_none p none = refl
  keep_none p (one e es) = rw e (keep_none p es)

  -- two tests that say the same of each element keep the same
  pub keep_same : (p r : A → Bool) {xs : List A} → All (λ x. p x ≡ r x) xs → keep p xs ≡ keep r xs
  keep_same p r none = refl
  keep_same p r (one {x = x} {xs = xs} e es) = ap (λ (b : Bool). cond b (x ∷ keep p xs) (keep p xs)) e ∙ ap (λ (l : List A). cond (r x) (x ∷ l) l) (keep_same p r es)

  -- what is kept has what each element had, passes the test, and stands in order where the list did
  pub keep_each : {P : A → Type 0} (p : A → Bool) {xs : List A} → All P xs → All P (keep p xs)
  keep_each p none = none
  keep_each {P = P} p (one {x = x} g gs) = by_test (All P) (p x) (λ _. one g (keep_each p gs)) (λ _. keep_each p gs)

  pub keep_passes : (p : A → Bool) (xs : List A) → All (λ x. p x ≡ true) (keep p xs)
  keep_passes p [] = none
  keep_passes p (x ∷ xs) = by_test (All (λ y. p y ≡ true)) (p x) (λ e. one e (keep_passes p xs)) (λ _. keep_passes p xs)

  pub keep_ordered : {R : A → A → Type 0} (p : A → Bool) {xs : List A} → Ordered R xs → Ordered R (keep p xs)
  keep_ordered p nil = nil
  keep_ordered {R = R} p (cons {x = x} h s) = by_test (Ordered R) (p x) (λ _. cons (keep_each p h) (keep_ordered p s)) (λ _. keep_ordered p s)

  pub keep_reverse : (p : A → Bool) (xs : List A) → keep p (reverse xs) ≡ reverse (keep p xs)
  keep_reverse p [] = refl
  keep_reverse p (x ∷ xs) = ap (keep p) (reverse-cons x xs) ∙ keep_append p (reverse xs) (x ∷ []) ∙ ap (◌++ keep p (x ∷ [])) (keep_reverse p xs) ∙ go (p x)
    where
      go : (t : Bool) → reverse (keep p xs) ++ cond t (x ∷ []) [] ≡ reverse (cond t (x ∷ keep p xs) (keep p xs))
      go true = sym (reverse-cons x (keep p xs))
      go false = append-nil (reverse (keep p xs))

  pub keep_parts : {B : Type 0} (p : A → Bool) (f : B → List A) (xs : List B) → keep p (concat (map f xs)) ≡ concat (map (λ x. keep p (f x)) xs)
  keep_parts p f [] = refl
  keep_parts p f (x ∷ xs) = keep_append p (f x) (concat (map f xs)) ∙ ap (keep p (f x) ++◌) (keep_parts p f xs)

  pub cons_nil : {x : A} {xs : List A} → ◌≡◌ {A = List A} (x ∷ xs) [] → ⊥
  cons_nil e = let q : ◌≡◌ {A = ℕ} 1 0 = ap (λ (l : List A). cond_empty l) e in omega arith
    where
      cond_empty : List A → ℕ
      cond_empty [] = 0
      cond_empty (y ∷ ys) = 1

-- COUNTING

pub hit_same : (x y : ℕ) → x ≡ y → hit x y ≡ 1
unfolding hit
hit_same x y e = rw (eq-eqb x y e) refl

pub hit_other : (x y : ℕ) → (x ≡ y → ⊥) → hit x y ≡ 0
unfolding hit
hit_other x y e = rw (ne_eqb x y e) refl

pub times_append : (x : ℕ) (a b : List ℕ) → times x (a ++ b) ≡ times x a + times x b
times_append x [] b = omega arith
times_append x (y ∷ a) b = omega (arith, times_append x a b)
