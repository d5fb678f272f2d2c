-- Lists with elements left out of which something holds. Assumes nothing.
use mathlib.Core.Path.{◌≡◌, refl, sym, ap, ◌∙◌, subst}
use mathlib.Core.Bool.{Bool, true, false, cond, true≢false}
use mathlib.Core.List.{List, [], ◌∷◌, ◌++◌, map, reverse, reverse-cons, append-nil}
use Prim.Native.Nat.{◌≤◌}
use native.Mathlib.Omega.{arith}
use lib.ListN.{length}
use Rattle.model.specs.declared.Direction.{Direction}
use Rattle.model.specs.declared.Direction.TheVariants.{Up, Down}
use Rattle.model.specs.Lists.{concat, keep, All, none, one}
use Rattle.model.specs.Look.{turned}

-- the first list is the second with elements left out, of each of which P holds
pub data Thinned {A : Type 0} (P : A → Type 0) : List A → List A → Type 0 where
  done : Thinned P [] []
  stays : {x : A} {xs ys : List A} → Thinned P xs ys → Thinned P (x ∷ xs) (x ∷ ys)
  goes : {x : A} {xs ys : List A} → P x → Thinned P xs ys → Thinned P xs (x ∷ ys)

module _ {A : Type 0} {P : A → Type 0} where
  pub thin_same : (xs : List A) → Thinned P xs xs
  thin_same [] = done
  thin_same (x ∷ xs) = stays (thin_same xs)

  pub thin_none : {xs : List A} → All P xs → Thinned P [] xs
  thin_none none = done
  thin_none (one g gs) = goes g (thin_none gs)

  -- what passes no test was left out for its sake
  pub thin_keep : (p : A → Bool) {xs : List A} → All (λ x. p x ≡ false → P x) xs → Thinned P (keep p xs) xs
  thin_keep p none = done
  thin_keep p (one {x = x} {xs = xs} g gs) = go (p x) g (thin_keep p gs)
    where
      go : (t : Bool) → (t ≡ false → P x) → Thinned P (keep p xs) xs → Thinned P (cond t (x ∷ keep p xs) (keep p xs)) (x ∷ xs)
      go true f k = stays k
      go false f k = goes (f refl) k

  -- of two tests the stricter leaves out what the other lets pass
  pub thin_keeps : (p r : A → Bool) {xs : List A} → All (λ x. p x ≡ true → r x ≡ true) xs → All (λ x. p x ≡ false → r x ≡ true → P x) xs
      → Thinned P (keep p xs) (keep r xs)
  thin_keeps p r none none = done
  thin_keeps p r (one {x = x} {xs = xs} f fs) (one g gs) = go (p x) (r x) f g (thin_keeps p r fs gs)
    where
      go : (s t : Bool) → (s ≡ true → t ≡ true) → (s ≡ false → t ≡ true → P x) → Thinned P (keep p xs) (keep r xs)
          → Thinned P (cond s (x ∷ keep p xs) (keep p xs)) (cond t (x ∷ keep r xs) (keep r xs))
      go true true f g k = stays k
      go true false f g k = absurd (true≢false (sym (f refl)))
      go false true f g k = goes (g refl refl) k
      go false false f g k = k

  pub thin_again : {ys zs xs : List A} → Thinned P xs ys → Thinned P ys zs → Thinned P xs zs
  thin_again t done = t
  thin_again t (goes g u) = goes g (thin_again t u)
  thin_again (stays t) (stays u) = stays (thin_again t u)
  thin_again (goes g t) (stays u) = goes g (thin_again t u)

  pub thin_append : {a b c d : List A} → Thinned P a b → Thinned P c d → Thinned P (a ++ c) (b ++ d)
  thin_append done u = u
  thin_append (stays t) u = stays (thin_append t u)
  thin_append (goes g t) u = goes g (thin_append t u)

  pub thin_turned : (d : Direction) {xs ys : List A} → Thinned P xs ys → Thinned P (turned d xs) (turned d ys)
  thin_turned Up t = t
  thin_turned Down done = done
  thin_turned Down (stays {x = x} {xs = xs} {ys = ys} t) =
      rw (reverse-cons x xs, reverse-cons x ys) (thin_append (thin_turned Down t) (thin_same (x ∷ [])))
  thin_turned Down (goes {x = x} {xs = xs} {ys = ys} g t) =
      subst (λ (zs : List A). Thinned P zs (reverse (x ∷ ys))) (append-nil (reverse xs))
      (rw (reverse-cons x ys) (thin_append (thin_turned Down t) (thin_none (one g none))))

  -- what holds of each before holds of each that is left
  pub thin_each : {Q : A → Type 0} {xs ys : List A} → Thinned P xs ys → All Q ys → All Q xs
  thin_each done none = none
  thin_each (stays t) (one g gs) = one g (thin_each t gs)
  thin_each (goes p t) (one g gs) = thin_each t gs

  pub thin_long : {xs ys : List A} → Thinned P xs ys → length xs ≤ length ys
  thin_long done = omega arith
  thin_long (stays t) = omega (arith, thin_long t)
  thin_long (goes g t) = omega (arith, thin_long t)

-- parts that are empty can be left out of what is joined
pub thin_joined : {A : Type 0} {xs ys : List (List A)} → Thinned (λ x. x ≡ []) xs ys → concat xs ≡ concat ys
thin_joined done = refl
thin_joined (stays {x = x} t) = ap (x ++◌) (thin_joined t)
thin_joined (goes {ys = ys} g t) = thin_joined t ∙ ap (◌++ concat ys) (sym g)

-- thinned parts of a thinned list, joined
pub thin_parts : {A B : Type 0} {P : A → Type 0} {Q : B → Type 0} (f g : A → List B) {xs ys : List A} → Thinned P xs ys
    → All (λ x. Thinned Q (f x) (g x)) ys → All (λ x. P x → All Q (g x)) ys → Thinned Q (concat (map f xs)) (concat (map g ys))
thin_parts f g done none none = done
thin_parts f g (stays t) (one k ks) (one e es) = thin_append k (thin_parts f g t ks es)
thin_parts f g (goes p t) (one k ks) (one e es) = thin_append (thin_none (e p)) (thin_parts f g t ks es)
