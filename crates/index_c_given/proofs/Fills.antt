-- Places that are put one after the other, from some place to the last, make the list of what was put. Assumes nothing.
use Prim.Native.Nat.{ℕ, suc, ◌+◌, ◌-◌, ◌≤◌, ◌<◌}
use native.Mathlib.Omega.{arith}
use native.Mathlib.Numerals.{add-one}
use mathlib.Core.Path.{◌≡◌, refl, sym, ap, ◌∙◌}
use mathlib.Core.List.{List, [], ◌∷◌, ◌++◌, map}
use lib.ListN.{length, set, length-append, length-map}
use lib.Seq.{set_at, append_snoc}
use Rattle.model.specs.Lists.{up_from}
use Rattle.model.proofs.Numbers.{length_up}

-- l, with ms from place i on
abbrev pub puts : {A : Type 0} → List A → ℕ → List A → List A
puts l i [] = l
puts l i (m ∷ ms) = puts (set l i m) (suc i) ms

behind : {A : Type 0} (p l ms : List A) (i : ℕ) → length p ≡ i → length l ≡ length ms → puts (p ++ l) i ms ≡ p ++ ms
behind p [] [] i e h = refl
behind p [] (m ∷ ms) i e h = absurd (omega arith)
behind p (y ∷ ys) [] i e h = absurd (omega arith)
behind {A = A} p (y ∷ ys) (m ∷ ms) i e h =
    let long : length (p ++ (m ∷ [])) ≡ suc i = omega (arith, length-append p (m ∷ [])) in
    ap (λ (l : List A). puts l (suc i) ms) (set_at p y ys m i e ∙ sym (append_snoc p m ys)) ∙ behind (p ++ (m ∷ [])) ys ms (suc i) long (omega arith)
    ∙ append_snoc p m ms

-- all places
pub puts_all : {A : Type 0} (l ms : List A) → length l ≡ length ms → puts l 0 ms ≡ ms
puts_all l ms h = behind [] l ms 0 refl h

-- A LOOP: what is left to put into l, from place i on, makes it f of each of n places
abbrev pub Filling : {A : Type 0} → (ℕ → A) → ℕ → List A → ℕ → Type 0
Filling f n l i = puts l i (map f (up_from i (n - i))) ≡ map f (up_from 0 n)

module _ {A : Type 0} (f : ℕ → A) (n : ℕ) (l : List A) where
  pub fill_start : length l ≡ n → Filling f n l 0
  fill_start h =
      let all : n - 0 ≡ n = omega arith in
      ap (λ (k : ℕ). puts l 0 (map f (up_from 0 k))) all ∙ puts_all l (map f (up_from 0 n)) (h ∙ sym (length-map (up_from 0 n) f ∙ length_up 0 n))

  pub fill_turn : (i : ℕ) (v : A) → i < n → v ≡ f i → Filling f n l i → Filling f n (set l i v) (i + 1)
  fill_turn i v h e s =
      let left : n - i ≡ suc (n - (i + 1)) = omega arith in
      let next : i + 1 ≡ suc i = add-one i in
      ap (λ (w : A). puts (set l i w) (i + 1) (map f (up_from (i + 1) (n - (i + 1))))) e
      ∙ ap (λ (j : ℕ). puts (set l i (f i)) j (map f (up_from j (n - (i + 1))))) next ∙ ap (λ (k : ℕ). puts l i (map f (up_from i k))) (sym left) ∙ s

  pub fill_end : (i : ℕ) → n ≤ i → Filling f n l i → l ≡ map f (up_from 0 n)
  fill_end i h s =
      let none : n - i ≡ 0 = omega arith in
      ap (λ (k : ℕ). puts l i (map f (up_from i k))) (sym none) ∙ s
