-- A list before whose place n the elements of b stand in reverse: what is done there is done at place n of what is behind b. Assumes nothing.
use mathlib.Core.Path.{◌≡◌, refl, sym, ap, ◌∙◌}
use mathlib.Core.List.{List, [], ◌∷◌, ◌++◌, map, reverse_aux, append-nil}
use Prim.Native.Nat.{ℕ, suc, ◌+◌, ◌<◌}
use native.Mathlib.Omega.{arith}
use lib.ListN.{length, take, drop, get_or, set}
use lib.Seq.{split_at}

module _ {A : Type 0} where
  pub take_turned : (n : ℕ) (b r : List A) → take (n + length b) (reverse_aux b r) ≡ reverse_aux b (take n r)
  take_turned n [] r = let e : n + 0 ≡ n = omega arith in rw e refl
  take_turned n (x ∷ b) r = let e : n + suc (length b) ≡ suc n + length b = omega arith in rw e (take_turned (suc n) b (x ∷ r))

  pub drop_turned : (n : ℕ) (b r : List A) → drop (n + length b) (reverse_aux b r) ≡ drop n r
  drop_turned n [] r = let e : n + 0 ≡ n = omega arith in rw e refl
  drop_turned n (x ∷ b) r = let e : n + suc (length b) ≡ suc n + length b = omega arith in rw e (drop_turned (suc n) b (x ∷ r))

  pub get_d_turned : (n : ℕ) (b r : List A) (d : A) → get_or (reverse_aux b r) (n + length b) d ≡ get_or r n d
  get_d_turned n [] r d = let e : n + 0 ≡ n = omega arith in rw e refl
  get_d_turned n (x ∷ b) r d = let e : n + suc (length b) ≡ suc n + length b = omega arith in rw e (get_d_turned (suc n) b (x ∷ r) d)

  pub set_turned : (n : ℕ) (b r : List A) (y : A) → set (reverse_aux b r) (n + length b) y ≡ reverse_aux b (set r n y)
  set_turned n [] r y = let e : n + 0 ≡ n = omega arith in rw e refl
  set_turned n (x ∷ b) r y = let e : n + suc (length b) ≡ suc n + length b = omega arith in rw e (set_turned (suc n) b (x ∷ r) y)

  glued : (b q r : List A) → reverse_aux b q ++ r ≡ reverse_aux b (q ++ r)
  glued [] q r = refl
  glued (x ∷ b) q r = glued b (x ∷ q) r

  -- put in, and taken out
  pub put_in_turned : (n : ℕ) (b r new : List A)
      → take (n + length b) (reverse_aux b r) ++ new ++ drop (n + length b) (reverse_aux b r) ≡ reverse_aux b (take n r ++ new ++ drop n r)
  put_in_turned n b r new =
      rw (take_turned n b r, drop_turned n b r) (ap (λ (l : List A). l ++ drop n r) (glued b (take n r) new) ∙ glued b (take n r ++ new) (drop n r))

  pub without_turned : (n k : ℕ) (b r : List A)
      → take (n + length b) (reverse_aux b r) ++ drop (n + length b + k) (reverse_aux b r) ≡ reverse_aux b (take n r ++ drop (n + k) r)
  without_turned n k b r =
      let e : n + length b + k ≡ (n + k) + length b = omega arith in
      rw (e, take_turned n b r, drop_turned (n + k) b r) (glued b (take n r) (drop (n + k) r))

  -- turned twice
  turned_back : (t u r : List A) → reverse_aux (reverse_aux t u) r ≡ reverse_aux u (t ++ r)
  turned_back [] u r = refl
  turned_back (x ∷ t) u r = turned_back t (x ∷ u) r

  pub twice_turned : (b : List A) → reverse_aux (reverse_aux b []) [] ≡ b
  twice_turned b = turned_back b [] [] ∙ append-nil b

  -- a list is its elements before place i, turned, with the others behind them
  pub apart_at : (l : List A) (i : ℕ) (d : A) → i < length l → reverse_aux (reverse_aux (take i l) []) (get_or l i d ∷ drop (suc i) l) ≡ l
  apart_at l i d h = turned_back (take i l) [] (get_or l i d ∷ drop (suc i) l) ∙ sym (split_at l i d h)

pub map_turned : {A B : Type 0} (f : A → B) (b r : List A) → map f (reverse_aux b r) ≡ reverse_aux (map f b) (map f r)
map_turned f [] r = refl
map_turned f (x ∷ b) r = map_turned f b (x ∷ r)
