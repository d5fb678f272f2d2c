-- The laws of `specs/Over.antt`, of any list: a part is replaced or read within a part, behind a part, and under a map. Assumes nothing.
use mathlib.Core.Path.{◌≡◌, refl, sym, ap, ◌∙◌}
use Prim.Native.Nat.{ℕ, zero, suc, ◌+◌, ◌-◌, ◌≤◌, ◌<◌}
use native.Mathlib.Numerals.{add-one}
use native.Mathlib.Omega.{arith}
use mathlib.Core.List.{List, [], ◌∷◌, ◌++◌, map, append_assoc}
use lib.ListN.{length, take, drop, get_or, set, replicate, length-append, length-drop, length-replicate, replicate-append-replicate, take-append-drop, get_or-append}
use lib.Seq.{take-append-le, drop-append-le, take_at, drop_at, drop-drop, length-take-le, take-take, take-add, get_or-take, get_or-drop, set_split, append_snoc}
use Rattle.slots_raw.specs.Over.{over, part}

module _ {ℓ} {A : Type ℓ} where
  -- ---- lengths

  pub length_over : (l : List A) (at n : ℕ) (new : List A) → at + n ≤ length l → length new ≡ n → length (over l at n new) ≡ length l
  unfolding over
  length_over l at n new h e = simp (length-append, length-drop) (omega (arith, length-take-le at l (omega arith)))

  pub length_part : (l : List A) (at n : ℕ) → at + n ≤ length l → length (part l at n) ≡ n
  unfolding part
  length_part l at n h = length-take-le n (drop at l) (omega (arith, length-drop at l))

  -- ---- three lists, one after the other

  -- the middle of three is replaced, and read
  pub over_seam : (a b c new : List A) (at n : ℕ) → length a ≡ at → length b ≡ n → over (a ++ b ++ c) at n new ≡ a ++ new ++ c
  unfolding over
  over_seam a b c new at n ea eb =
      let x : take at (a ++ b ++ c) ≡ a = ap (take at) (append_assoc a b c) ∙ take_at a (b ++ c) at ea in
      let y : drop (at + n) (a ++ b ++ c) ≡ c = drop_at (a ++ b) c (at + n) (length-append a b ∙ omega arith) in
      rw (x, y)

  pub part_seam : (a b c : List A) (at n : ℕ) → length a ≡ at → length b ≡ n → part (a ++ b ++ c) at n ≡ b
  unfolding part
  part_seam a b c at n ea eb =
      ap (λ (l : List A). take n (drop at l)) (append_assoc a b c) ∙ ap (take n) (drop_at a (b ++ c) at ea) ∙ take_at b c n eb

  -- a list is what stands before a part, the part, and what stands after it
  pub split3 : (l : List A) (at n : ℕ) → l ≡ take at l ++ part l at n ++ drop (at + n) l
  unfolding part
  split3 l at n =
      sym (append_assoc (take at l) (take n (drop at l)) (drop (at + n) l)
      ∙ ap (λ (r : List A). take at l ++ (take n (drop at l) ++ r)) (sym (drop-drop n at l))
      ∙ ap (take at l ++◌) (take-append-drop n (drop at l)) ∙ take-append-drop at l)

  -- ---- a part replaced

  -- what stands before is kept
  pub over_back : (l : List A) (k p n : ℕ) (new : List A) → over l (k + p) n new ≡ take k l ++ over (drop k l) p n new
  unfolding over
  over_back l k p n new =
      let e : k + (p + n) ≡ k + p + n = omega arith in
      rw (take-add k p l, drop-drop (p + n) k l, e)
      (ap (◌++ drop (k + p + n) l) (append_assoc (take k l) (take p (drop k l)) new)
      ∙ append_assoc (take k l) (take p (drop k l) ++ new) (drop (k + p + n) l))

  -- what stands after is kept
  pub over_front : (l : List A) (k o n : ℕ) (new : List A) → o + n ≤ k → k ≤ length l → over l o n new ≡ over (take k l) o n new ++ drop k l
  unfolding over
  over_front l k o n new h hk =
      let rest : drop (o + n) l ≡ drop (o + n) (take k l) ++ drop k l =
      ap (drop (o + n)) (sym (take-append-drop k l)) ∙ drop-append-le (o + n) (take k l) (drop k l) (omega (arith, length-take-le k l hk)) in
      let first : take o l ≡ take o (take k l) = sym (take-take o k l (omega arith)) in
      ap (λ (r : List A). r ++ new ++ drop (o + n) l) first
      ∙ ap (λ (r : List A). take o (take k l) ++ new ++ r) rest ∙ sym (append_assoc (take o (take k l) ++ new) (drop (o + n) (take k l)) (drop k l))

  -- a part of a part is replaced
  pub over_inside : (l : List A) (b k o n : ℕ) (new : List A) → b + k ≤ length l → o + n ≤ k → over l (b + o) n new ≡ over l b k (over (part l b k) o n new)
  unfolding part over
  over_inside l b k o n new h g =
      over_back l b o n new
      ∙ ap (take b l ++◌) (over_front (drop b l) k o n new g (omega (arith, length-drop b l)))
      ∙ sym (append_assoc (take b l) (over (take k (drop b l)) o n new) (drop k (drop b l)))
      ∙ ap (λ (r : List A). take b l ++ over (take k (drop b l)) o n new ++ r) (drop-drop k b l)

  pub drop_over : (l : List A) (k p n : ℕ) (new : List A) → k ≤ length l → drop k (over l (k + p) n new) ≡ over (drop k l) p n new
  drop_over l k p n new h = ap (drop k) (over_back l k p n new) ∙ drop_at (take k l) (over (drop k l) p n new) k (length-take-le k l h)

  pub take_over : (l : List A) (k p n : ℕ) (new : List A) → k ≤ length l → take k (over l (k + p) n new) ≡ take k l
  take_over l k p n new h = ap (take k) (over_back l k p n new) ∙ take_at (take k l) (over (drop k l) p n new) k (length-take-le k l h)

  pub get_d_over : (l : List A) (k p n : ℕ) (new : List A) (j : ℕ) (d : A) → k ≤ length l → j < k → get_or (over l (k + p) n new) j d ≡ get_or l j d
  get_d_over l k p n new j d h g =
      ap (λ (r : List A). get_or r j d) (over_back l k p n new)
      ∙ get_or-append (take k l) (over (drop k l) p n new) d j (omega (arith, length-take-le k l h)) ∙ get_or-take k l j d g

  pub set_over : (l : List A) (i : ℕ) (v : A) → i < length l → set l i v ≡ over l i 1 (v ∷ [])
  unfolding over
  set_over l i v h = set_split l i v h ∙ rw (add-one i) (sym (append_snoc (take i l) v (drop (suc i) l)))

  -- ---- a part read

  pub get_d_part : (l : List A) (b k j : ℕ) (d : A) → j < k → get_or (part l b k) j d ≡ get_or l (b + j) d
  unfolding part
  get_d_part l b k j d h = get_or-take k (drop b l) j d h ∙ get_or-drop b l j d

  pub part_drop : (l : List A) (k p n : ℕ) → part l (k + p) n ≡ part (drop k l) p n
  unfolding part
  part_drop l k p n = ap (take n) (sym (drop-drop p k l))

  -- a part of a part
  pub part_inside : (l : List A) (b k o n : ℕ) → b + k ≤ length l → o + n ≤ k → part l (b + o) n ≡ part (part l b k) o n
  unfolding part
  part_inside l b k o n h g =
      let p = take k (drop b l) in
      let size : length (take k (drop b l)) ≡ k = length_part l b k h in
      ap (take n)
      (sym (drop-drop o b l) ∙ ap (drop o) (sym (take-append-drop k (drop b l))) ∙ drop-append-le o p (drop k (drop b l)) (omega arith))
      ∙ take-append-le n (drop o p) (drop k (drop b l)) (omega (arith, length-drop o p))

  -- ---- many of one

  pub drop_replicate : (a : A) (d e : ℕ) → d ≤ e → drop d (replicate e a) ≡ replicate (e - d) a
  drop_replicate a d e h =
      let s : e ≡ d + (e - d) = omega arith in
      ap (λ (j : ℕ). drop d (replicate j a)) s
      ∙ ap (drop d) (sym (replicate-append-replicate d (e - d) a)) ∙ drop_at (replicate d a) (replicate (e - d) a) d (length-replicate d a)

module _ {A B : Type 0} (f : A → B) where
  -- ---- under a map

  pub map_append : (a b : List A) → map f (a ++ b) ≡ map f a ++ map f b
  map_append [] b = refl
  map_append (x ∷ a) b = ap (f x ∷◌) (map_append a b)

  pub map_take : (n : ℕ) (l : List A) → map f (take n l) ≡ take n (map f l)
  map_take zero l = refl
  map_take (suc n) [] = refl
  map_take (suc n) (x ∷ l) = ap (f x ∷◌) (map_take n l)

  pub map_drop : (n : ℕ) (l : List A) → map f (drop n l) ≡ drop n (map f l)
  map_drop zero l = refl
  map_drop (suc n) [] = refl
  map_drop (suc n) (x ∷ l) = map_drop n l

  pub map_set : (l : List A) (i : ℕ) (x : A) → map f (set l i x) ≡ set (map f l) i (f x)
  map_set [] i x = refl
  map_set (y ∷ l) zero x = refl
  map_set (y ∷ l) (suc i) x = ap (f y ∷◌) (map_set l i x)

  pub map_over : (l : List A) (at n : ℕ) (new : List A) → map f (over l at n new) ≡ over (map f l) at n (map f new)
  unfolding over
  map_over l at n new =
      map_append (take at l ++ new) (drop (at + n) l) ∙ ap (◌++ map f (drop (at + n) l)) (map_append (take at l) new)
      ∙ rw (map_take at l, map_drop (at + n) l)

  pub map_part : (l : List A) (at n : ℕ) → map f (part l at n) ≡ part (map f l) at n
  unfolding part
  map_part l at n = map_take n (drop at l) ∙ ap (take n) (map_drop at l)
