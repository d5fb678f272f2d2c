-- Of packing, before there are trees: how much a tree can hold, the height that some entries need, and a list cut into pieces. Assumes nothing.
use mathlib.Core.Path.{◌≡◌, refl, ap, ◌∙◌, subst}
use mathlib.Core.List.{List, [], ◌∷◌, ◌++◌, map}
use Prim.Native.Nat.{ℕ, zero, suc, ◌+◌, ◌*◌, ◌≤◌, ◌<◌}
use native.Mathlib.Omega.{arith}
use native.Mathlib.Decide.{ℕ_discrete}
use native.Mathlib.Nat.{le_of_suc-le-suc, suc-mul, zero-mul, mul-pos, mul-le-mul, mul-le-mul_left, le-mul_of_pos_right, lt_of_mul-lt-mul_right}
use lib.Dec.{leb}
use lib.ListN.{length, take, drop, length-take, length-drop, length-map, take-append-drop}
use borrow.Author.Tests.{leb-true, leb-false}
use Rattle.model.specs.Lists.{concat, All, none, one}
use Rattle.model_pack.specs.Pack.{capacity, height_from, height_for, pieces}
use Rattle.model_pack.specs.Packing.{Full}
use Rattle.model.proofs.Lists.{by_test}

-- WHAT A TREE CAN HOLD

module _ (o : ℕ) (pos : 0 < o) where
  pub capacity_some : (h : ℕ) → 0 < capacity o h
  capacity_some zero = pos
  capacity_some (suc h) = mul-pos pos (capacity_some h)

  -- a higher one no less
  pub capacity_up : (h k : ℕ) → h ≤ k → capacity o h ≤ capacity o k
  capacity_up zero zero le = omega arith
  capacity_up zero (suc k) le = le-mul_of_pos_right o (capacity_some k)
  capacity_up (suc h) zero le = absurd (omega arith)
  capacity_up (suc h) (suc k) le = mul-le-mul_left o (capacity_up h k (le_of_suc-le-suc le))

-- nor one of a greater order
pub capacity_wide : (o p h : ℕ) → o ≤ p → capacity o h ≤ capacity p h
capacity_wide o p zero le = le
capacity_wide o p (suc h) le = mul-le-mul le (capacity_wide o p h le)

-- the order is at most 32 and the height at most 7
pub capacity_most : (o h : ℕ) → o ≤ 32 → h ≤ 7 → capacity o h ≤ 1099511627776
capacity_most o h narrow low =
    let wide : capacity o h ≤ capacity 32 h = capacity_wide o 32 h narrow in
    let high : capacity 32 h ≤ 1099511627776 = capacity_up 32 (omega arith) h 7 low in
    omega arith

-- THE HEIGHT THAT n ENTRIES NEED

module _ (o n : ℕ) where
  from_fits : (more h k : ℕ) → h + more ≡ k → n ≤ capacity o k → n ≤ capacity o (height_from more o n h)
  from_fits zero h k e fit = let z : k ≡ h = omega arith in subst (λ (j : ℕ). n ≤ capacity o j) z fit
  from_fits (suc more) h k e fit =
      by_test (λ (r : ℕ). n ≤ capacity o r) (leb n (capacity o h)) (leb-true n (capacity o h)) (λ t. from_fits more (suc h) k (omega arith) fit)

  from_most : (more h : ℕ) → height_from more o n h ≤ h + more
  from_most zero h = omega arith
  from_most (suc more) h =
      by_test (λ (r : ℕ). r ≤ h + suc more) (leb n (capacity o h)) (λ t. omega arith) (λ t. omega (arith, from_most more (suc h)))

  from_least : (more h k : ℕ) → h ≤ k → n ≤ capacity o k → height_from more o n h ≤ k
  from_least zero h k le fit = le
  from_least (suc more) h k le fit =
      by_test (λ (r : ℕ). r ≤ k) (leb n (capacity o h)) (λ t. le) (λ t. from_least more (suc h) k (above (leb-false n (capacity o h) t) (ℕ_discrete h k)) fit)
    where
      above : capacity o h < n → Dec (h ≡ k) → suc h ≤ k
      above lt (yes e) = absurd (omega (arith, ap (capacity o) e))
      above lt (no ne) = omega arith

  -- it holds them, where a tree of depth 8 can
  pub height_fits : n ≤ capacity o 7 → n ≤ capacity o (height_for o n)
  height_fits fit = from_fits 7 0 7 refl fit

  pub height_most : height_for o n ≤ 7
  height_most = from_most 7 0

  -- and no lower one does
  pub height_least : (h : ℕ) → n ≤ capacity o h → height_for o n ≤ h
  height_least h fit = from_least 7 0 h (omega arith) fit

-- LEVELS THAT ARE FULL

-- one more in front, full if any comes behind it
pub full_cons : (o n : ℕ) (ns : List ℕ) → n ≤ o → (0 < length ns → n ≡ o) → Full o ns → Full o (n ∷ ns)
full_cons o n [] le is f = le
full_cons o n (m ∷ ns) le is f = (is (omega arith), f)

pub full_append : (o : ℕ) {a : List ℕ} (b : List ℕ) → All (λ n. n ≡ o) a → Full o b → Full o (a ++ b)
full_append o b none f = f
full_append o b (one {x = n} {xs = a} e es) f = full_cons o n (a ++ b) (omega arith) (λ t. e) (full_append o b es f)

-- PIECES

module _ {A : Type 0} where
  pieces_of : (most n : ℕ) (l : List A) → 0 < length (pieces most n l) → 0 < length l
  pieces_of zero n l some = absurd (omega arith)
  pieces_of (suc most) n [] some = some
  pieces_of (suc most) n (x ∷ l) some = omega arith

  -- all but the last have n
  pub pieces_full : (most n : ℕ) (l : List A) → Full n (map length (pieces most n l))
  pieces_full zero n l = tt
  pieces_full (suc most) n [] = tt
  pieces_full (suc most) n (x ∷ l) =
      let rest : List (List A) = pieces most n (drop n (x ∷ l)) in
      full_cons n (length (take n (x ∷ l))) (map length rest) (omega (arith, length-take n (x ∷ l)))
      (λ t. let left : 0 < length (drop n (x ∷ l)) = pieces_of most n (drop n (x ∷ l)) (omega (arith, length-map rest length)) in
      omega (arith, length-take n (x ∷ l), length-drop n (x ∷ l)))
      (pieces_full most n (drop n (x ∷ l)))

  rest_long : (most n : ℕ) (l : List A) → length l ≤ suc most * n → length (drop n l) ≤ most * n
  rest_long most n l le = omega (arith, length-drop n l, suc-mul most n)

  pub pieces_join : (most n : ℕ) (l : List A) → length l ≤ most * n → concat (pieces most n l) ≡ l
  pieces_join zero n [] le = refl
  pieces_join zero n (x ∷ l) le = absurd (omega (arith, zero-mul n))
  pieces_join (suc most) n [] le = refl
  pieces_join (suc most) n (x ∷ l) le =
      ap (take n (x ∷ l) ++◌) (pieces_join most n (drop n (x ∷ l)) (rest_long most n (x ∷ l) le)) ∙ take-append-drop n (x ∷ l)

  pub pieces_few : (most n : ℕ) (l : List A) → length (pieces most n l) ≤ most
  pieces_few zero n l = omega arith
  pieces_few (suc most) n [] = omega arith
  pieces_few (suc most) n (x ∷ l) = omega (arith, pieces_few most n (drop n (x ∷ l)))

  -- none has more than n elements ..
  pub pieces_small : (most n : ℕ) (l : List A) → All (λ p. length p ≤ n) (pieces most n l)
  pieces_small zero n l = none
  pieces_small (suc most) n [] = none
  pieces_small (suc most) n (x ∷ l) = one {x = take n (x ∷ l)} (omega (arith, length-take n (x ∷ l))) (pieces_small most n (drop n (x ∷ l)))

  -- .. and none is empty
  pub pieces_some : (most n : ℕ) → 0 < n → (l : List A) → All (λ p. 0 < length p) (pieces most n l)
  pieces_some zero n pos l = none
  pieces_some (suc most) n pos [] = none
  pieces_some (suc most) n pos (x ∷ l) = one {x = take n (x ∷ l)} (omega (arith, length-take n (x ∷ l))) (pieces_some most n pos (drop n (x ∷ l)))

  -- where nothing is left over there are as many as can be, all alike
  pub pieces_even : (most n : ℕ) (l : List A) → length l ≡ most * n → All (λ p. length p ≡ n) (pieces most n l)
  pieces_even zero n l e = none
  pieces_even (suc most) n [] e = none
  pieces_even (suc most) n (x ∷ l) e =
      one {x = take n (x ∷ l)} (omega (arith, length-take n (x ∷ l), suc-mul most n))
      (pieces_even most n (drop n (x ∷ l)) (omega (arith, length-drop n (x ∷ l), suc-mul most n)))

  pub pieces_all : (most n : ℕ) → 0 < n → (l : List A) → length l ≡ most * n → length (pieces most n l) ≡ most
  pieces_all zero n pos l e = refl
  pieces_all (suc most) n pos [] e = absurd (omega (arith, suc-mul most n))
  pieces_all (suc most) n pos (x ∷ l) e = ap suc (pieces_all most n pos (drop n (x ∷ l)) (omega (arith, length-drop n (x ∷ l), suc-mul most n)))

  pieces_cover : (most n : ℕ) (l : List A) → length l ≤ most * n → length l ≤ length (pieces most n l) * n
  pieces_cover zero n l le = le
  pieces_cover (suc most) n [] le = omega arith
  pieces_cover (suc most) n (x ∷ l) le =
      omega (
        arith,
        pieces_cover most n (drop n (x ∷ l)) (rest_long most n (x ∷ l) le),
        length-drop n (x ∷ l),
        suc-mul (length (pieces most n (drop n (x ∷ l)))) n,
      )

  -- there is one where there is anything, and two where it does not go into one
  pub pieces_one : (most n : ℕ) (l : List A) → length l ≤ most * n → 0 < length l → 0 < length (pieces most n l)
  pieces_one most n l le some =
      let cover : length l ≤ length (pieces most n l) * n = pieces_cover most n l le in
      lt_of_mul-lt-mul_right n (omega (arith, zero-mul n))

  pub pieces_two : (most n : ℕ) (l : List A) → length l ≤ most * n → n < length l → 2 ≤ length (pieces most n l)
  pieces_two most n l le over =
      let cover : length l ≤ length (pieces most n l) * n = pieces_cover most n l le in
      lt_of_mul-lt-mul_right n (omega arith)
