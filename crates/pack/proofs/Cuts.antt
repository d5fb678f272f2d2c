-- Entries of the source, cut: what a child takes of its parent's entries, and what is left for the others. Assumes nothing.
use mathlib.Core.Path.{◌≡◌, sym, ap, ◌∙◌}
use mathlib.Core.List.{List}
use Prim.Native.Nat.{ℕ, ◌+◌, ◌-◌, ◌≤◌, min}
use native.Mathlib.Omega.{arith}
use native.Mathlib.Decide.{dec_le}
use lib.ListN.{length, take, drop, length-take, length-drop, drop_of_length-le}
use lib.Seq.{take_all, take-take, take-add, drop-drop, drop_at, length-take-le}

module _ {A : Type 0} where
  pub drop_take : (m n : ℕ) (l : List A) → m ≤ n → n ≤ length l → drop m (take n l) ≡ take (n - m) (drop m l)
  drop_take m n l le long =
      let e : n ≡ m + (n - m) = omega arith in
      ap (λ (k : ℕ). drop m (take k l)) e ∙ ap (drop m) (take-add m (n - m) l)
      ∙ drop_at (take m l) (take (n - m) (drop m l)) m (length-take-le m l (omega arith))

  -- of the n elements from a on, the first `most` behind the first m of them
  module _ (l : List A) (a n m most : ℕ) (le : m ≤ n) (long : a + n ≤ length l) where
    abbrev part : List A
    part = take n (drop a l)

    behind : drop m part ≡ take (n - m) (drop (a + m) l)
    behind = drop_take m n (drop a l) le (omega (arith, length-drop a l)) ∙ ap (take (n - m)) (drop-drop m a l)

    pub part_length : length part ≡ n
    part_length = length-take-le n (drop a l) (omega (arith, length-drop a l))

    pub piece_taken : take (min most (n - m)) (drop (a + m) l) ≡ take most (drop m part)
    piece_taken = by (dec_le most (n - m))
      where
        by : Dec (most ≤ n - m) → take (min most (n - m)) (drop (a + m) l) ≡ take most (drop m part)
        by (yes f) =
            let e : min most (n - m) ≡ most = omega arith in
            ap (λ (k : ℕ). take k (drop (a + m) l)) e ∙ sym (take-take most (n - m) (drop (a + m) l) f) ∙ ap (take most) (sym behind)
        by (no f) =
            let e : min most (n - m) ≡ n - m = omega arith in
            ap (λ (k : ℕ). take k (drop (a + m) l)) e
            ∙ sym (take_all most (take (n - m) (drop (a + m) l)) (omega (arith, length-take (n - m) (drop (a + m) l)))) ∙ ap (take most) (sym behind)

    pub rest_left : drop most (drop m part) ≡ drop (m + min most (n - m)) part
    rest_left = by (dec_le most (n - m))
      where
        by : Dec (most ≤ n - m) → drop most (drop m part) ≡ drop (m + min most (n - m)) part
        by (yes f) = let e : m + most ≡ m + min most (n - m) = omega arith in drop-drop most m part ∙ ap (λ (k : ℕ). drop k part) e
        by (no f) =
            drop_of_length-le (drop m part) {i = most} (omega (arith, length-drop m part, part_length))
            ∙ sym (drop_of_length-le part {i = m + min most (n - m)} (omega (arith, part_length)))
