-- Bytes written into a line, one before the other or one behind the other. Assumes nothing.
use mathlib.Core.Path.{◌≡◌, refl, sym, ap, ◌∙◌}
use Prim.Native.Nat.{ℕ, suc, ◌+◌, ◌-◌, ◌*◌, ◌/◌, ◌%◌, ◌^◌, ◌≤◌, ◌<◌}
use native.Mathlib.Omega.{arith}
use native.Mathlib.Nat.{pow-suc, div-div-eq-div-mul}
use mathlib.Core.List.{List, [], ◌∷◌, ◌++◌, append_assoc, append-nil}
use lib.ListN.{length, take, drop, get_or, set, length-append, take-append-drop}
use lib.Seq.{take-suc, take_at, drop_at, drop-drop, length-take-le, set_at, set-append_left, append_snoc}
use Rattle.slots_raw.specs.Over.{over}
use Rattle.model.specs.Frame.{bytes, digit, hex}
use Rattle.model.proofs.Frames.{hex_long, hex_append}
use Rattle.frame_text.specs.Digits.{spelled}

-- A PART REPLACED

-- one element more in front
pub set_before : (l : List ℕ) (p n : ℕ) (new : List ℕ) (b : ℕ) → p < length l → set (over l (suc p) n new) p b ≡ over l p (suc n) (b ∷ new)
unfolding over
set_before l p n new b h =
    let e : p + suc n ≡ suc p + n = omega arith in
    let front : take (suc p) l ≡ take p l ++ (get_or l p 0 ∷ []) = take-suc l p 0 h in
    let long : length (take p l) ≡ p = length-take-le p l (omega arith) in
    let one : set (take p l ++ (get_or l p 0 ∷ [])) p b ≡ take p l ++ (b ∷ []) = set_at (take p l) (get_or l p 0) [] b p long in
    rw (front, e)
    (set-append_left (take p l ++ (get_or l p 0 ∷ []) ++ new) (drop (suc p + n) l) p b
    (omega (arith, length-append (take p l ++ (get_or l p 0 ∷ [])) new, length-append (take p l) (get_or l p 0 ∷ [])))
    ∙ ap (◌++ drop (suc p + n) l)
    (set-append_left (take p l ++ (get_or l p 0 ∷ [])) new p b (omega (arith, length-append (take p l) (get_or l p 0 ∷ [])))
    ∙ ap (◌++ new) one ∙ append_snoc (take p l) b new))

-- more behind it
pub over_on : (l : List ℕ) (p n m : ℕ) (x y : List ℕ) → length x ≡ n → p ≤ length l → over (over l p n x) (p + n) m y ≡ over l p (n + m) (x ++ y)
unfolding over
over_on l p n m x y e h =
    let long : length (take p l ++ x) ≡ p + n = omega (arith, length-append (take p l) x, length-take-le p l h) in
    let front : take (p + n) (take p l ++ x ++ drop (p + n) l) ≡ take p l ++ x = take_at (take p l ++ x) (drop (p + n) l) (p + n) long in
    let far : drop (p + n + m) (take p l ++ x ++ drop (p + n) l) ≡ drop (p + (n + m)) l =
    sym (drop-drop m (p + n) (take p l ++ x ++ drop (p + n) l)) ∙ ap (drop m) (drop_at (take p l ++ x) (drop (p + n) l) (p + n) long)
    ∙ drop-drop m (p + n) l ∙ ap (λ (k : ℕ). drop k l) (omega_far p n m) in
    ap (λ (s : List ℕ). s ++ y ++ drop (p + n + m) (take p l ++ x ++ drop (p + n) l)) front
    ∙ ap (λ (s : List ℕ). take p l ++ x ++ y ++ s) far
    ∙ ap (◌++ drop (p + (n + m)) l) (append_assoc (take p l) x y)
  where
    omega_far : (p n m : ℕ) → p + n + m ≡ p + (n + m)
    omega_far p n m = omega arith

-- BYTES IN THEIR PLACE

pub spelled_none : (l : List ℕ) (a n : ℕ) → n ≡ 0 → l ≡ spelled l a n []
unfolding over
spelled_none l a n z =
    let e : 2 * a + 2 * n ≡ 2 * a = omega arith in
    rw e (sym (ap (◌++ drop (2 * a) l) (append-nil (take (2 * a) l)) ∙ take-append-drop (2 * a) l))

-- the two digits of a byte in front
pub spelled_before : (l : List ℕ) (a n b : ℕ) (bs : List ℕ) → 2 * (a + 1) ≤ length l
    → set (set (spelled l (a + 1) n bs) (2 * a + 1) (digit (b % 16))) (2 * a) (digit (b / 16)) ≡ spelled l a (n + 1) (b ∷ bs)
spelled_before l a n b bs h =
    let p : 2 * (a + 1) ≡ suc (2 * a + 1) = omega arith in
    let q : 2 * a + 1 ≡ suc (2 * a) = omega arith in
    let m : 2 * (n + 1) ≡ suc (suc (2 * n)) = omega arith in
    rw (p, m, set_before l (2 * a + 1) (2 * n) (hex bs) (digit (b % 16)) (omega arith), q)
    (set_before l (2 * a) (suc (2 * n)) (digit (b % 16) ∷ hex bs) (digit (b / 16)) (omega arith))

-- more bytes behind
pub spelled_on : (l : List ℕ) (a n m : ℕ) (x y : List ℕ) → length x ≡ n → 2 * a ≤ length l
    → spelled (spelled l a n x) (a + n) m y ≡ spelled l a (n + m) (x ++ y)
spelled_on l a n m x y e h =
    let p : 2 * (a + n) ≡ 2 * a + 2 * n = omega arith in
    let q : 2 * (n + m) ≡ 2 * n + 2 * m = omega arith in
    rw (p, q, hex_append x y) (over_on l (2 * a) (2 * n) (2 * m) (hex x) (hex y) (omega (arith, hex_long x)) h)

pub then_on : (l m o : List ℕ) (a n k : ℕ) (x y : List ℕ) → 2 * a ≤ length l → length x ≡ n → m ≡ spelled l a n x → o ≡ spelled m (a + n) k y
    → o ≡ spelled l a (n + k) (x ++ y)
then_on l m o a n k x y h e p q = q ∙ ap (λ (s : List ℕ). spelled s (a + n) k y) p ∙ spelled_on l a n k x y e h

-- a line written from its start
pub spelled_whole : (l : List ℕ) (n : ℕ) (bs : List ℕ) → length bs ≡ n → spelled l 0 n bs ≡ hex bs ++ drop (length (hex bs)) l
unfolding over
spelled_whole l n bs e = let q : length (hex bs) ≡ 2 * n = omega (arith, hex_long bs) in let z : 2 * 0 + 2 * n ≡ 2 * n = omega arith in rw (q, z) refl

-- A NUMBER, its last byte first

-- where the number is written from its byte k on, one byte more
module _ (l : List ℕ) (a value w k : ℕ) (h : k < w) (room : 2 * (a + w) ≤ length l) where
  pub number_more : (rest : ℕ) → rest ≡ value / 256 ^ (w - (k + 1))
      → set (set (spelled l (a + (k + 1)) (w - (k + 1)) (bytes (w - (k + 1)) value)) (2 * (a + k) + 1) (digit (rest % 256 % 16)))
      (2 * (a + k)) (digit (rest % 256 / 16))
      ≡ spelled l (a + k) (w - k) (bytes (w - k) value)
  number_more rest e =
      let p : a + (k + 1) ≡ a + k + 1 = omega arith in
      let m : w - k ≡ suc (w - (k + 1)) = omega arith in
      let q : suc (w - (k + 1)) ≡ w - (k + 1) + 1 = omega arith in
      rw (p, m, e) (spelled_before l (a + k) (w - (k + 1)) (value / 256 ^ (w - (k + 1)) % 256) (bytes (w - (k + 1)) value) (omega arith)
      ∙ ap (λ (n : ℕ). spelled l (a + k) n (bytes (suc (w - (k + 1))) value)) (sym q))

  pub rest_more : (rest : ℕ) → rest ≡ value / 256 ^ (w - (k + 1)) → rest / 256 ≡ value / 256 ^ (w - k)
  rest_more rest e =
      let m : w - k ≡ suc (w - (k + 1)) = omega arith in
      rw (e, m) (div-div-eq-div-mul value (256 ^ (w - (k + 1))) 256 ∙ ap (value /◌) (sym (pow-suc 256 (w - (k + 1)))))
