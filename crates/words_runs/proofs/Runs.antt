-- The laws of `specs/Moves.antt`, of any list: nothing here speaks of bytes. For each loop they say where it starts, what a turn does, and where it ends.
-- Assumes nothing.
use mathlib.Core.Path.{◌≡◌, refl, sym, ap, ◌∙◌}
use mathlib.Core.Bool.{true, false, ◌&&◌, and_assoc, and-true}
use Prim.Native.Nat.{ℕ, zero, suc, ◌+◌, ◌-◌, ◌≤◌, ◌<◌, min}
use native.Mathlib.Nat.{not-suc-le-zero}
use native.Mathlib.Numerals.{add-one}
use native.Mathlib.Omega.{arith}
use native.Mathlib.Decide.{dec_lt}
use mathlib.Core.List.{List, [], ◌∷◌, ◌++◌, append_assoc, append-nil}
use lib.ListN.{length, take, drop, get_or, set, replicate, length-append, length-drop, length-replicate, replicate-append-replicate, take-append-drop, get_or-append}
use lib.Seq.{paste, paste-zero, paste-suc, drop-paste, get_or-drop, get_or-take, drop-cons, take-suc, set_at, append_snoc, length-take-le, take-add, drop-drop}
use lib.Bits.{bit_or, or_zero_l, or_add_and, and_le_r}
use lib.Dec.{eqb, eqb-suc-zero}
use borrow.Author.Tests.{ne_eqb}
use Rattle.words_runs.specs.Moves.{brought, moved, cleared, all_zero}

-- ---- `brought`: the first k words are brought

pub brought_none : (U W : List ℕ) (from to : ℕ) → W ≡ brought U W from to 0
unfolding brought
brought_none U W from to = paste-zero W to (drop from U)

pub brought_more : (U W : List ℕ) (from to k : ℕ) → from + k < length U → to + k < length W
    → set (brought U W from to k) (to + k) (get_or U (from + k) 0) ≡ brought U W from to (k + 1)
unfolding brought
brought_more U W from to k h g =
    let s = drop from U in
    let room : k < length (drop from U) = simp length-drop (omega arith) in
    ap (λ (x : ℕ). set (paste W to s k) (to + k) x) (sym (get_or-drop from U k 0))
    ∙ paste-suc W to s k 0 g room ∙ ap (λ (j : ℕ). paste W to s j) (sym (add-one k))

-- ---- `moved`, to a lower place: what is read is not written yet

pub moved_more : (W : List ℕ) (from to k : ℕ) → to ≤ from → from + k < length W → set (moved W from to k) (to + k) (get_or (moved W from to k) (from + k) 0) ≡ moved W from to (k + 1)
unfolding brought
moved_more W from to k b h =
    let s = drop from W in
    let room : k < length (drop from W) = simp length-drop (omega arith) in
    let e : from + k ≡ to + k + (from - to) = omega arith in
    let read : get_or (paste W to (drop from W) k) (from + k) 0 ≡ get_or W (from + k) 0 =
    ap (λ (j : ℕ). get_or (paste W to s k) j 0) e
    ∙ sym (get_or-drop (to + k) (paste W to s k) (from - to) 0)
    ∙ ap (λ (l : List ℕ). get_or l (from - to) 0) (drop-paste W to s k (omega arith) (omega arith))
    ∙ get_or-drop (to + k) W (from - to) 0 ∙ ap (λ (j : ℕ). get_or W j 0) (sym e) in
    ap (λ (x : ℕ). set (paste W to s k) (to + k) x) read ∙ brought_more W W from to k h (omega arith)

-- ---- `moved`, to a higher place: the words from k on are moved

unfoldable pub moved_from : List ℕ → ℕ → ℕ → ℕ → ℕ → List ℕ
moved_from W from to n k = take (to + k) W ++ take (n - k) (drop (from + k) W) ++ drop (to + n) W

pub from_none : (W : List ℕ) (from to n : ℕ) → W ≡ moved_from W from to n n
unfolding moved_from
from_none W from to n =
    let z : n - n ≡ 0 = omega arith in
    sym (rw (z, append-nil, take-append-drop))

-- the word at `a` goes to `b`, above, which is the last of the words of W that still stand
step_up : (W T D : List ℕ) (a b : ℕ) → a ≤ b → b < length W → set (take (suc b) W ++ T ++ D) b (get_or (take (suc b) W ++ T ++ D) a 0) ≡ take b W ++ get_or W a 0 ∷ T ++ D
step_up W T D a b h k =
    let x = get_or W a 0 in
    let y = get_or W b 0 in
    let read : get_or (take (suc b) W ++ T ++ D) a 0 ≡ get_or W a 0 =
    ap (λ (l : List ℕ). get_or l a 0) (append_assoc (take (suc b) W) T D)
    ∙ get_or-append (take (suc b) W) (T ++ D) 0 a (omega (arith, length-take-le (suc b) W k)) ∙ get_or-take (suc b) W a 0 (omega arith) in
    let split : take (suc b) W ++ T ++ D ≡ take b W ++ y ∷ (T ++ D) =
    append_assoc (take (suc b) W) T D ∙ ap (λ (r : List ℕ). r ++ (T ++ D)) (take-suc W b 0 k) ∙ append_snoc (take b W) y (T ++ D) in
    ap (λ (x : ℕ). set (take (suc b) W ++ T ++ D) b x) read
    ∙ ap (λ (l : List ℕ). set l b x) split
    ∙ set_at (take b W) y (T ++ D) x b (length-take-le b W (omega arith))
    ∙ sym (append_assoc (take b W) (x ∷ T) D)

pub from_more : (W : List ℕ) (from to n k : ℕ) → from ≤ to → to + n ≤ length W → 0 < k → k ≤ n → set (moved_from W from to n k) (to + (k - 1)) (get_or (moved_from W from to n k) (from + (k - 1)) 0) ≡ moved_from W from to n (k - 1)
unfolding moved_from
from_more W from to n zero h r p q = absurd (not-suc-le-zero p)
from_more W from to n (suc k) h r p q =
    let e : suc k - 1 ≡ k = omega arith in
    let a : from + suc k ≡ suc (from + k) = omega arith in
    let b : to + suc k ≡ suc (to + k) = omega arith in
    let m : n - k ≡ suc (n - suc k) = omega arith in
    let inside : from + k < length W = omega arith in
    rw (e, a, b, m, drop-cons W (from + k) 0 inside) (step_up W (take (n - suc k) (drop (suc (from + k)) W)) (drop (to + n) W) (from + k) (to + k) (omega arith) (omega arith))

pub from_all : (W : List ℕ) (from to n : ℕ) → moved_from W from to n 0 ≡ moved W from to n
unfolding moved_from brought
from_all W from to n =
    let a : to + 0 ≡ to = omega arith in
    let b : from + 0 ≡ from = omega arith in
    let z : n - 0 ≡ n = omega arith in
    rw (a, b, z)

-- ---- `cleared`: the first k words are 0

pub cleared_none : (W : List ℕ) (from : ℕ) → W ≡ cleared W from 0
unfolding cleared
cleared_none W from =
    let z : from + 0 ≡ from = omega arith in
    sym (rw (z, append-nil, take-append-drop))

pub cleared_more : (W : List ℕ) (from k : ℕ) → from + k < length W → set (cleared W from k) (from + k) 0 ≡ cleared W from (k + 1)
unfolding cleared
cleared_more W from k h =
    let p = take from W ++ replicate k 0 in
    let rest = drop (suc (from + k)) W in
    let n : length (take from W ++ replicate k 0) ≡ from + k =
    length-append (take from W) (replicate k 0) ∙ omega (arith, length-take-le from W (omega arith), length-replicate {A = ℕ} k 0) in
    let e : from + (k + 1) ≡ suc (from + k) = omega arith in
    ap (λ (r : List ℕ). set (p ++ r) (from + k) 0) (drop-cons W (from + k) 0 h)
    ∙ set_at p (get_or W (from + k) 0) rest 0 (from + k) n
    ∙ sym (append_snoc p 0 rest)
    ∙ ap (λ (r : List ℕ). r ++ rest) (append_assoc (take from W) (replicate k 0) (0 ∷ []) ∙ ap (λ (r : List ℕ). take from W ++ r) (replicate-append-replicate k 1 0))
    ∙ ap (λ (j : ℕ). take from W ++ replicate (k + 1) 0 ++ drop j W) (sym e)

-- ---- `all_zero` of a run, by blocks: the answer is that of the run from k on

zero_append : (a b : List ℕ) → all_zero (a ++ b) ≡ (all_zero a && all_zero b)
unfolding all_zero
zero_append [] b = refl
zero_append (x ∷ a) b = rw (zero_append a b, and_assoc)

pub zero_start : (W : List ℕ) (from n : ℕ) → all_zero (take n (drop from W)) ≡ all_zero (take (n - 0) (drop (from + 0) W))
zero_start W from n =
    let b : from + 0 ≡ from = omega arith in
    let z : n - 0 ≡ n = omega arith in
    rw (b, z)

-- the run from k on is a block of m words and the run from k + m on
zero_block : (W : List ℕ) (from n k m : ℕ) → k + m ≤ n → all_zero (take (n - k) (drop (from + k) W)) ≡ (all_zero (take m (drop (from + k) W)) && all_zero (take (n - (k + m)) (drop (from + (k + m)) W)))
zero_block W from n k m h =
    let e : n - k ≡ m + (n - (k + m)) = omega arith in
    let d : from + (k + m) ≡ from + k + m = omega arith in
    rw (e, d, take-add m (n - (k + m)) (drop (from + k) W), zero_append, drop-drop)

-- a block of b words, or of those that are left, is passed where they are zeros
pub zero_pass : (W : List ℕ) (from n k b : ℕ) → k < n → true ≡ all_zero (take (min b (n - k)) (drop (from + k) W))
    → all_zero (take (n - k) (drop (from + k) W)) ≡ all_zero (take (n - (k + b)) (drop (from + (k + b)) W))
unfolding all_zero
zero_pass W from n k b h z = by (dec_lt n (k + b))
  where
    by : Dec (n < k + b) → all_zero (take (n - k) (drop (from + k) W)) ≡ all_zero (take (n - (k + b)) (drop (from + (k + b)) W))
    by (yes l) =
        let m : min b (n - k) ≡ n - k = omega arith in
        let e : n - (k + b) ≡ 0 = omega arith in
        sym (rw m at z) ∙ rw e refl
    by (no l) =
        let m : min b (n - k) ≡ b = omega arith in
        let y : true ≡ all_zero (take b (drop (from + k) W)) = rw m at z in
        zero_block W from n k b (omega arith) ∙ rw (← y)

-- any other block decides
pub zero_stop : (W : List ℕ) (from n k b : ℕ) → k < n → false ≡ all_zero (take (min b (n - k)) (drop (from + k) W))
    → all_zero (take (n - k) (drop (from + k) W)) ≡ false
zero_stop W from n k b h z = zero_block W from n k (min b (n - k)) (omega arith) ∙ rw (← z)

-- ---- `all_zero` of a block: `bits` joins the first k words

-- a join of bits is 0 if and only if both of its parts are
join_zero : (a b : ℕ) → eqb (bit_or a b) 0 ≡ (eqb a 0 && eqb b 0)
join_zero zero b = ap (λ (x : ℕ). eqb x 0) (or_zero_l b)
join_zero (suc a) b =
    rw (ne_eqb (bit_or (suc a) b) 0 (λ e. omega (arith, or_add_and (suc a) b, and_le_r (suc a) b)), eqb-suc-zero)

pub bits_none : (W : List ℕ) (from : ℕ) → eqb 0 0 ≡ all_zero (take 0 (drop from W))
unfolding all_zero
bits_none W from = refl

pub bits_more : (W : List ℕ) (from k bits : ℕ) → from + k < length W → eqb bits 0 ≡ all_zero (take k (drop from W)) → eqb (bit_or bits (get_or W (from + k) 0)) 0 ≡ all_zero (take (k + 1) (drop from W))
unfolding all_zero
bits_more W from k bits h e =
    let one : take 1 (drop (from + k) W) ≡ get_or W (from + k) 0 ∷ [] = rw (drop-cons W (from + k) 0 h) in
    rw (join_zero, e, take-add k 1 (drop from W), zero_append, drop-drop, one, and-true)
