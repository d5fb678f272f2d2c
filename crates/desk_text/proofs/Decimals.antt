-- The fewest digits that hold a number are its decimal. Assumes nothing.
use Prim.Native.Nat.{ℕ, zero, suc, ◌+◌, ◌-◌, ◌*◌, ◌/◌, ◌%◌, ◌^◌, ◌≤◌, ◌<◌}
use native.Mathlib.Omega.{arith}
use native.Mathlib.Nat.{pow-zero, pow-suc}
use mathlib.Core.Path.{◌≡◌, refl, ap, ◌∙◌}
use mathlib.Core.Bool.{Bool, true, false, cond}
use mathlib.Core.List.{[], ◌∷◌, ◌++◌}
use lib.Dec.{ltb}
use lib.Pow.{pow-add}
use borrow.Author.Tests.{ltb-true, ltb-false, lt-ltb}
use Rattle.io.specs.Digits.{last_digits, hex_digit_ascii, IsDigitCount}
use Rattle.desk_text.specs.Texts.{decimal_in}

-- ten times as much
ten : (k : ℕ) → 10 ^ suc k ≡ 10 ^ k * 10
ten k = pow-suc 10 k

ten_pos : (k : ℕ) → 0 < 10 ^ k
ten_pos zero = omega (arith, pow-zero 10)
ten_pos (suc k) = omega (arith, ten k, ten_pos k)

last_digit : (d : ℕ) → d < 10 → hex_digit_ascii d ≡ 48 + d
last_digit d h = simp (lt-ltb d 10 h) refl

-- a number of one digit has one
one_digit : (n k : ℕ) → n < 10 → IsDigitCount 10 1 n (suc k) → last_digits 10 (suc k) n ≡ (48 + n) ∷ []
one_digit n zero lt f = let same : n % 10 ≡ n = omega arith in ap (λ d. hex_digit_ascii d ∷ []) same ∙ ap (◌∷ []) (last_digit n lt)
one_digit n (suc j) lt f =
    let less : suc (suc j) - 1 ≡ suc j = omega arith in
    let big : 10 ^ (suc (suc j) - 1) ≤ n = f.2 (omega arith) in
    let same : 10 ^ (suc (suc j) - 1) ≡ 10 ^ suc j = ap (10 ^◌) less in
    absurd (omega (arith, big, same, ten j, ten_pos j))

-- any other has its last digit behind those of a tenth of it
tenth : (n k : ℕ) → 10 ≤ n → IsDigitCount 10 1 n (suc k) → IsDigitCount 10 1 (n / 10) k
tenth n zero ge f = absurd (omega (arith, f.1, ten 0, pow-zero 10))
tenth n (suc j) ge f =
    let less : suc (suc j) - 1 ≡ suc j = omega arith in
    let big : 10 ^ (suc (suc j) - 1) ≤ n = f.2 (omega arith) in
    let same : 10 ^ (suc (suc j) - 1) ≡ 10 ^ suc j = ap (10 ^◌) less in
    let one_less : suc j - 1 ≡ j = omega arith in
    let power : 10 ^ (suc j - 1) ≡ 10 ^ j = ap (10 ^◌) one_less in
    (omega arith, omega (arith, f.1, ten (suc j)), λ h. omega (arith, big, same, ten j, power))

pub fewest_decimal : (most n k : ℕ) → k ≤ most → IsDigitCount 10 1 n k → last_digits 10 k n ≡ decimal_in most n
unfolding decimal_in
fewest_decimal most n zero le f = absurd (omega (arith, f.0))
fewest_decimal zero n (suc k) le f = absurd (omega arith)
fewest_decimal (suc most) n (suc k) le f = by (ltb n 10) refl (fewest_decimal most (n / 10) k (omega arith))
  where
    by : (t : Bool) → ltb n 10 ≡ t → (IsDigitCount 10 1 (n / 10) k → last_digits 10 k (n / 10) ≡ decimal_in most (n / 10))
        → last_digits 10 (suc k) n ≡ cond t ((48 + n) ∷ []) (decimal_in most (n / 10) ++ ((48 + n % 10) ∷ []))
    by true e on = one_digit n k (ltb-true n 10 e) f
    by false e on =
        let digit : n % 10 < 10 = omega arith in
        ap (◌++ (hex_digit_ascii (n % 10) ∷ [])) (on (tenth n k (ltb-false n 10 e) f)) ∙ ap (λ d. decimal_in most (n / 10) ++ (d ∷ [])) (last_digit (n % 10) digit)

-- 20 digits are enough for a number of 64 bits
pub few_digits : (n k : ℕ) → n < 2 ^ 64 → IsDigitCount 10 1 n k → k ≤ 20
few_digits n k lt f = by (ltb 20 k) refl
  where
    by : (t : Bool) → ltb 20 k ≡ t → k ≤ 20
    by false e = ltb-false 20 k e
    by true e =
        let more : 20 < k = ltb-true 20 k e in
        let j = k - 21 in
        let is : k - 1 ≡ 20 + j = omega arith in
        let big : 10 ^ (k - 1) ≤ n = f.2 (omega arith) in
        let power : 10 ^ (k - 1) ≡ 10 ^ 20 * 10 ^ j = ap (10 ^◌) is ∙ pow-add 10 20 j in
        absurd (omega (arith, lt, big, power, ten_pos j))
