-- Kinds as a tree sees them: seen twice they are as they were. Assumes nothing.
use mathlib.Core.Path.{◌≡◌, refl, sym, ap, ◌∙◌}
use mathlib.Core.Logic.{◌≢◌}
use Prim.Native.Nat.{ℕ, zero, suc, ◌+◌, ◌-◌, ◌≤◌, ◌<◌}
use native.Mathlib.Omega.{arith}
use native.Mathlib.Decide.{dec_lt}
use borrow.Author.Tests.{lt-ltb, le-ltb}
use Rattle.slots_raw.specs.Slots.{Raw, seen, viewed}

-- from slot 0 a kind is seen as it is stored
pub seen_own : (k : ℕ) → seen 0 k ≡ k
unfolding seen
seen_own zero = refl
seen_own (suc k) = refl

module _ (root : ℕ) (some : root ≢ 0) where
  -- from another slot 1 and 2 are seen as 3 and 4 ..
  pub seen_low : (k : ℕ) → k ≢ 0 → k < 3 → seen root k ≡ k + 2
  unfolding seen
  seen_low zero h lt = absurd (h refl)
  seen_low (suc k) h lt = by root some
    where
      by : (root : ℕ) → root ≢ 0 → seen root (suc k) ≡ suc k + 2
      by zero h = absurd (h refl)
      by (suc root) h = rw (lt-ltb (suc k) 3 lt) refl

  -- .. 3 and 4 as 1 and 2 ..
  pub seen_high : (k : ℕ) → 3 ≤ k → k < 5 → seen root k ≡ k - 2
  unfolding seen
  seen_high zero ge lt = absurd (omega arith)
  seen_high (suc k) ge lt = by root some
    where
      by : (root : ℕ) → root ≢ 0 → seen root (suc k) ≡ suc k - 2
      by zero h = absurd (h refl)
      by (suc root) h = rw (le-ltb (suc k) 3 ge, lt-ltb (suc k) 5 lt) refl

  -- .. and any other as it is
  pub seen_past : (k : ℕ) → 5 ≤ k → seen root k ≡ k
  unfolding seen
  seen_past zero ge = absurd (omega arith)
  seen_past (suc k) ge = by root some
    where
      by : (root : ℕ) → root ≢ 0 → seen root (suc k) ≡ suc k
      by zero h = absurd (h refl)
      by (suc root) h = rw (le-ltb (suc k) 3 (omega (arith, ge)), le-ltb (suc k) 5 ge) refl

-- twice
pub seen_back : (root k : ℕ) → seen root (seen root k) ≡ k
unfolding seen
seen_back zero k = seen_own (seen 0 k) ∙ seen_own k
seen_back (suc root) zero = refl
seen_back (suc root) (suc k) = by (dec_lt (suc k) 3) (dec_lt (suc k) 5)
  where
    some : suc root ≢ 0
    some e = absurd (omega arith)

    by : Dec (suc k < 3) → Dec (suc k < 5) → seen (suc root) (seen (suc root) (suc k)) ≡ suc k
    by (yes lt) d =
        ap (seen (suc root)) (seen_low (suc root) some (suc k) (λ e. omega arith) lt) ∙ seen_high (suc root) some (suc k + 2) (omega arith) (omega arith) ∙ omega arith
    by (no ge) (yes lt) =
        let e : suc k - 2 + 2 ≡ suc k = omega arith in
        ap (seen (suc root)) (seen_high (suc root) some (suc k) (omega arith) lt) ∙ seen_low (suc root) some (suc k - 2) (λ z. omega arith) (omega arith) ∙ e
    by (no a) (no ge) =
        let past : 5 ≤ suc k = omega arith in
        ap (seen (suc root)) (seen_past (suc root) some (suc k) past) ∙ seen_past (suc root) some (suc k) past

-- a slot too
pub viewed_back : (root : ℕ) (r : Raw) → viewed root (viewed root r) ≡ r
viewed_back root r = ap (λ (k : ℕ). record { kind = k; count = r.count; cells = r.cells }) (seen_back root r.kind)

-- so an unused slot is seen as one from everywhere, and no other is
pub seen_unused : (root k : ℕ) → seen root k ≡ 0 → k ≡ 0
unfolding seen
seen_unused root k e = sym (seen_back root k) ∙ ap (seen root) e

-- and a kind of a node as one, whoever sees it
pub seen_few : (root k : ℕ) → k ≤ 4 → seen root k ≤ 4
unfolding seen
seen_few root zero le = omega arith
seen_few zero (suc k) le = le
seen_few (suc root) (suc k) le = by (dec_lt (suc k) 3)
  where
    some : suc root ≢ 0
    some e = absurd (omega arith)

    by : Dec (suc k < 3) → seen (suc root) (suc k) ≤ 4
    by (yes lt) = rw (seen_low (suc root) some (suc k) (λ e. omega arith) lt) (omega arith)
    by (no ge) = rw (seen_high (suc root) some (suc k) (omega arith) (omega arith)) (omega arith)
