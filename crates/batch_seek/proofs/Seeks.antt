-- The small steps of the walk: its test, the ceiling, and a node's result. Assumes nothing.
use mathlib.Core.Path.{◌≡◌, refl}
use mathlib.Core.Logic.{◌≢◌}
use mathlib.Core.Bool.{Bool, true, false, ◌||◌}
use mathlib.Core.List.{List}
use Prim.Native.Nat.{ℕ, zero, suc, ◌≤◌, ◌<◌}
use native.Mathlib.Omega.{arith}
use native.Mathlib.Nat.{not-suc-le-zero}
use lib.Dec.{ltb}
use lib.ListN.{length, get_or}
use borrow.Author.Tests.{lt-ltb, le-ltb, le-leb, lt-leb}
use Rattle.model.specs.declared.Settings.{Settings}
use Rattle.model.specs.declared.ChangeResult.TheVariants.{Changed, Absorb, Split}
use Rattle.model.specs.Change.{result_of, is_change, ceiling_for}
use Rattle.model.specs.declared.ChangeResult.{ChangeResult}
use Rattle.batch_effect.proofs.Dues.{due}
use Rattle.batch_seek.specs.Seek.{roams}

-- A NODE'S RESULT

module _ (st : Settings) where
  pub is_changed : (n : ℕ) → n ≢ 0 → n ≤ st.order → st.minimum ≤ n → Changed ≡ result_of st true n
  is_changed zero z a b = absurd (z refl)
  is_changed (suc n) z a b = rw (le-leb (suc n) st.order a, le-leb st.minimum (suc n) b)

  pub is_absorb : (n : ℕ) → n ≢ 0 → n ≤ st.order → n < st.minimum → Absorb ≡ result_of st true n
  is_absorb zero z a b = absurd (z refl)
  is_absorb (suc n) z a b = rw (le-leb (suc n) st.order a, lt-leb st.minimum (suc n) b)

  pub is_split : (n : ℕ) → st.order < n → Split ≡ result_of st true n
  is_split zero a = absurd (not-suc-le-zero a)
  is_split (suc n) a = rw (lt-leb (suc n) st.order a)

pub or_false : (b : Bool) → b ≡ (b || false)
or_false true = refl
or_false false = refl

pub or_true : (b : Bool) → true ≡ (b || true)
or_true true = refl
or_true false = refl

pub or_same : (b : Bool) {v w : ChangeResult} → v ≡ w → (b || is_change w) ≡ (b || is_change v)
or_same b e = rw e

-- THE CEILING

pub low_key : (separator k ceiling : ℕ) → separator < k → k ≡ ceiling_for separator k ceiling
low_key separator k ceiling h = rw (lt-ltb separator k h)

pub low_separator : (separator k ceiling : ℕ) → k ≤ separator → separator < ceiling → separator ≡ ceiling_for separator k ceiling
low_separator separator k ceiling h g = rw (le-ltb separator k h) (omega arith)

pub low_ceiling : (separator k ceiling : ℕ) → k ≤ separator → ceiling ≤ separator → ceiling ≡ ceiling_for separator k ceiling
low_ceiling separator k ceiling h g = rw (le-ltb separator k h) (omega arith)

-- THE TEST

pub roams_yes : (ks : List ℕ) (next ceiling i n : ℕ) → next < length ks → get_or ks next 0 ≤ ceiling → ltb i n ≡ roams ks next ceiling i n
roams_yes ks next ceiling i n h g = rw (due ks next ceiling h g)
