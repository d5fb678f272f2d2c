-- What an answer tells: what is done was not refused; and what a test tells. Assumes nothing.
use mathlib.Core.Path.{◌≡◌, refl, sym, ◌∙◌}
use mathlib.Core.Bool.{Bool, true, false, true≢false}
use Prim.Native.Nat.{ℕ, zero, suc}
use native.Mathlib.Omega.{arith}
use Rattle.model.specs.Answer.{refused, done, unless, Tells}

pub refused_done : {A : Type 0} (n : ℕ) (a : A) → refused n ≡ done a → ⊥
refused_done n a e = let z : ◌≡◌ {A = ℕ} 0 1 = cc in omega arith

pub unless_done : {A : Type 0} (n : ℕ) (a b : A) → unless n a ≡ done b → (n ≡ 0) × (a ≡ b)
unless_done zero a b e = (refl, cc)
unless_done (suc n) a b e = absurd (refused_done (suc n) b e)

pub tells_no : {P : Type 0} → (P → ⊥) → Tells false P
tells_no f = record { holds = λ e. absurd (true≢false (sym e)); told = λ p. absurd (f p) }

pub tells_yes : {P : Type 0} → P → Tells true P
tells_yes p = record { holds = λ e. p; told = λ q. refl }

pub told_no : {P : Type 0} {r : Bool} → Tells r P → r ≡ false → P → ⊥
told_no t e p = true≢false (sym (t.told p) ∙ e)

pub tells_unique : {P : Type 0} {q r : Bool} → Tells q P → Tells r P → q ≡ r
tells_unique {q = true} {r = r} a b = sym (b.told (a.holds refl))
tells_unique {q = false} {r = true} a b = a.told (b.holds refl)
tells_unique {q = false} {r = false} a b = refl
