-- `least_root` meets its contract: its test is the definition's. Assumes nothing.
use mathlib.Core.Path.{◌≡◌, refl}
use Prim.Native.Nat.{ℕ, zero, suc}
use Rattle.survey_node.specs.Parts.{least_root}
use Rattle.survey.proofs.walk.least_root.Goals as goal

high : (h : ℕ) → (h ≡ 0 → ⊥) → 2 ≡ least_root h
high zero ne = absurd (ne refl)
high (suc h) ne = refl

pub returns-else-height-eq0 : goal.returns-else-height-eq0
returns-else-height-eq0 c = high c.args.height c.if-height-eq0.false
