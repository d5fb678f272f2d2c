-- `height_for` meets its contract, by its two cases. Assumes nothing.
use mathlib.Core.Path.{◌≡◌, refl, sym, ap}
use mathlib.Core.Logic.{◌≢◌}
use Prim.Native.Nat.{ℕ, zero, suc}
use Rattle.survey.specs.declared.Findings.{Findings}
use Rattle.survey.specs.Promises.{height_for}
use Rattle.index_named.proofs.height_for.Goals as goal

of-second : (f : Findings) (i : ℕ) → i ≢ 0 → f.second ≡ height_for i f
of-second f zero h = absurd (h refl)
of-second f (suc i) h = refl

pub returns-then-tree-eq0 : goal.returns-then-tree-eq0
returns-then-tree-eq0 c = let a = c.args in sym (ap (λ (i : ℕ). height_for i a.found) c.if-tree-eq0.true)

pub returns-else-tree-eq0 : goal.returns-else-tree-eq0
returns-else-tree-eq0 c = let a = c.args in of-second a.found a.tree c.if-tree-eq0.false
