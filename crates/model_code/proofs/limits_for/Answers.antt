-- `limits_for` meets its contract, by its two cases. Assumes nothing.
use mathlib.Core.Path.{◌≡◌, refl, sym, ap}
use mathlib.Core.Logic.{◌≢◌}
use Prim.Native.Nat.{ℕ, zero, suc}
use Rattle.model.specs.declared.Limits.{Limits}
use Rattle.model.specs.declared.PoolSettings.{PoolSettings}
use Rattle.model.specs.Sound.{limits_for}
use Rattle.model_code.proofs.limits_for.Goals as goal

of-second : (given : PoolSettings) (i : ℕ) → i ≢ 0 → ◌≡◌ {A = Limits} given.second (limits_for given i)
of-second given zero h = absurd (h refl)
of-second given (suc i) h = refl

pub returns-then-tree-eq0 : goal.returns-then-tree-eq0
returns-then-tree-eq0 c = let a = c.args in sym (ap (limits_for a.given) c.if-tree-eq0.true)

pub returns-else-tree-eq0 : goal.returns-else-tree-eq0
returns-else-tree-eq0 c = let a = c.args in of-second a.given a.tree c.if-tree-eq0.false
