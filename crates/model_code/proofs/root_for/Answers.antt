-- `root_for` meets its contract, by its two cases. Assumes nothing.
use mathlib.Core.Path.{◌≡◌, refl, sym, ap}
use mathlib.Core.Logic.{◌≢◌}
use Prim.Native.Nat.{ℕ, zero, suc}
use Rattle.model.specs.Sound.{root_for}
use Rattle.model_code.proofs.root_for.Goals as goal

of-second : (i : ℕ) → i ≢ 0 → ◌≡◌ {A = ℕ} (1) (root_for i)
of-second zero h = absurd (h refl)
of-second (suc i) h = refl

pub returns-then-tree-eq0 : goal.returns-then-tree-eq0
returns-then-tree-eq0 c = sym (ap (root_for) c.if-tree-eq0.true)

pub returns-else-tree-eq0 : goal.returns-else-tree-eq0
returns-else-tree-eq0 c = let a = c.args in of-second a.tree c.if-tree-eq0.false
