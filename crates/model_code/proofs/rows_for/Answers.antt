-- `rows_for` meets its contract: twice the larger order. Assumes nothing.
use mathlib.Core.Path.{ap}
use Prim.Native.Nat.{ℕ, ◌*◌}
use Rattle.model.specs.Sound.{rows_for}
use Rattle.model_code.proofs.rows_for.Goals as goal

pub returns : goal.returns
unfolding rows_for
returns c = ap (λ (n : ℕ). 2 * n) c.max.ensures
