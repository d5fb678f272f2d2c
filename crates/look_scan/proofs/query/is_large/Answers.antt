-- `is_large` meets its contract: `least_size` is what a sift asks. Assumes nothing.
use mathlib.Core.Path.{ap}
use Prim.Native.Nat.{ℕ}
use lib.Dec.{leb}
use Rattle.look_scan.proofs.query.is_large.Goals as goal

pub returns : goal.returns
returns c = ap (λ (s : ℕ). leb s c.args.size) c.least_size-least.ensures
