-- `place_in` meets its contract, direction by direction. Assumes nothing.
use mathlib.Core.Path.{sym, ap}
use native.Mathlib.Omega.{arith}
use Rattle.model.specs.declared.Direction.{Direction}
use Rattle.look_scan.specs.Walk.{place_in}
use Rattle.look_scan.proofs.query.place_in.Goals as goal

pub returns-in-Down : goal.returns-in-Down
returns-in-Down c =
    let a = c.args in
    record { is = sym (ap (λ (d : Direction). place_in d a.n a.j) c.in-Down.is); inside = omega (arith, c.requires) }
