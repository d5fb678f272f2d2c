-- `goes_on` meets its contract, direction by direction. Assumes nothing.
use mathlib.Core.Path.{sym, ap, ◌∙◌}
use Rattle.model.specs.declared.Direction.{Direction}
use Rattle.look_scan.specs.Walk.{goes_on_by}
use Rattle.look_scan.proofs.query.goes_on.Goals as goal

pub returns-in-Up : goal.returns-in-Up
returns-in-Up c =
    let a = c.args in
    c.ends.ensures ∙ sym (ap (λ (d : Direction). goes_on_by d a.q.end a.key) c.in-Up.is)
