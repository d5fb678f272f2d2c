-- `next_number` meets its contract: where the line goes on, a space ends the field, and the next one begins behind it. Assumes nothing.
use native.Mathlib.Omega.{arith}
use Rattle.desk_rows.proofs.Fields.{next_is}
use Rattle.desk_rows.proofs.rows.next_number.Goals as goal

pub returns : goal.returns
returns c =
    let a = c.args in
    next_is a.line.now a.end a.most c.read_number.result (omega (arith, c.requires.0, c.if-end-line.false))
    c.read_number.ensures
