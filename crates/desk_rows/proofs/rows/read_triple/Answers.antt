-- `read_triple` meets its contract: a row is three numbers, each read behind the one before it. Assumes nothing.
use Rattle.desk_rows.proofs.Fields.{triple_first, triple_second, triple_third, triple_good}
use native.Mathlib.Omega.{arith}
use Rattle.desk_rows.proofs.rows.read_triple.Goals as goal

pub returns-in_err-key : goal.returns-in_err-key
returns-in_err-key c = rw c.from_residual.ensures (triple_first _ _ c.requires c.in_err-key.ensures)

pub returns-in_err-place : goal.returns-in_err-place
returns-in_err-place c =
    let k = c.in_ok-key.ensures in
    rw c.from_residual-in_err-place.ensures (triple_second _ _ c.requires _ _ k.0 k.1 c.in_err-place.ensures)

pub returns-in_err-size : goal.returns-in_err-size
returns-in_err-size c =
    let k = c.in_ok-key.ensures in
    rw c.from_residual-in_err-size.ensures (triple_third _ _ c.requires _ _ k.0 k.1 _ _ c.in_ok-place.ensures c.in_err-size.ensures)

pub returns : goal.returns
returns c =
    let k = c.in_ok-key.ensures in
    let p = c.in_ok-place.ensures in
    let z = c.in_ok-size.ensures in
    (triple_good _ _ c.requires _ _ k.0 k.1 _ _ p _ _ z, omega (arith, k.2, p.2, z.2), z.3)
