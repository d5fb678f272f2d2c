-- `read_key` meets its contract: a row is one number. Assumes nothing.
use Rattle.desk_rows.proofs.Fields.{key_bad, key_good}
use Rattle.desk_rows.proofs.rows.read_key.Goals as goal

pub returns-in_err-key : goal.returns-in_err-key
returns-in_err-key c = rw c.from_residual.ensures (key_bad _ _ c.requires c.in_err-key.ensures)

pub returns : goal.returns
returns c = let g = c.in_ok-key.ensures in (key_good _ _ c.requires _ _ g.0 g.1, g.2, g.3)
