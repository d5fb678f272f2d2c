-- `read_rows` meets its contract. The loop's invariant: the rows up to `at` are read (`SoFar`). Assumes nothing.
use Rattle.desk_rows.proofs.Fields.{rows_more, rows_done}
use Rattle.desk_rows.proofs.rows.read_rows.Goals as goal

pub loop-at-preserved : goal.loop-at-preserved
loop-at-preserved c = let g = c.in_ok-row.ensures in rows_more c.loop-at.invariant _ _ _ _ g.0 g.1 g.2

pub returns-clause-read : goal.returns-clause-read
returns-clause-read c = (rows_done c.loop-at.invariant c.loop-at-test.false).0
