-- `handed` meets its contract, field by field. Assumes nothing.
use Rattle.model_code.proofs.handed.Goals as goal

pub returns : goal.returns
returns c =
    let root = c.root_for-root in
    let limits = c.limits_for-limits in
    let rows = c.rows_for-rows in
    let a = c.args in
    λ j. record {
      nodes = a.given.nodes;
      order = (limits.ensures j).order;
      minimum = (limits.ensures j).minimum;
      rows = rows.ensures j;
      root = root.ensures j;
    }
