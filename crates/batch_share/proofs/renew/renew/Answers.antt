-- `renew` meets its contract: the row that is written is the one that was worked out. Assumes nothing.
use mathlib.Core.Path.{ap}
use lib.ListN.{set}
use Rattle.words.specs.Words.{words}
use Rattle.slots_raw.specs.declared.Row.{Row}
use Rattle.slots.specs.Nodes.{nodes, nth, put_rows}
use Rattle.slots.proofs.Nodes.{become}
use Rattle.batch_share.proofs.renew.renew.Goals as goal

pub returns : goal.returns
returns c =
    let a = c.args in
    let W = words a.pool.now in
    let ns = nodes a.st W in
    become a.st W (words c.set_row.new.pool) _ _ c.set_row.ensures
    (ap (λ (r : Row). put_rows ns a.at.parent (set (nth ns a.at.parent).rows a.at.row r)) c.weigh-row.ensures)
