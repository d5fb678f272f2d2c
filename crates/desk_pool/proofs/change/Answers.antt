-- `change` meets its contract: a batch, and what it answered as text. Assumes nothing.
use Rattle.model.specs.Refuse.{called}
use Rattle.desk_pool.proofs.Tells.{batch_done, batch_refused}
use Rattle.desk_pool.proofs.change.Goals as goal

pub returns-in-Ok : goal.returns-in-Ok
returns-in-Ok c =
    let a = c.args in
    let b = c.batch in
    let d = c.say_done.ensures in
    batch_done (called a.batch.now) a.pool.now _ a.text.now _ _ _ d.end d.written b.result c.in-Ok.is b.ensures

pub returns-in-Err : goal.returns-in-Err
returns-in-Err c =
    let a = c.args in
    let b = c.batch in
    let d = c.say_refused.ensures in
    batch_refused (called a.batch.now) a.pool.now _ a.text.now _ _ _ d.end d.written b.result c.in-Err.is b.ensures
