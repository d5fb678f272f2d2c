-- `store` meets its contract: the refusal is the model's (`store_refused`); where there is none the batch may begin (`store_accepted`), and what it has done
-- keeps the promise (`store_done`) and is known (`store_known`). Assumes nothing.
use Rattle.model.specs.Refuse.{called}
use Rattle.index_known.proofs.Batched.{narrow, store_refused, store_accepted, store_done, store_known}
use Rattle.index_known.proofs.store.Goals as goal

pub check_batch-requires : goal.check_batch-requires
check_batch-requires c = narrow c.requires

pub returns-in-Err-clause-promise : goal.returns-in-Err-clause-promise
returns-in-Err-clause-promise c =
    store_refused c.requires (called c.args.batch.now) c.in-Err.why c.in-Err.ensures

pub batch-ran-requires : goal.batch-ran-requires
batch-ran-requires c =
    let asked = called c.args.batch.now in
    store_accepted c.requires asked c.in_default.ensures
    c.numbers_fit.ensures

pub returns-clause-promise : goal.returns-clause-promise
returns-clause-promise c =
    let asked = called c.args.batch.now in
    let ran = c.batch-ran in
    store_done c.requires asked c.in_default.ensures
    c.numbers_fit.ensures ran.new.pool ran.result ran.ensures ran.auto.pool
    (λ i. (c.type_inv.pool i).fits)

pub returns-clause-again : goal.returns-clause-again
returns-clause-again c =
    let asked = called c.args.batch.now in
    let ran = c.batch-ran in
    store_known c.requires asked c.in_default.ensures
    c.numbers_fit.ensures ran.new.pool ran.result ran.ensures ran.auto.pool
    (λ i. (c.type_inv.pool i).fits)
