-- `batch` meets its contract: where the tree was not found the call refuses (`batch_refused`), and where it was it is known (`found_known`), and what is
-- stored in it keeps the promise (`found_stored`). Assumes nothing.
use mathlib.Core.Path.{refl}
use Rattle.std.proofs.lemmas.Result.{err_from_is_err_and}
use Rattle.model.specs.Refuse.{called}
use Rattle.index.proofs.Found.{batch_refused, found_known, found_stored}
use Rattle.index.proofs.batch.Goals as goal

pub returns-in_err-at : goal.returns-in_err-at
returns-in_err-at c =
    let a = c.args in
    let p = err_from_is_err_and c.from_residual.result c.from_residual.ensures.1 in
    rw (p.1, p.2) (batch_refused a.tree (called a.batch.now) _ c.in_err-at.ensures.refusal)

pub store-stored-requires : goal.store-stored-requires
store-stored-requires c = found_known (c.in_ok-at.ensures.tree _ refl)

pub returns : goal.returns
returns c =
    let a = c.args in
    found_stored (c.in_ok-at.ensures.tree _ refl) (called a.batch.now) c.store-stored.result.answer _
    c.store-stored.ensures.promise
