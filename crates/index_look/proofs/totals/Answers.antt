-- `totals` meets its contract: where the tree was not found the call refuses (`totals_refused`), and where it was the totals are the model's
-- (`totals_told`). Assumes nothing.
use mathlib.Core.Path.{◌≡◌, refl, ap}
use Rattle.std.proofs.lemmas.Result.{err_from_is_err_and}
use Rattle.model.specs.Answer.{number, code}
use Rattle.index_look.proofs.Keeps.{totals_refused, totals_told}
use Rattle.index_look.proofs.totals.Goals as goal

pub returns-in_err-named : goal.returns-in_err-named
returns-in_err-named c =
    let p = err_from_is_err_and c.from_residual.result c.from_residual.ensures.1 in
    let e : code c.find.result ≡ number c.in_err-named.field-0.0 = ap code c.in_err-named.was in
    rw (p.1, p.2) (totals_refused c.args.tree _ (rw e at c.find.ensures.refusal))

pub totals-totals-requires : goal.totals-totals-requires
totals-totals-requires c = (c.in_ok-named.ensures.tree _ refl).pool

pub returns : goal.returns
returns c = totals_told (c.in_ok-named.ensures.tree _ refl) _ c.totals-totals.result refl c.totals-totals.ensures
