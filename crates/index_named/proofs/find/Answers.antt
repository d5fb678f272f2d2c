-- `find` meets its contract: the survey tells whether the pool is sound; where it is not the answer is 2 (`no_pool`), and where it is but has no such
-- tree 19; else what was found is the tree's own (`known`). Assumes nothing.
use Rattle.std.proofs.lemmas.Result.{err_from_is_err_and}
use native.Mathlib.Omega.{arith}
use Rattle.survey.proofs.Founds.{unsound, limits}
use Rattle.index_named.proofs.Trees.{no_pool, known}
use Rattle.index_named.proofs.find.Goals as goal

pub returns-in_err-found : goal.returns-in_err-found
returns-in_err-found c =
    let p = err_from_is_err_and c.from_residual.result c.from_residual.ensures.1 in
    let none = unsound c.survey.result _ c.survey.ensures c.in_err-found.ensures.value in
    rw (p.1, p.2, none.0) (no_pool c.args.tree none.1)

pub handed-settings-requires : goal.handed-settings-requires
handed-settings-requires c = limits (rw c.in_ok-found.ensures.ok_part at c.survey.ensures)

pub returns : goal.returns
returns c =
    let s = rw c.in_ok-found.ensures.ok_part at c.survey.ensures in
    known s c.args.tree (omega arith) _ _ c.handed-settings.ensures c.height_for-height.ensures
