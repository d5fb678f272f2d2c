-- `check_batch` meets its contract: the refusal of the call, or else of the tree. A call that passes has no more keys than a node has rows, so that the
-- nodes it wants fit a word. Assumes nothing.
use mathlib.Core.Path.{refl, sym, ◌∙◌}
use native.Mathlib.Omega.{arith}
use Rattle.model.specs.Refuse.{called, tree_refusal}
use Rattle.model.proofs.Calls.{formed}
use Rattle.model.proofs.Refusals.{number_some}
use Rattle.std.proofs.lemmas.Result.{err_from_is_err_and}
use Rattle.index_refuse.proofs.Refuses.{by_call, by_tree}
use Rattle.index_refuse.proofs.check_batch.Goals as goal

pub check_tree-requires : goal.check_tree-requires
check_tree-requires c =
    let asked = called c.args.batch.now in
    omega (arith, (formed c.args.st asked 0 (sym c.in_ok-check_call.ensures)).0.few, c.requires)

pub returns-in_err-check_call : goal.returns-in_err-check_call
returns-in_err-check_call c =
    let asked = called c.args.batch.now in
    let p = err_from_is_err_and c.from_residual.result c.from_residual.ensures.1 in
    rw (p.1, p.2) (λ x e f. by_call c.args.st asked (tree_refusal asked x) _ c.in_err-check_call.ensures (number_some _))

pub returns : goal.returns
returns c =
    let asked = called c.args.batch.now in
    λ x e f. c.check_tree.ensures asked x refl refl e f ∙ by_tree c.args.st asked (tree_refusal asked x) 0 c.in_ok-check_call.ensures refl
