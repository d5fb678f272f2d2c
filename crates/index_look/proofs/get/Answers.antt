-- `get` meets its contract: where the tree was not found the call refuses (`get_refused`), and so it does keys that descend (`get_descends`); else what
-- was written is the model's listing (`get_told`). Assumes nothing.
use mathlib.Core.Path.{refl, sym, ◌∙◌}
use Rattle.std.proofs.lemmas.Result.{err_from_is_err_and}
use Rattle.index_look.proofs.Keeps.{get_refused, get_descends, get_told}
use Rattle.index_look.proofs.get.Goals as goal

pub returns-in_err-at : goal.returns-in_err-at
returns-in_err-at c =
    let p = err_from_is_err_and c.from_residual.result c.from_residual.ensures.1 in
    rw (p.1, p.2) (get_refused c.args.tree _ c.in_err-at.ensures.refusal c.args.keys.now _)

pub returns-then-descends : goal.returns-then-descends
returns-then-descends c =
    get_descends (c.in_ok-at.ensures.tree _ refl) c.args.keys.now _ (sym c.descends.ensures ∙ c.if-descends.true)

pub get-listed-requires : goal.get-listed-requires
get-listed-requires c = (c.in_ok-at.ensures.tree _ refl).pool

pub returns : goal.returns
returns c =
    get_told (c.in_ok-at.ensures.tree _ refl) c.args.keys.now _ _ c.get-listed.result _ refl (sym c.descends.ensures ∙ c.if-descends.false)
    c.get-listed.ensures
