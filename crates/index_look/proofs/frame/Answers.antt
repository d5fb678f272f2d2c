-- `frame` meets its contract: where the tree was not found the call refuses (`frame_refused`), and where it was the line is what the model's node
-- writes (`frame_told_lem`). Assumes nothing.
use mathlib.Core.Path.{refl}
use Rattle.std.proofs.lemmas.Result.{err_from_is_err_and}
use Rattle.index_look.proofs.Keeps.{frame_refused, frame_told_lem}
use Rattle.index_look.proofs.frame.Goals as goal

pub returns-in_err-at : goal.returns-in_err-at
returns-in_err-at c =
    let p = err_from_is_err_and c.from_residual.result c.from_residual.ensures.1 in
    rw (p.1, p.2) (frame_refused c.args.tree _ c.in_err-at.ensures.refusal c.args.i _)

pub write_node-requires : goal.write_node-requires
write_node-requires c = (c.in_ok-at.ensures.tree _ refl).pool

pub returns : goal.returns
returns c = frame_told_lem (c.in_ok-at.ensures.tree _ refl) c.args.i _ _ _ c.write_node.ensures
