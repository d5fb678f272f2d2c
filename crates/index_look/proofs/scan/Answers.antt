-- `scan` meets its contract: where the tree was not found the call refuses (`scan_refused`), and where it was what was written, and the nodes that were
-- opened, are the model's (`scan_told`). Assumes nothing.
use mathlib.Core.Path.{refl}
use Rattle.std.proofs.lemmas.Result.{err_from_is_err_and}
use Rattle.model.specs.Look.{request_for}
use Rattle.index_look.proofs.Keeps.{scan_refused, scan_told}
use Rattle.index_look.proofs.scan.Goals as goal

pub returns-in_err-at : goal.returns-in_err-at
returns-in_err-at c =
    let a = c.args in
    let p = err_from_is_err_and c.from_residual.result c.from_residual.ensures.1 in
    rw (p.1, p.2) (scan_refused a.tree _ c.in_err-at.ensures.refusal (request_for a.start a.end a.direction a.sift) _)

pub scan-scanned-requires : goal.scan-scanned-requires
scan-scanned-requires c = (c.in_ok-at.ensures.tree _ refl).pool

pub returns : goal.returns
returns c =
    let a = c.args in
    let did = c.scan-scanned.ensures in
    scan_told (c.in_ok-at.ensures.tree _ refl) (request_for a.start a.end a.direction a.sift) _ _ c.scan-scanned.result _ refl did.written did.opened
