-- `portion` meets its contract: what is made of a scan that was done is the definition's portion (`portion_told`), and one that was refused is refused so
-- (`portion_refused`). Assumes nothing.
use mathlib.Core.Path.{refl}
use Rattle.std.proofs.lemmas.Result.{err_from_is_err_and}
use Rattle.index_promise.proofs.Dones.{portion_refused}
use Rattle.index_portion.proofs.Tells.{shown_fits, portion_told}
use Rattle.index_portion.proofs.portion.Goals as goal

pub returns-in_err-scanned : goal.returns-in_err-scanned
returns-in_err-scanned c =
    let a = c.args in
    let p = err_from_is_err_and c.from_residual.result c.from_residual.ensures.1 in
    rw (p.1, p.2) (portion_refused a.pool.now a.tree a.start a.end a.sift a.out.now _ c.in_err-scanned.ensures)

pub after_scan-shown-requires : goal.after_scan-shown-requires
after_scan-shown-requires c =
    let a = c.args in
    shown_fits a.pool.now a.tree a.start a.end a.sift a.out.now c.in_ok-scanned.ensures

pub returns : goal.returns
returns c =
    let a = c.args in
    portion_told a.pool.now a.tree a.start a.end a.sift a.out.now c.in_ok-scanned.ensures _ c.after_scan-shown.result refl c.after_scan-shown.ensures
