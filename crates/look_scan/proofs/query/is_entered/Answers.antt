-- `is_entered` meets its contract: its tests are those of the definition. Assumes nothing.
use mathlib.Core.Path.{◌≡◌, refl, sym, ap, ◌∙◌}
use mathlib.Core.Bool.{true, false}
use borrow.Author.Tests.{not-true, not-false}
use lib.Dec.{leb}
use Rattle.model.specs.Look.{starts, least, figure}
use Rattle.look_scan.proofs.query.is_entered.Goals as goal

pub returns-then-not-starts : goal.returns-then-not-starts
returns-then-not-starts c =
    let a = c.args in
    let s : starts a.q.start a.row.key ≡ false = sym c.starts.ensures ∙ not-true _ c.if-not-starts.true-raw in
    rw s refl

pub returns : goal.returns
returns c =
    let a = c.args in
    let s : starts a.q.start a.row.key ≡ true =
    sym c.starts.ensures ∙ not-false _ c.if-not-starts.false-raw in
    rw s
    (c.is_large.ensures ∙ ap (leb (least a.q.sift)) (c.figure-figure.ensures ∙ ap figure c.child_totals-below.ensures))
