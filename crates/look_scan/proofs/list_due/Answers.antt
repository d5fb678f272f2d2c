-- `list_due` meets its contract: an entry that is not due adds nothing. Assumes nothing.
use mathlib.Core.Path.{◌≡◌, refl, sym, ◌∙◌}
use mathlib.Core.Bool.{true, false}
use borrow.Author.Tests.{not-true, not-false}
use Rattle.model.specs.Look.{due}
use Rattle.tree.specs.Bridge.{entry_of}
use Rattle.look_scan.proofs.list_due.Goals as goal

pub returns-then-not-is_due : goal.returns-then-not-is_due
returns-then-not-is_due c =
    let a = c.args in
    let no : due a.q (entry_of a.row) ≡ false = sym c.is_due.ensures ∙ not-true _ c.if-not-is_due.true-raw in
    rw no refl

pub returns : goal.returns
returns c =
    let a = c.args in
    let yes : due a.q (entry_of a.row) ≡ true = sym c.is_due.ensures ∙ not-false _ c.if-not-is_due.false-raw in
    rw yes c.list_row.ensures
