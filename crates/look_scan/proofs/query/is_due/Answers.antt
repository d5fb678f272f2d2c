-- `is_due` meets its contract: its tests are those of the definition, in that order. Assumes nothing.
use mathlib.Core.Path.{◌≡◌, refl, sym, ap, ◌∙◌}
use mathlib.Core.Bool.{true, false}
use borrow.Author.Tests.{not-true, not-false}
use Rattle.model.specs.Tree.{is_mark}
use Rattle.model.specs.Look.{starts, ends}
use Rattle.tree.specs.Bridge.{entry_of}
use Rattle.look_scan.proofs.query.is_due.Goals as goal

pub returns-then-is_mark : goal.returns-then-is_mark
returns-then-is_mark c =
    let a = c.args in
    let m : is_mark (entry_of a.row).place ≡ true =
    sym (c.is_mark.ensures ∙ ap is_mark c.entry_place-place.ensures) ∙ c.if-is_mark.true in
    rw m refl

pub returns-then-not-starts : goal.returns-then-not-starts
returns-then-not-starts c =
    let a = c.args in
    let m : is_mark (entry_of a.row).place ≡ false =
    sym (c.is_mark.ensures ∙ ap is_mark c.entry_place-place.ensures) ∙ c.if-is_mark.false in
    let s : starts a.q.start a.row.key ≡ false = sym c.starts.ensures ∙ not-true _ c.if-not-starts.true-raw in rw (m, s) refl

pub returns-then-not-ends : goal.returns-then-not-ends
returns-then-not-ends c =
    let a = c.args in
    let m : is_mark (entry_of a.row).place ≡ false =
    sym (c.is_mark.ensures ∙ ap is_mark c.entry_place-place.ensures) ∙ c.if-is_mark.false in
    let s : starts a.q.start a.row.key ≡ true = sym c.starts.ensures ∙ not-false _ c.if-not-starts.false-raw in
    let e : ends a.q.end a.row.key ≡ false = sym c.ends.ensures ∙ not-true _ c.if-not-ends.true-raw in rw (m, s, e) refl

pub returns : goal.returns
returns c =
    let a = c.args in
    let m : is_mark (entry_of a.row).place ≡ false =
    sym (c.is_mark.ensures ∙ ap is_mark c.entry_place-place.ensures) ∙ c.if-is_mark.false in
    let s : starts a.q.start a.row.key ≡ true = sym c.starts.ensures ∙ not-false _ c.if-not-starts.false-raw in
    let e : ends a.q.end a.row.key ≡ true = sym c.ends.ensures ∙ not-false _ c.if-not-ends.false-raw in
    rw (m, s, e) c.is_large.ensures
