-- `read_entries` meets its contract: one law for each of its answers. Assumes nothing.
use mathlib.Core.Path.{sym, ◌∙◌}
use borrow.Author.Tests.{not-true, not-false}
use Rattle.model.specs.declared.Refusal.TheVariants as Why
use Rattle.frame_text.proofs.Told.{read_refused, rest_ends, over_part, over_many, count_few, read_fall, read_whole}
use Rattle.frame_read.proofs.read_entries.Goals as goal

pub returns-then-rest-w-ne0 : goal.returns-then-rest-w-ne0
returns-then-rest-w-ne0 c =
    let a = c.args in
    read_refused Why.PartOfAnEntry (over_part a.line.now a.kind c.width-w.result c.width-w.ensures.0 c.if-rest-w-ne0.true)

pub returns-then-n-gt32 : goal.returns-then-n-gt32
returns-then-n-gt32 c =
    let a = c.args in
    read_refused Why.TooManyEntries (over_many a.line.now a.kind c.width-w.result c.width-w.ensures.0 c.if-rest-w-ne0.false c.if-n-gt32.true)

pub entries_in-contents-requires : goal.entries_in-contents-requires
entries_in-contents-requires c =
    let a = c.args in
    record {
      digits = c.requires.digits;
      few = c.if-n-gt32.false;
      within = rest_ends a.line.now a.kind c.width-w.result c.width-w.ensures.0 c.requires.some;
    }

pub ascending-requires : goal.ascending-requires
ascending-requires c =
    let a = c.args in
    let read = c.entries_in-contents in
    count_few a.line.now a.kind c.width-w.result c.width-w.ensures.0 c.if-rest-w-ne0.false c.if-n-gt32.false read.result read.ensures

pub returns-then-not-ascending : goal.returns-then-not-ascending
returns-then-not-ascending c =
    let a = c.args in
    let read = c.entries_in-contents in
    read_refused Why.KeysNotAscending
    (read_fall a.line.now a.kind c.width-w.result c.width-w.ensures.0 c.if-rest-w-ne0.false c.if-n-gt32.false read.result read.ensures
    (sym c.ascending.ensures ∙ not-true c.ascending.result c.if-not-ascending.true-raw))

pub returns : goal.returns
returns c =
    let a = c.args in
    let read = c.entries_in-contents in
    read_whole a.line.now a.kind c.width-w.result c.width-w.ensures.0 c.if-rest-w-ne0.false c.if-n-gt32.false read.result read.ensures
    (sym c.ascending.ensures ∙ not-false c.ascending.result c.if-not-ascending.false-raw)
