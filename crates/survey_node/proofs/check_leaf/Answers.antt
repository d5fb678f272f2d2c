-- `check_leaf` meets its contract. The loop's invariant: what the walk owes from row `i` on is what it owed at the start (`Going`, at height 0).
-- Assumes nothing.
use mathlib.Core.Path.{◌≡◌, ap, ◌∙◌, subst}
use mathlib.Core.List.{List}
use Prim.Native.Nat.{zero, ◌-◌, ◌<◌}
use native.Mathlib.Omega.{arith}
use lib.ListN.{length, get_or}
use Rattle.words.specs.Words.{words}
use Rattle.slots_raw.specs.declared.Row.{Row}
use Rattle.slots_raw.specs.Slots.{blank}
use Rattle.slots.specs.Nodes.{rows_at}
use Rattle.model.specs.declared.Totals.{Totals}
use Rattle.model.specs.Tree.{adds}
use Rattle.model.specs.Answer.{Tells}
use Rattle.model.proofs.Answers.{told_no}
use Rattle.tree.specs.Bridge.{entry_of}
use Rattle.survey_node.specs.Parts.{grown}
use Rattle.survey_node.specs.Promises.{Tail, EntryRight}
use Rattle.survey_node.proofs.Rows.{RightRow, right_rows, right_head, right_tail}
use Rattle.survey_node.proofs.Walks.{going_none, going_on, going_fault, going_addable, entry_row, row_entry, checked_not, checked_end}
use Rattle.survey_node.proofs.Heads.{count_is, row_is, rest_told}
use Rattle.survey_node.proofs.check_leaf.Goals as goal

pub returns-then-not-head_right : goal.returns-then-not-head_right
returns-then-not-head_right c =
    let a = c.args in
    let W = words a.pool.now in
    checked_not a.st W 0 a.s a.least a.last a.left
    (λ k. told_no c.head_right.ensures c.if-not-head_right.true (right_head a.st W 0 a.s a.least a.last a.left k))

pub loop-i-init : goal.loop-i-init
loop-i-init c =
    let a = c.args in
    let W = words a.pool.now in
    rw c.begin-part.ensures (going_none a.st W zero (rows_at a.st W a.s) a.last (a.left - 1))

pub raw_row-row-requires : goal.raw_row-row-requires
raw_row-row-requires c =
    let a = c.args in
    let head = c.head_right.ensures.holds c.if-not-head_right.false in
    let n = c.raw_count-entries in
    let count = count_is a.st (words a.pool.now) a.s n.result c.requires.shape head.few n.ensures in
    record { shape = c.requires.shape; slot = head.there.slot; within = omega (arith, head.few, count) }

pub returns-then-not-entry_right : goal.returns-then-not-entry_right
returns-then-not-entry_right c =
    let a = c.args in
    let W = words a.pool.now in
    let rs : List Row = rows_at a.st W a.s in
    let at = c.loop-i in
    let n = c.raw_count-entries in
    let head = c.head_right.ensures.holds c.if-not-head_right.false in
    let count : n.result ≡ length rs = count_is a.st W a.s n.result c.requires.shape head.few n.ensures in
    let row : c.raw_row-row.result ≡ get_or rs at.i blank = row_is a.st W a.s n.result c.requires.shape head.few n.ensures at.i _ c.loop-i-test.true c.raw_row-row.ensures in
    let lt : at.i < length rs = omega (arith, c.loop-i-test.true) in
    let wrong : RightRow a.st W zero (get_or rs at.i blank) at.part.last at.part.left → ⊥ =
    λ k. told_no c.entry_right.ensures c.if-not-entry_right.true (rw row (row_entry a.st W (get_or rs at.i blank) at.part.last at.part.left k)) in
    checked_not a.st W 0 a.s a.least a.last a.left
    (λ k. going_fault a.st W zero rs a.last (a.left - 1) at.i at.part at.invariant lt wrong (right_rows a.st W zero a.s a.least a.last a.left k))

pub grow-part-requires : goal.grow-part-requires
grow-part-requires c =
    let a = c.args in
    let W = words a.pool.now in
    let rs : List Row = rows_at a.st W a.s in
    let at = c.loop-i in
    let n = c.raw_count-entries in
    let head = c.head_right.ensures.holds c.if-not-head_right.false in
    let count : n.result ≡ length rs = count_is a.st W a.s n.result c.requires.shape head.few n.ensures in
    let row : c.raw_row-row.result ≡ get_or rs at.i blank = row_is a.st W a.s n.result c.requires.shape head.few n.ensures at.i _ c.loop-i-test.true c.raw_row-row.ensures in
    let lt : at.i < length rs = omega (arith, c.loop-i-test.true) in
    let entry : EntryRight at.part.last (get_or rs at.i blank) =
    subst (EntryRight at.part.last) row (c.entry_right.ensures.holds c.if-not-entry_right.false) in
    rw (c.entry_totals.ensures, row)
    (going_addable a.st W zero rs a.last (a.left - 1) at.i at.part at.invariant lt (omega (arith, head.few, lt, c.requires.shape.limits.narrow))
    (entry_row a.st W (get_or rs at.i blank) at.part.last at.part.left entry))

pub loop-i-preserved : goal.loop-i-preserved
loop-i-preserved c =
    let a = c.args in
    let W = words a.pool.now in
    let rs : List Row = rows_at a.st W a.s in
    let at = c.loop-i in
    let n = c.raw_count-entries in
    let head = c.head_right.ensures.holds c.if-not-head_right.false in
    let count : n.result ≡ length rs = count_is a.st W a.s n.result c.requires.shape head.few n.ensures in
    let row : c.raw_row-row.result ≡ get_or rs at.i blank = row_is a.st W a.s n.result c.requires.shape head.few n.ensures at.i _ c.loop-i-test.true c.raw_row-row.ensures in
    let lt : at.i < length rs = omega (arith, c.loop-i-test.true) in
    let entry : EntryRight at.part.last (get_or rs at.i blank) =
    subst (EntryRight at.part.last) row (c.entry_right.ensures.holds c.if-not-entry_right.false) in
    let grew : c.grow-part.result ≡ grown at.part.totals (get_or rs at.i blank).key (adds (entry_of (get_or rs at.i blank))) at.part.left =
    c.grow-part.ensures ∙ ap (λ (t : Totals). grown at.part.totals c.raw_row-row.result.key t at.part.left) c.entry_totals.ensures
    ∙ ap (λ (r : Row). grown at.part.totals r.key (adds (entry_of r)) at.part.left) row in
    rw grew (going_on a.st W zero rs a.last (a.left - 1) at.i at.part at.invariant lt at.part.left
    (entry_row a.st W (get_or rs at.i blank) at.part.last at.part.left entry) (omega arith))

pub tail_zero-requires : goal.tail_zero-requires
tail_zero-requires c =
    let a = c.args in
    let head = c.head_right.ensures.holds c.if-not-head_right.false in
    let n = c.raw_count-entries in
    let count = count_is a.st (words a.pool.now) a.s n.result c.requires.shape head.few n.ensures in
    record { there = (c.requires.shape, omega (arith, head.there.slot)); few = omega (arith, head.few, count) }

pub returns-then-not-tail_zero : goal.returns-then-not-tail_zero
returns-then-not-tail_zero c =
    let a = c.args in
    let W = words a.pool.now in
    let n = c.raw_count-entries in
    let head = c.head_right.ensures.holds c.if-not-head_right.false in
    let tail : Tells c.tail_zero.result (Tail a.st W a.s) = rest_told a.st W a.s n.result c.requires.shape head.few n.ensures c.tail_zero.result c.tail_zero.ensures in
    checked_not a.st W 0 a.s a.least a.last a.left
    (λ k. told_no tail c.if-not-tail_zero.true (right_tail a.st W 0 a.s a.least a.last a.left k))

pub returns : goal.returns
returns c =
    let a = c.args in
    let W = words a.pool.now in
    let at = c.loop-i in
    let n = c.raw_count-entries in
    let head = c.head_right.ensures.holds c.if-not-head_right.false in
    let count = count_is a.st W a.s n.result c.requires.shape head.few n.ensures in
    let tail : Tells c.tail_zero.result (Tail a.st W a.s) = rest_told a.st W a.s n.result c.requires.shape head.few n.ensures c.tail_zero.result c.tail_zero.ensures in
    checked_end a.st W a.s a.least a.last a.left at.i at.part 0 head (tail.holds c.if-not-tail_zero.false) at.invariant (omega (arith, count, c.loop-i-test.false))
