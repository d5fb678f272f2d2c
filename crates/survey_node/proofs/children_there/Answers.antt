-- `children_there` meets its contract. The loop's invariant: each of the first `i` rows names a node that is there. Assumes nothing.
use mathlib.Core.Path.{◌≡◌, ap, ◌∙◌, subst}
use mathlib.Core.List.{List}
use Prim.Native.Nat.{ℕ, ◌<◌}
use native.Mathlib.Omega.{arith}
use lib.ListN.{length, get_or}
use Rattle.words.specs.Words.{words}
use Rattle.slots_raw.specs.declared.Row.{Row}
use Rattle.slots_raw.specs.Slots.{blank}
use Rattle.slots.specs.Nodes.{rows_at}
use Rattle.model.specs.Lists.{none}
use Rattle.model.proofs.Answers.{told_no, tells_no, tells_yes}
use Rattle.model.proofs.Lists.{all_at, all_more, all_past}
use Rattle.tree.specs.Bridge.{child_of}
use Rattle.survey_node.specs.Promises.{There}
use Rattle.survey_node.proofs.Heads.{count_is, row_is}
use Rattle.survey_node.proofs.children_there.Invariants.{Child}
use Rattle.survey_node.proofs.children_there.Goals as goal

pub loop-i-init : goal.loop-i-init
loop-i-init c = (omega arith, none)

pub raw_row-row-requires : goal.raw_row-row-requires
raw_row-row-requires c =
    let a = c.args in
    let pre = c.requires in
    let count = count_is a.st (words a.pool.now) a.s c.raw_count-n.result pre.there.0 pre.few c.raw_count-n.ensures in
    record { shape = pre.there.0; slot = pre.there.1; within = omega (arith, pre.few, count) }

-- row i names the child that is tested
pub returns-then-not-there : goal.returns-then-not-there
returns-then-not-there c =
    let a = c.args in
    let W = words a.pool.now in
    let rs : List Row = rows_at a.st W a.s in
    let i : ℕ = c.loop-i.i in
    let n = c.raw_count-n in
    let count : n.result ≡ length rs = count_is a.st W a.s n.result c.requires.there.0 c.requires.few n.ensures in
    let row : c.raw_row-row.result ≡ get_or rs i blank = row_is a.st W a.s n.result c.requires.there.0 c.requires.few n.ensures i _ c.loop-i-test.true c.raw_row-row.ensures in
    tells_no (λ all. told_no c.there.ensures c.if-not-there.true
    (rw (c.child_of.ensures ∙ ap child_of row) (all_at {P = Child a.st W a.height} rs i blank (omega (arith, c.loop-i-test.true)) all)))

pub loop-i-preserved : goal.loop-i-preserved
loop-i-preserved c =
    let a = c.args in
    let W = words a.pool.now in
    let rs : List Row = rows_at a.st W a.s in
    let i : ℕ = c.loop-i.i in
    let n = c.raw_count-n in
    let count : n.result ≡ length rs = count_is a.st W a.s n.result c.requires.there.0 c.requires.few n.ensures in
    let row : c.raw_row-row.result ≡ get_or rs i blank = row_is a.st W a.s n.result c.requires.there.0 c.requires.few n.ensures i _ c.loop-i-test.true c.raw_row-row.ensures in
    let lt : i < length rs = omega (arith, c.loop-i-test.true) in
    let one : Child a.st W a.height (get_or rs i blank) =
    subst (There a.st W a.height) (c.child_of.ensures ∙ ap child_of row) (c.there.ensures.holds c.if-not-there.false) in
    (omega arith, all_more {P = Child a.st W a.height} rs i blank lt c.loop-i.invariant.1 one)

pub returns : goal.returns
returns c =
    let a = c.args in
    let W = words a.pool.now in
    let count = count_is a.st W a.s c.raw_count-n.result c.requires.there.0 c.requires.few c.raw_count-n.ensures in
    tells_yes (all_past {P = Child a.st W a.height} (rows_at a.st W a.s) c.loop-i.i (omega (arith, c.loop-i-test.false, count)) c.loop-i.invariant.1)
