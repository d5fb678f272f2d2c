-- `check_interior` and `check_node`, which call each other, meet their contracts, by recursion on the height. The loop's invariant: what the walk owes
-- from row `i` on is what it owed at the start (`Going`). Assumes nothing.
use Rattle.std.specs.Prelude.{Some, None}
use mathlib.Core.Path.{◌≡◌, refl, sym, ap, ◌∙◌, subst}
use mathlib.Core.List.{List}
use Prim.Native.Nat.{ℕ, suc, ◌-◌, ◌<◌}
use native.Mathlib.Omega.{arith}
use lib.ListN.{length, get_or}
use Rattle.words.specs.Words.{words}
use Rattle.slots_raw.specs.declared.Row.{Row}
use Rattle.slots_raw.specs.Slots.{blank}
use Rattle.slots.specs.Nodes.{rows_at}
use Rattle.model.specs.Answer.{Tells}
use Rattle.model.proofs.Answers.{told_no}
use Rattle.model.proofs.Lists.{all_at}
use Rattle.tree.specs.Bridge.{child_of}
use Rattle.survey_node.specs.declared.Part.{Part}
use Rattle.survey_node.specs.Promises.{There, Head, Tail, Opened, Right, Checked, RowRight}
use Rattle.survey_node.proofs.Rows.{right_rows, right_opened, right_tail}
use Rattle.survey_node.proofs.Walks.{going_none, checked_not, checked_end, turn_none, turn_fault, turn_addable, turn_on}
use Rattle.survey_node.proofs.Heads.{count_is, row_is, rest_told}
use Rattle.survey.proofs.walk.+check_interior_check_node.Goals as goal

pub check_interior-returns-then-not-interior_right : goal.check_interior-returns-then-not-interior_right
check_interior-returns-then-not-interior_right t c =
    let a = c.args in
    let W = words a.pool.now in
    let high : a.height ≡ suc (a.height - 1) = omega (arith, c.requires.interior) in
    checked_not a.st W a.height a.s a.least a.last a.left
    (λ k. told_no c.interior_right.ensures c.if-not-interior_right.true
    (subst (λ (h : ℕ). Opened a.st W h a.s a.least a.left) (sym high)
    (right_opened a.st W (a.height - 1) a.s a.least a.last a.left (subst (λ (h : ℕ). Right a.st W h a.s a.least a.last a.left) high k))))

pub check_interior-loop-i-init : goal.check_interior-loop-i-init
check_interior-loop-i-init t c =
    let a = c.args in
    let W = words a.pool.now in
    rw c.begin-part.ensures (going_none a.st W (suc (a.height - 1)) (rows_at a.st W a.s) a.last (a.left - 1))

-- row i names the child that the walk goes down to
pub check_interior-check_node-requires : goal.check_interior-check_node-requires
check_interior-check_node-requires t c =
    let a = c.args in
    let W = words a.pool.now in
    let rs : List Row = rows_at a.st W a.s in
    let at = c.loop-i in
    let n = c.raw_count-n in
    let opened = c.interior_right.ensures.holds c.if-not-interior_right.false in
    let count : n.result ≡ length rs = count_is a.st W a.s n.result c.requires.shape opened.head.few n.ensures in
    let row : c.raw_row-row.result ≡ get_or rs at.i blank =
    row_is a.st W a.s n.result c.requires.shape opened.head.few n.ensures at.i _ c.loop-i-test.true c.raw_row-row.ensures in
    let slot : c.child_of-slot.result ≡ child_of (get_or rs at.i blank) = c.child_of-slot.ensures ∙ ap child_of row in
    let lt : at.i < length rs = omega (arith, c.loop-i-test.true) in
    let there : There a.st W (a.height - 1) (child_of (get_or rs at.i blank)) =
    all_at {P = λ (r : Row). There a.st W (a.height - 1) (child_of r)} rs at.i blank lt opened.children in
    (omega (arith, c.decreases, c.requires.interior), (c.requires.shape, rw slot there))

-- the child is not right
pub check_interior-returns-in_err-child : goal.check_interior-returns-in_err-child
check_interior-returns-in_err-child t c =
    let a = c.args in
    let W = words a.pool.now in
    let rs : List Row = rows_at a.st W a.s in
    let at = c.loop-i in
    let n = c.raw_count-n in
    let opened = c.interior_right.ensures.holds c.if-not-interior_right.false in
    let count : n.result ≡ length rs = count_is a.st W a.s n.result c.requires.shape opened.head.few n.ensures in
    let row : c.raw_row-row.result ≡ get_or rs at.i blank =
    row_is a.st W a.s n.result c.requires.shape opened.head.few n.ensures at.i _ c.loop-i-test.true c.raw_row-row.ensures in
    let slot : c.child_of-slot.result ≡ child_of (get_or rs at.i blank) = c.child_of-slot.ensures ∙ ap child_of row in
    let lt : at.i < length rs = omega (arith, c.loop-i-test.true) in
    let chk : Checked a.st W (a.height - 1) (child_of (get_or rs at.i blank)) 1 at.part.last at.part.left (None) =
    subst (λ (s : ℕ). Checked a.st W (a.height - 1) s 1 at.part.last at.part.left (None)) slot c.in_err-child.ensures in
    let high : a.height ≡ suc (a.height - 1) = omega (arith, c.requires.interior) in
    rw c.from_residual.ensures (checked_not a.st W a.height a.s a.least a.last a.left
    (λ k. turn_none a.st W (a.height - 1) rs a.last (a.left - 1) at.i at.part at.invariant lt (told_no chk.right refl)
    (right_rows a.st W (suc (a.height - 1)) a.s a.least a.last a.left
    (subst (λ (h : ℕ). Right a.st W h a.s a.least a.last a.left) high k))))

-- it is, but its row does not say so
pub check_interior-returns-then-not-row_right : goal.check_interior-returns-then-not-row_right
check_interior-returns-then-not-row_right t c =
    let a = c.args in
    let W = words a.pool.now in
    let rs : List Row = rows_at a.st W a.s in
    let at = c.loop-i in
    let n = c.raw_count-n in
    let opened = c.interior_right.ensures.holds c.if-not-interior_right.false in
    let count : n.result ≡ length rs = count_is a.st W a.s n.result c.requires.shape opened.head.few n.ensures in
    let row : c.raw_row-row.result ≡ get_or rs at.i blank =
    row_is a.st W a.s n.result c.requires.shape opened.head.few n.ensures at.i _ c.loop-i-test.true c.raw_row-row.ensures in
    let slot : c.child_of-slot.result ≡ child_of (get_or rs at.i blank) = c.child_of-slot.ensures ∙ ap child_of row in
    let lt : at.i < length rs = omega (arith, c.loop-i-test.true) in
    let child : Part = c.in_ok-child.child in
    let chk : Checked a.st W (a.height - 1) (child_of (get_or rs at.i blank)) 1 at.part.last at.part.left (Some child) =
    subst (λ (s : ℕ). Checked a.st W (a.height - 1) s 1 at.part.last at.part.left (Some child)) slot c.in_ok-child.ensures in
    let high : a.height ≡ suc (a.height - 1) = omega (arith, c.requires.interior) in
    let wrong : RowRight (get_or rs at.i blank) child → ⊥ = λ k. told_no c.row_right.ensures c.if-not-row_right.true (rw row k) in
    checked_not a.st W a.height a.s a.least a.last a.left
    (λ k. turn_fault a.st W (a.height - 1) rs a.last (a.left - 1) at.i at.part at.invariant lt child (chk.right.holds refl) (chk.found child refl) wrong
    (right_rows a.st W (suc (a.height - 1)) a.s a.least a.last a.left
    (subst (λ (h : ℕ). Right a.st W h a.s a.least a.last a.left) high k)))

-- both are right
pub check_interior-grow-part-requires : goal.check_interior-grow-part-requires
check_interior-grow-part-requires t c =
    let a = c.args in
    let W = words a.pool.now in
    let rs : List Row = rows_at a.st W a.s in
    let at = c.loop-i in
    let n = c.raw_count-n in
    let opened = c.interior_right.ensures.holds c.if-not-interior_right.false in
    let count : n.result ≡ length rs = count_is a.st W a.s n.result c.requires.shape opened.head.few n.ensures in
    let row : c.raw_row-row.result ≡ get_or rs at.i blank =
    row_is a.st W a.s n.result c.requires.shape opened.head.few n.ensures at.i _ c.loop-i-test.true c.raw_row-row.ensures in
    let slot : c.child_of-slot.result ≡ child_of (get_or rs at.i blank) = c.child_of-slot.ensures ∙ ap child_of row in
    let lt : at.i < length rs = omega (arith, c.loop-i-test.true) in
    let child : Part = c.in_ok-child.child in
    let chk : Checked a.st W (a.height - 1) (child_of (get_or rs at.i blank)) 1 at.part.last at.part.left (Some child) =
    subst (λ (s : ℕ). Checked a.st W (a.height - 1) s 1 at.part.last at.part.left (Some child)) slot c.in_ok-child.ensures in
    let test : RowRight (get_or rs at.i blank) child = subst (λ (r : Row). RowRight r child) row (c.row_right.ensures.holds c.if-not-row_right.false) in
    turn_addable a.st W (a.height - 1) rs a.last (a.left - 1) at.i at.part at.invariant lt child (chk.right.holds refl) (chk.found child refl) test
    (omega (arith, opened.head.few, lt, c.requires.shape.limits.narrow))

pub check_interior-loop-i-preserved : goal.check_interior-loop-i-preserved
check_interior-loop-i-preserved t c =
    let a = c.args in
    let W = words a.pool.now in
    let rs : List Row = rows_at a.st W a.s in
    let at = c.loop-i in
    let n = c.raw_count-n in
    let opened = c.interior_right.ensures.holds c.if-not-interior_right.false in
    let count : n.result ≡ length rs = count_is a.st W a.s n.result c.requires.shape opened.head.few n.ensures in
    let row : c.raw_row-row.result ≡ get_or rs at.i blank =
    row_is a.st W a.s n.result c.requires.shape opened.head.few n.ensures at.i _ c.loop-i-test.true c.raw_row-row.ensures in
    let slot : c.child_of-slot.result ≡ child_of (get_or rs at.i blank) = c.child_of-slot.ensures ∙ ap child_of row in
    let lt : at.i < length rs = omega (arith, c.loop-i-test.true) in
    let child : Part = c.in_ok-child.child in
    let chk : Checked a.st W (a.height - 1) (child_of (get_or rs at.i blank)) 1 at.part.last at.part.left (Some child) =
    subst (λ (s : ℕ). Checked a.st W (a.height - 1) s 1 at.part.last at.part.left (Some child)) slot c.in_ok-child.ensures in
    let test : RowRight (get_or rs at.i blank) child = subst (λ (r : Row). RowRight r child) row (c.row_right.ensures.holds c.if-not-row_right.false) in
    rw (c.grow-part.ensures, row) (turn_on a.st W (a.height - 1) rs a.last (a.left - 1) at.i at.part at.invariant lt child (chk.right.holds refl) (chk.found child refl) test)

pub check_interior-returns-then-not-tail_zero : goal.check_interior-returns-then-not-tail_zero
check_interior-returns-then-not-tail_zero t c =
    let a = c.args in
    let W = words a.pool.now in
    let n = c.raw_count-n in
    let head = (c.interior_right.ensures.holds c.if-not-interior_right.false).head in
    let tail : Tells c.tail_zero.result (Tail a.st W a.s) = rest_told a.st W a.s n.result c.requires.shape head.few n.ensures c.tail_zero.result c.tail_zero.ensures in
    checked_not a.st W a.height a.s a.least a.last a.left
    (λ k. told_no tail c.if-not-tail_zero.true (right_tail a.st W a.height a.s a.least a.last a.left k))

pub check_interior-returns : goal.check_interior-returns
check_interior-returns t c =
    let a = c.args in
    let W = words a.pool.now in
    let n = c.raw_count-n in
    let head = (c.interior_right.ensures.holds c.if-not-interior_right.false).head in
    let tail : Tells c.tail_zero.result (Tail a.st W a.s) = rest_told a.st W a.s n.result c.requires.shape head.few n.ensures c.tail_zero.result c.tail_zero.ensures in
    let at = c.loop-i in
    let count = count_is a.st W a.s n.result c.requires.shape head.few n.ensures in
    let high : a.height ≡ suc (a.height - 1) = omega (arith, c.requires.interior) in
    subst (λ (h : ℕ). Checked a.st W h a.s a.least a.last a.left (Some at.part)) (sym high)
    (checked_end a.st W a.s a.least a.last a.left at.i at.part (suc (a.height - 1))
    (subst (λ (h : ℕ). Head a.st W h a.s a.least a.left) high head) (tail.holds c.if-not-tail_zero.false) at.invariant (omega (arith, count, c.loop-i-test.false)))
