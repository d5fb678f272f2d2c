-- `in_limits` meets its contract: the nodes are tested by `within`, and each tree's limits by `limits_right`. Assumes nothing.
use borrow.Author.Tests.{not-true, not-false}
use Rattle.model.proofs.Answers.{tells_no, told_no}
use Rattle.tree.proofs.Opening.{limits_of, tells_limits}
use Rattle.tree.proofs.in_limits.Goals as goal

pub returns-then-not-within : goal.returns-then-not-within
returns-then-not-within c =
    let nodes = c.within in
    tells_no (λ lim. told_no nodes.ensures (not-true nodes.result c.if-not-within.true-raw) (lim.0.many, lim.0.bounded))

pub returns-then-not-limits_right : goal.returns-then-not-limits_right
returns-then-not-limits_right c =
    let first = c.limits_right in
    tells_no (λ lim. told_no first.ensures (not-true first.result c.if-not-limits_right.true-raw) (limits_of c.args.given 0 lim.0))

pub returns : goal.returns
returns c =
    let first = c.limits_right in
    let nodes = c.within in
    tells_limits c.args.given c.limits_right-2.result
    (nodes.ensures.holds (not-false nodes.result c.if-not-within.false-raw))
    (first.ensures.holds (not-false first.result c.if-not-limits_right.false-raw)) c.limits_right-2.ensures
