-- `limits_right` meets its contract: both limits are tested by `within`. Assumes nothing.
use native.Mathlib.Omega.{arith}
use borrow.Author.Tests.{not-true, not-false}
use Rattle.model.proofs.Answers.{tells_no, told_no}
use Rattle.tree.proofs.limits_right.Goals as goal

pub returns-then-not-within : goal.returns-then-not-within
returns-then-not-within c =
    let order = c.within in
    tells_no (λ t. told_no order.ensures (not-true order.result c.if-not-within.true-raw) (t.wide, t.narrow))

pub overflow_add-limits : goal.overflow_add-limits
overflow_add-limits c =
    let order = c.within in
    omega (arith, order.ensures.holds (not-false order.result c.if-not-within.false-raw))

pub returns : goal.returns
returns c =
    let order = c.within in
    let right = order.ensures.holds (not-false order.result c.if-not-within.false-raw) in
    let minimum = c.within-2.ensures in
    record {
      holds = λ e. record { wide = right.0; narrow = right.1; some = (minimum.holds e).0; least = (minimum.holds e).1 };
      told = λ t. minimum.told (t.some, t.least);
    }
