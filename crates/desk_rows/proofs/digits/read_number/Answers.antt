-- `read_number` meets its contract. The loop's invariant: `value` is the number that the digits before place i spell (`Spelling`). Assumes nothing.
use borrow.Author.Rules.{rules}
use native.Mathlib.Omega.{arith}
use mathlib.Core.Path.{sym}
use Rattle.desk_lines.proofs.Finds.{end_from, end_within}
use Rattle.desk_rows.proofs.Spelt.{spelling, spelt_more, spelt_bad, spelt_done, spelt_small, number_long}
use Rattle.desk_rows.proofs.digits.read_number.Goals as goal

pub returns-then-most-end : goal.returns-then-most-end
returns-then-most-end c = number_long _ _ _ _ c.find-end.ensures c.if-most-end.true

pub loop-i-init : goal.loop-i-init
loop-i-init c =
    let f = c.find-end.ensures in
    let within = c.requires.0 in
    spelling _ _ _ _ f (end_from 32 _ _ _ f) (λ e. c.if-end-from.false (sym e)) (end_within 32 _ _ _ within f) c.if-most-end.false

pub overflow_mul-value : goal.overflow_mul-value
overflow_mul-value c =
    search (rules, spelt_small c.loop-i.invariant c.loop-i-test.true c.requires.1)

pub overflow_add-value : goal.overflow_add-value
overflow_add-value c =
    search (rules, spelt_small c.loop-i.invariant c.loop-i-test.true c.requires.1)

pub returns-in_err-d : goal.returns-in_err-d
returns-in_err-d c =
    rw c.from_residual.ensures (spelt_bad c.loop-i.invariant c.loop-i-test.true (omega (arith, c.in_err-d.ensures.value)))

pub loop-i-preserved : goal.loop-i-preserved
loop-i-preserved c = spelt_more c.loop-i.invariant _ c.in_ok-d.ensures.value c.loop-i-test.true c.in_ok-d.ensures.below

pub returns : goal.returns
returns c =
    let s = c.loop-i.invariant in
    let r = spelt_done s c.loop-i-test.false in (r.0, s.end, s.some, s.inside, r.1)
