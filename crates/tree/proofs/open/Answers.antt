-- `open` meets its contract: by its two tests, and by what `open_pool` leaves. Assumes nothing.
use mathlib.Core.Path.{◌≡◌, refl, sym, ◌∙◌}
use mathlib.Core.Bool.{true≢false}
use native.Mathlib.Omega.{arith}
use lib.ListN.{length}
use borrow.Author.Tests.{not-true, not-false}
use Rattle.model.specs.Sound.{PoolLimits}
use Rattle.tree.specs.Pool.{pool_len}
use Rattle.tree.proofs.Pools.{exact_shape}
use Rattle.tree.proofs.Opening.{new_image}
use Rattle.model.proofs.Answers.{tells_no, tells_yes, told_no}
use Rattle.tree.proofs.open.Goals as goal

-- the settings are out of limits
pub returns-then-not-in_limits : goal.returns-then-not-in_limits
returns-then-not-in_limits c =
    let test = c.in_limits in
    record {
      answer = tells_no (λ p. told_no test.ensures (not-true test.result c.if-not-in_limits.true-raw) p.0);
      new = λ e. absurd (true≢false (sym e));
      kept = λ e. refl;
    }

pub pool_len-requires : goal.pool_len-requires
pool_len-requires c =
    let test = c.in_limits in
    test.ensures.holds (not-false test.result c.if-not-in_limits.false-raw)

-- the length is another
pub returns-then-pool-pool_len : goal.returns-then-pool-pool_len
returns-then-pool-pool_len c = record { answer = tells_no (λ p. omega (arith, c.pool_len.ensures)); new = λ e. absurd (true≢false (sym e)); kept = λ e. refl }

pub open_pool-requires : goal.open_pool-requires
open_pool-requires c =
    let a = c.args in
    let test = c.in_limits in
    let exact : length a.pool.now ≡ pool_len a.given = omega (arith, c.pool_len.ensures) in
    let lim : PoolLimits a.given = test.ensures.holds (not-false test.result c.if-not-in_limits.false-raw) in record { limits = lim; shape = exact_shape a.given 0 a.pool.now lim exact }

pub returns : goal.returns
returns c =
    let a = c.args in
    let test = c.in_limits in
    let lim : PoolLimits a.given = test.ensures.holds (not-false test.result c.if-not-in_limits.false-raw) in
    let exact : length a.pool.now ≡ pool_len a.given = omega (arith, c.pool_len.ensures) in
    let made = c.open_pool in
    record {
      answer = tells_yes (lim, exact);
      new = λ e. new_image a.given made.new.pool lim (made.auto.pool ∙ exact) (λ i. (c.slice_known-2-1.given i).fits) made.ensures;
      kept = λ e. absurd (true≢false e);
    }
