-- `limits_at` meets its contract: its answer is the two words that it reads. Assumes nothing.
use mathlib.Core.Path.{◌≡◌, ap, ◌∙◌}
use Prim.Native.Nat.{ℕ, suc, ◌+◌}
use native.Mathlib.Omega.{arith}
use lib.ListN.{get_or}
use Rattle.words.specs.Words.{words}
use Rattle.words.proofs.Laws.{length_words}
use Rattle.slots_pool.proofs.header.limits_at.Goals as goal

pub overflow_add-i : goal.overflow_add-i
overflow_add-i c = omega (arith, length_words c.args.pool.now)

pub returns : goal.returns
returns c =
    let a = c.args in
    let e : a.i + 1 ≡ suc a.i = omega arith in
    let minimum = c.get-minimum.ensures ∙ ap (λ (j : ℕ). get_or (words a.pool.now) j 0) e in
    λ j. record { order = c.get-order.ensures j; minimum = minimum j }
