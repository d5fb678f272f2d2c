-- `zeros` meets its contract. The loop's invariant: `bits` is 0 if and only if the `k` words from `from` on are. Assumes nothing.
use mathlib.Core.Path.{ap, ◌∙◌}
use Prim.Native.Nat.{ℕ, ◌-◌}
use native.Mathlib.Omega.{arith}
use lib.Dec.{eqb}
use lib.Bits.{bit_or}
use Rattle.words.specs.Words.{words}
use Rattle.words.proofs.Laws.{words_short}
use Rattle.words_runs.proofs.Runs.{bits_none, bits_more}
use Rattle.words_runs.proofs.zeros.Goals as goal

pub loop-k-init : goal.loop-k-init
loop-k-init c =
    let a = c.args in
    (omega arith, (bits_none (words a.pool.now) a.from, words_short a.pool.now))

pub loop-k-preserved : goal.loop-k-preserved
loop-k-preserved c =
    let a = c.args in
    let at = c.loop-k in (
      omega arith,
      (
        ap (λ (w : ℕ). eqb (bit_or at.bits w) 0) c.get-bits.ensures
            ∙ bits_more (words a.pool.now) a.from at.k at.bits (omega arith) at.invariant.1.0,
        at.invariant.1.1,
      ),
    )
