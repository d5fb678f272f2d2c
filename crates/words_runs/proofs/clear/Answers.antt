-- `clear` meets its contract. The loop's invariant: the `k` words from `from` on are 0, and the pool has kept its size. Assumes nothing.
use mathlib.Core.Path.{ap, ◌∙◌}
use Prim.Native.Nat.{ℕ, ◌+◌, ◌-◌}
use native.Mathlib.Omega.{arith}
use mathlib.Core.List.{List}
use lib.ListN.{set}
use Rattle.words.specs.Words.{words}
use Rattle.words.proofs.Laws.{same_refl, same_then}
use Rattle.words_runs.proofs.Runs.{cleared_none, cleared_more}
use Rattle.words_runs.proofs.clear.Goals as goal

pub loop-k-init : goal.loop-k-init
loop-k-init c =
    let a = c.args in
    (omega arith, (cleared_none (words a.pool.now) a.from, same_refl a.pool.now))

pub loop-k-preserved : goal.loop-k-preserved
loop-k-preserved c =
    let a = c.args in
    let at = c.loop-k in
    let put = c.put in (
      omega arith,
      (
        put.ensures.words
            ∙ ap (λ (l : List ℕ). set l (a.from + at.k) 0) at.invariant.1.0
            ∙ cleared_more (words a.pool.now) a.from at.k (omega arith),
        same_then at.invariant.1.1 put.ensures.same,
      ),
    )
