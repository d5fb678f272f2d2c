-- `bring` meets its contract. The loop's invariant: the first `k` words are brought, and the pool has kept its size. Assumes nothing.
use mathlib.Core.Path.{ap, ◌∙◌}
use Prim.Native.Nat.{ℕ, ◌+◌, ◌-◌}
use native.Mathlib.Omega.{arith}
use mathlib.Core.List.{List}
use lib.ListN.{get_or, set}
use Rattle.words.specs.Words.{words}
use Rattle.words.proofs.Laws.{words_short, same_refl, same_then}
use Rattle.words_runs.proofs.Runs.{brought_none, brought_more}
use Rattle.words_runs.proofs.bring.Goals as goal

pub loop-k-init : goal.loop-k-init
loop-k-init c =
    let a = c.args in
    (omega arith, (brought_none (words a.source.now) (words a.pool.now) a.from a.to, same_refl a.pool.now))

pub overflow_add-from : goal.overflow_add-from
overflow_add-from c = omega (arith, words_short c.args.source.now)

pub loop-k-preserved : goal.loop-k-preserved
loop-k-preserved c =
    let a = c.args in
    let at = c.loop-k in
    let put = c.put in (
      omega arith,
      (
        put.ensures.words
            ∙ ap (λ (x : ℕ). set (words at.pool) (a.to + at.k) x) c.get-w.ensures
            ∙ ap (λ (l : List ℕ). set l (a.to + at.k) (get_or (words a.source.now) (a.from + at.k) 0)) at.invariant.1.0
            ∙ brought_more (words a.source.now) (words a.pool.now) a.from a.to at.k (omega arith) (omega arith),
        same_then at.invariant.1.1 put.ensures.same,
      ),
    )
