-- `move_down` meets its contract. The loop's invariant: the first `k` words are moved, and the pool has kept its size. Assumes nothing.
use mathlib.Core.Path.{ap, ◌∙◌}
use Prim.Native.Nat.{ℕ, ◌+◌, ◌-◌}
use native.Mathlib.Omega.{arith}
use mathlib.Core.List.{List}
use lib.ListN.{get_or, set}
use Rattle.words.specs.Words.{words}
use Rattle.words.proofs.Laws.{same_refl, same_then}
use Rattle.words_runs.proofs.Runs.{brought_none, moved_more}
use Rattle.words_runs.proofs.move_down.Goals as goal

pub loop-k-init : goal.loop-k-init
loop-k-init c =
    let a = c.args in
    (omega arith, (brought_none (words a.pool.now) (words a.pool.now) a.from a.to, same_refl a.pool.now))

pub loop-k-preserved : goal.loop-k-preserved
loop-k-preserved c =
    let a = c.args in
    let at = c.loop-k in
    let got = c.get-w in
    let put = c.put in (
      omega arith,
      (
        put.ensures.words
            ∙ ap (λ (x : ℕ). set (words at.pool) (a.to + at.k) x) got.ensures
            ∙ ap (λ (l : List ℕ). set l (a.to + at.k) (get_or l (a.from + at.k) 0)) at.invariant.1.0
            ∙ moved_more (words a.pool.now) a.from a.to at.k c.requires.down (omega arith),
        same_then at.invariant.1.1 put.ensures.same,
      ),
    )
