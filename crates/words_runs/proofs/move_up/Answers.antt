-- `move_up` meets its contract. The loop's invariant: the words from `k` on are moved, and the pool has kept its size. Assumes nothing.
use mathlib.Core.Path.{◌≡◌, ap, ◌∙◌}
use Prim.Native.Nat.{ℕ, ◌+◌, ◌-◌}
use native.Mathlib.Omega.{arith}
use mathlib.Core.List.{List}
use lib.ListN.{get_or, set}
use Rattle.words.specs.Words.{words}
use Rattle.words.proofs.Laws.{same_refl, same_then}
use Rattle.words_runs.proofs.Runs.{moved_from, from_none, from_more, from_all}
use Rattle.words_runs.proofs.move_up.Goals as goal

pub loop-k-init : goal.loop-k-init
loop-k-init c =
    let a = c.args in
    (omega arith, (from_none (words a.pool.now) a.from a.to a.n, same_refl a.pool.now))

pub loop-k-preserved : goal.loop-k-preserved
loop-k-preserved c =
    let a = c.args in
    let at = c.loop-k in
    let got = c.get-w in
    let put = c.put in (
      omega arith,
      (
        put.ensures.words
            ∙ ap (λ (x : ℕ). set (words at.pool) (a.to + (at.k - 1)) x) got.ensures
            ∙ ap (λ (l : List ℕ). set l (a.to + (at.k - 1)) (get_or l (a.from + (at.k - 1)) 0)) at.invariant.1.0
            ∙ from_more (words a.pool.now) a.from a.to a.n at.k c.requires.up c.requires.target (omega arith) (omega arith),
        same_then at.invariant.1.1 put.ensures.same,
      ),
    )

pub returns : goal.returns
returns c =
    let a = c.args in
    let at = c.loop-k in
    let W = words a.pool.now in
    let e : at.k ≡ 0 = omega arith in record { words = at.invariant.1.0 ∙ ap (λ (j : ℕ). moved_from W a.from a.to a.n j) e ∙ from_all W a.from a.to a.n; same = at.invariant.1.1 }
