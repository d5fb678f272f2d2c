-- `all_zero` meets its contract. The loop's invariant: the answer for the whole run is the answer for what is left of it. Assumes nothing.
use mathlib.Core.Path.{◌≡◌, sym, ap, ◌∙◌}
use Prim.Native.Nat.{ℕ, ◌+◌, ◌-◌, ◌*◌, ◌/◌, ◌%◌, min}
use native.Mathlib.Omega.{arith}
use lib.ListN.{take, drop}
use Rattle.words.specs.Words.{words}
use Rattle.words_runs.specs.Moves.{all_zero}
use Rattle.words.proofs.Laws.{words_short}
use Rattle.words_runs.proofs.Runs.{zero_start, zero_pass, zero_stop}
use Rattle.words_runs.proofs.all_zero.Goals as goal

pub loop-b-init : goal.loop-b-init
loop-b-init c =
    let a = c.args in
    (zero_start (words a.pool.now) a.from a.n, words_short a.pool.now)

pub zeros-requires : goal.zeros-requires
zeros-requires c = omega arith

pub returns-then-not-zeros : goal.returns-then-not-zeros
returns-then-not-zeros c =
    let a = c.args in
    let at = c.loop-b in
    let whole : 32 ≡ min 32 (a.n - 32 * at.b) = omega arith in
    let block = ap (λ (m : ℕ). all_zero (take m (drop (a.from + 32 * at.b) (words a.pool.now)))) whole in
    sym (at.invariant.0 ∙ zero_stop (words a.pool.now) a.from a.n (32 * at.b) 32 (omega arith) (sym c.if-not-zeros.true ∙ c.zeros.ensures ∙ block))

pub loop-b-preserved : goal.loop-b-preserved
loop-b-preserved c =
    let a = c.args in
    let at = c.loop-b in
    let whole : 32 ≡ min 32 (a.n - 32 * at.b) = omega arith in
    let block = ap (λ (m : ℕ). all_zero (take m (drop (a.from + 32 * at.b) (words a.pool.now)))) whole in
    let next : 32 * at.b + 32 ≡ 32 * (at.b + 1) = omega arith in
    let rest = ap (λ (k : ℕ). all_zero (take (a.n - k) (drop (a.from + k) (words a.pool.now)))) next in (
      at.invariant.0 ∙ zero_pass (words a.pool.now) a.from a.n (32 * at.b) 32 (omega arith) (sym c.if-not-zeros.false ∙ c.zeros.ensures ∙ block) ∙ rest,
      at.invariant.1,
    )

pub returns : goal.returns
returns c =
    let a = c.args in
    let at = c.loop-b in
    let last : a.n / 32 ≡ at.b = omega arith in
    let rest : a.n % 32 ≡ a.n - 32 * (a.n / 32) = omega arith in
    c.zeros-2.ensures
    ∙ ap (λ (m : ℕ). all_zero (take m (drop (a.from + 32 * (a.n / 32)) (words a.pool.now)))) rest
    ∙ ap (λ (b : ℕ). all_zero (take (a.n - 32 * b) (drop (a.from + 32 * b) (words a.pool.now)))) last
    ∙ sym at.invariant.0
