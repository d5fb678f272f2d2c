-- `base` meets its contract: slot `s` ends within the pool, whose words are few (`base_of`). Assumes nothing.
use mathlib.Core.Path.{sym, subst}
use Prim.Native.Nat.{ℕ, ◌+◌, ◌*◌}
use native.Mathlib.Omega.{arith}
use Rattle.words.specs.Words.{words}
use Rattle.slots_raw.specs.Slots.{head_len, width}
use Rattle.slots_raw.specs.Promises.{Based}
use Rattle.slots_raw.proofs.Raws.{base_of}
use Rattle.slots_raw.proofs.base.Goals as goal

pub overflow_mul-result : goal.overflow_mul-result
overflow_mul-result c = let b : let a = c.args in Based a.st (words a.pool.now) a.s (head_len + a.s * c.width.result) = let a = c.args in
    subst (λ (w : ℕ). Based a.st (words a.pool.now) a.s (head_len + a.s * w)) (sym c.width.ensures)
    (base_of a.st (words a.pool.now) a.s c.requires.0 c.requires.1) in omega (arith, b.inside, b.small)

pub overflow_add-result : goal.overflow_add-result
overflow_add-result c = let b : let a = c.args in Based a.st (words a.pool.now) a.s (head_len + a.s * c.width.result) = let a = c.args in
    subst (λ (w : ℕ). Based a.st (words a.pool.now) a.s (head_len + a.s * w)) (sym c.width.ensures)
    (base_of a.st (words a.pool.now) a.s c.requires.0 c.requires.1) in omega (arith, b.inside, b.small)
