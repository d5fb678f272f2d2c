-- `number` meets its contract. The loop's invariant: n is the number that k bytes spell, so it is below 256 ^ k. Assumes nothing.
use mathlib.Core.Path.{◌≡◌, refl, ap, ◌∙◌}
use Prim.Native.Nat.{ℕ}
use native.Mathlib.Omega.{arith}
use Rattle.model.specs.ReadFrame.{field}
use Rattle.frame_text.specs.Digits.{pairs}
use Rattle.frame_text.proofs.Spelt.{byte_more, eight_bytes, number_more, number_below}
use Rattle.frame_text.proofs.digits.number.Goals as goal

pub loop-k-init : goal.loop-k-init
loop-k-init c = (omega arith, (refl, omega arith))

pub overflow_mul-n : goal.overflow_mul-n
overflow_mul-n c =
    omega (
      arith,
      eight_bytes c.loop-k.k (omega arith),
      byte_more c.loop-k.n c.loop-k.k 0 c.loop-k.invariant.1.1 (omega arith),
    )

pub overflow_add-n-in-loop-k : goal.overflow_add-n-in-loop-k
overflow_add-n-in-loop-k c =
    let h = c.loop-k in
    let low =
    number_below c.args.line.now c.requires.digits c.args.a h.k h.n c.digit_at.result c.digit_at-in-loop-k.result (omega arith)
    c.digit_at.ensures c.digit_at-in-loop-k.ensures h.invariant.1.1 in
    omega (arith, low, eight_bytes h.k (omega arith))

pub loop-k-preserved : goal.loop-k-preserved
loop-k-preserved c =
    let h = c.loop-k in (
      omega arith,
      (
        number_more c.args.line.now c.requires.digits c.args.a h.k h.n c.digit_at.result c.digit_at-in-loop-k.result (omega arith)
            c.digit_at.ensures c.digit_at-in-loop-k.ensures h.invariant.1.0,
        number_below c.args.line.now c.requires.digits c.args.a h.k h.n c.digit_at.result c.digit_at-in-loop-k.result (omega arith)
            c.digit_at.ensures c.digit_at-in-loop-k.ensures h.invariant.1.1,
      ),
    )

pub returns : goal.returns
returns c =
    let h = c.loop-k in
    let e : h.k ≡ c.args.w = omega arith in
    (h.invariant.1.0 ∙ ap (λ (k : ℕ). field c.args.a k (pairs c.args.line.now)) e, rw e at h.invariant.1.1)
