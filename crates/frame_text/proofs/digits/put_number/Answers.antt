-- `put_number` meets its contract. The loop's invariant: the bytes from k on are written, and `rest` is what lies over them. Assumes nothing.
use mathlib.Core.Path.{◌≡◌, refl, sym, ap, ◌∙◌}
use Prim.Native.Nat.{ℕ, ◌+◌, ◌-◌, ◌/◌, ◌^◌}
use native.Mathlib.Nat.{div-one}
use native.Mathlib.Omega.{arith}
use lib.ListN.{length-set}
use Rattle.model.specs.Frame.{bytes}
use Rattle.frame_text.specs.Digits.{spelled}
use Rattle.frame_text.proofs.Lines.{spelled_none, number_more, rest_more}
use Rattle.frame_text.proofs.digits.put_number.Goals as goal

pub loop-k-init : goal.loop-k-init
loop-k-init c =
    let s = c.args in
    let z : s.w - s.w ≡ 0 = omega arith in
    (omega arith, (refl, (rw z (sym (div-one s.value)), rw z (spelled_none s.line.now (s.a + s.w) 0 refl))))

pub bounds-line-a-in-loop-k : goal.bounds-line-a-in-loop-k
bounds-line-a-in-loop-k c = simp length-set (omega arith)

pub loop-k-preserved : goal.loop-k-preserved
loop-k-preserved c =
    let s = c.args in
    let h = c.loop-k in
    let k : ℕ = h.k - 1 in
    let e : h.k ≡ k + 1 = omega arith in
    let r : h.rest ≡ s.value / 256 ^ (s.w - (k + 1)) = h.invariant.1.1.0 ∙ ap (λ (j : ℕ). s.value / 256 ^ (s.w - j)) e in
    let l : h.line ≡ spelled s.line.now (s.a + (k + 1)) (s.w - (k + 1)) (bytes (s.w - (k + 1)) s.value) =
    h.invariant.1.1.1 ∙ ap (λ (j : ℕ). spelled s.line.now (s.a + j) (s.w - j) (bytes (s.w - j) s.value)) e in (
      omega arith,
      (
        simp length-set h.invariant.1.0,
        (
          rest_more s.line.now s.a s.value s.w k (omega arith) (omega arith) h.rest r,
          rw (
            c.digit_of.ensures,
            c.digit_of-in-loop-k.ensures,
            l,
          ) (number_more s.line.now s.a s.value s.w k (omega arith) (omega arith) h.rest r),
        ),
      ),
    )

pub shape_of-line : goal.shape_of-line
shape_of-line c = c.loop-k.invariant.1.0

pub returns : goal.returns
returns c =
    let s = c.args in
    let h = c.loop-k in
    let z : h.k ≡ 0 = omega arith in
    let a : s.a + 0 ≡ s.a = omega arith in
    let w : s.w - 0 ≡ s.w = omega arith in
    h.invariant.1.1.1 ∙ rw (z, a, w)
