-- `after_freeing` meets its contract: the smaller of the two slots is the lowest. Assumes nothing.
use mathlib.Core.Path.{◌≡◌, ap}
use Prim.Native.Nat.{ℕ, ◌+◌, min}
use native.Mathlib.Omega.{arith}
use Rattle.tree_spare.proofs.after_freeing.Goals as goal

pub returns-then-s-was : goal.returns-then-s-was
returns-then-s-was c =
    let a = c.args in
    let e : a.s ≡ min a.was.low a.s = omega (arith, c.if-s-was.true) in
    ap (λ (n : ℕ). record { low = n; unused = a.was.unused + 1 }) e

pub returns : goal.returns
returns c =
    let a = c.args in
    let e : a.was.low ≡ min a.was.low a.s = omega (arith, c.if-s-was.false) in
    ap (λ (n : ℕ). record { low = n; unused = a.was.unused + 1 }) e
