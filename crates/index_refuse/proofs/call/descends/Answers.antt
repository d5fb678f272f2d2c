-- `descends` meets its contract. The loop's invariant: all keys descend just if those from the one before this one on do. Assumes nothing.
use mathlib.Core.Path.{refl, sym, ◌∙◌}
use Prim.Native.Nat.{◌-◌}
use native.Mathlib.Omega.{arith}
use Rattle.index_refuse.proofs.Refuses.{falls, rises, last}
use Rattle.index_refuse.proofs.call.descends.Goals as goal

pub loop-i-init : goal.loop-i-init
loop-i-init c = (omega arith, refl)

pub returns-then-keys-i : goal.returns-then-keys-i
returns-then-keys-i c =
    let s = c.loop-i.invariant in
    sym (falls _ _ s.0 c.loop-i-test.true c.if-keys-i.true) ∙ s.1

pub loop-i-preserved : goal.loop-i-preserved
loop-i-preserved c =
    let s = c.loop-i.invariant in
    (omega (arith, s.0), rises _ _ s.0 c.loop-i-test.true c.if-keys-i.false ∙ s.1)

pub returns : goal.returns
returns c = let s = c.loop-i.invariant in sym (last _ _ s.0 c.loop-i-test.false) ∙ s.1
