-- `lowest_unused` meets its contract. The loop's invariant: no slot below `s` is unused. Assumes nothing.
use mathlib.Core.Path.{sym, ◌∙◌}
use Prim.Native.Nat.{◌-◌}
use native.Mathlib.Omega.{arith}
use Rattle.words.specs.Words.{words}
use Rattle.slots.proofs.Nodes.{length_nodes}
use Rattle.slots_find.proofs.lowest_unused.Goals as goal

pub returns-then-kind-eq-UNUSED : goal.returns-then-kind-eq-UNUSED
returns-then-kind-eq-UNUSED c =
    let a = c.args in
    let at = c.loop-s in
    record {
      within = omega (arith, length_nodes a.st (words a.pool.now));
      before = at.invariant.1.1;
      here = λ _. sym c.kind.ensures ∙ c.if-kind-eq-UNUSED.true;
    }

pub returns : goal.returns
returns c =
    let a = c.args in
    let n = length_nodes a.st (words a.pool.now) in
    record { within = omega arith; before = λ t h. c.loop-s.invariant.1.1 t (omega arith); here = λ h. absurd (omega arith) }
