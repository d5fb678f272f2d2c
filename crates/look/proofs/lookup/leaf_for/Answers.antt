-- `leaf_for` meets its contract. The loop's invariant: the tree in slot `s` can be searched, and the key is held there as in the whole. Assumes nothing.
use mathlib.Core.Path.{refl, ◌∙◌}
use native.Mathlib.Omega.{arith}
use Rattle.words.specs.Words.{words}
use Rattle.model.specs.Plain.{held}
use Rattle.look.proofs.Descents.{grown_sorted, grown_some, descend, arrive}
use Rattle.look.proofs.lookup.leaf_for.Goals as goal

pub loop-h-init : goal.loop-h-init
loop-h-init c = (c.requires, refl)

pub child_for-i-requires : goal.child_for-i-requires
child_for-i-requires c =
    let a = c.args in
    let at = c.loop-h in
    let s = grown_sorted a.st (words a.pool.now) at._h at.s at.invariant.0 in (
      record { held = s.held; slot = s.slot },
      grown_some a.st (words a.pool.now) at._h at.s at.invariant.0 (λ e. omega (arith, c.loop-h-test.true)),
    )

pub child_at-s-requires : goal.child_at-s-requires
child_at-s-requires c =
    let a = c.args in
    let at = c.loop-h in
    let s = grown_sorted a.st (words a.pool.now) at._h at.s at.invariant.0 in
    record { held = s.held; slot = s.slot; within = omega (arith, c.child_for-i.ensures.within) }

pub loop-h-preserved : goal.loop-h-preserved
loop-h-preserved c =
    let a = c.args in
    let at = c.loop-h in
    let down =
    descend a.st (words a.pool.now) a.key at._h at.s c.child_for-i.result c.child_at-s.result
    c.loop-h-test.true at.invariant.0 c.child_for-i.ensures c.child_at-s.ensures in
    (down.0, down.1 ∙ at.invariant.1)

pub returns : goal.returns
returns c =
    let a = c.args in
    let at = c.loop-h in
    arrive a.st (words a.pool.now) a.key a.height at._h at.s c.loop-h-test.false at.invariant.0 at.invariant.1
