-- `renew_child` meets its contract: the slot that is read is the one that the row names. Assumes nothing.
use mathlib.Core.Path.{sym, ap, subst}
use Prim.Native.Nat.{ℕ}
use native.Mathlib.Omega.{arith}
use Rattle.words.specs.Words.{words}
use Rattle.slots.specs.Nodes.{nodes}
use Rattle.slots.proofs.Nodes.{become}
use Rattle.batch_share.specs.Promises.{ToRenew}
use Rattle.batch_share.specs.Children.{renewed}
use Rattle.batch_settle.proofs.renew_child.Goals as goal

pub child_at-c-requires : goal.child_at-c-requires
child_at-c-requires c = let t = c.requires in record { held = t.held; slot = t.parent; within = omega (arith, t.within) }

pub renew-requires : goal.renew-requires
renew-requires c =
    let a = c.args in
    subst (λ (x : ℕ). ToRenew a.st (words a.pool.now) a.at.height a.at.parent a.at.row x) (sym c.child_at-c.ensures) c.requires

pub returns : goal.returns
returns c =
    let a = c.args in
    let W = words a.pool.now in
    become a.st W (words c.renew.new.pool) _ _ c.renew.ensures
    (ap (λ (x : ℕ). renewed (nodes a.st W) a.at.height a.at.parent a.at.row x) c.child_at-c.ensures)
