-- `child_for` meets its contract: from any child that the loop has come to, the key goes where it goes from the first one. Assumes nothing.
use mathlib.Core.Path.{◌≡◌}
use Prim.Native.Nat.{◌+◌, ◌-◌, ◌≤◌}
use native.Mathlib.Omega.{arith}
use lib.ListN.{length}
use Rattle.words.specs.Words.{words}
use Rattle.slots.specs.Nodes.{rows_at}
use Rattle.tree_node.proofs.Seeks.{child_last}
use Rattle.tree_node.proofs.child_for.Goals as goal

pub returns : goal.returns
returns c =
    let a = c.args in
    let l = rows_at a.st (words a.pool.now) a.s in
    let at = c.loop-i in
    let last : at.i ≡ c.count-n.result - 1 = omega (arith, c.count-n.ensures.is, at.invariant.1.0) in
    let n : length l ≤ at.i + 1 = omega (arith, c.count-n.ensures.is) in
    record { is = omega (arith, at.invariant.1.1, child_last a.key l at.i n); within = omega (arith, at.invariant.1.0) }
