-- `weigh` meets its contract: the sums of a node's rows fit its own row. Assumes nothing.
use mathlib.Core.Path.{ap, ◌∙◌}
use Prim.Native.Nat.{ℕ}
use native.Mathlib.Omega.{arith}
use Rattle.words.specs.Words.{words}
use Rattle.slots.specs.Nodes.{rows_at}
use Rattle.model.specs.declared.Totals.{Totals}
use Rattle.tree.specs.Bridge.{child_row}
use Rattle.tree_node.specs.Ask.{last_key}
use Rattle.tree_node.proofs.weigh.Goals as goal

pub child_row-requires : goal.child_row-requires
child_row-requires c =
    let pre = c.requires in
    let live = ap (λ (t : Totals). t.live) c.stats-totals.ensures in
    let dead = ap (λ (t : Totals). t.dead) c.stats-totals.ensures in
    record {
      slot = omega (arith, pre.slot, pre.held.shape.limits.bounded);
      live = omega (arith, live, pre.sums.few);
      dead = omega (arith, dead, pre.sums.few);
    }

pub returns : goal.returns
returns c =
    let a = c.args in
    c.child_row.ensures
    ∙ ap (λ (key : ℕ). child_row key a.s c.stats-totals.result) c.last_key-key.ensures
    ∙ ap (child_row (last_key (rows_at a.st (words a.pool.now) a.s)) a.s) c.stats-totals.ensures
