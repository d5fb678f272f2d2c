-- `step_to` meets its contract. The loop's invariant: the first i children have the entries before r but for `rank` of them, and there is another child,
-- since all of them have more (`more_rows`). Assumes nothing.
use mathlib.Core.Path.{◌≡◌, ap, ◌∙◌}
use Prim.Native.Nat.{◌+◌, ◌-◌}
use native.Mathlib.Omega.{arith}
use lib.ListN.{take}
use Rattle.words.specs.Words.{words}
use Rattle.slots.specs.Nodes.{rows_at}
use Rattle.slots.proofs.Nodes.{fits_node}
use Rattle.tree.specs.Bridge.{child_of}
use Rattle.tree_rank.specs.Rank.{weight, weights}
use Rattle.tree_rank.proofs.Ranks.{weights_more, more_rows}
use Rattle.tree_rank.proofs.step_to.Goals as goal

pub loop-rank-init : goal.loop-rank-init
loop-rank-init c =
    let a = c.args in
    let rs = rows_at a.st (words a.pool.now) a.s in
    let all : a.r ≡ weights (take 0 rs) + a.r = omega arith in
    (more_rows rs 0 a.r a.r c.requires.within all, all)

pub returns-then-rank-n : goal.returns-then-rank-n
returns-then-rank-n c =
    let at = c.loop-rank in
    let row = c.row_at-row.ensures in
    let n = c.entries_in-n.ensures ∙ ap weight row in
    record {
      at = at.i;
      inside = at.invariant.0;
      child = c.child_of-child.ensures ∙ ap child_of row;
      before = at.invariant.1;
      within = omega (arith, c.if-rank-n.true, n);
    }

pub overflow_add-i : goal.overflow_add-i
overflow_add-i c =
    let a = c.args in
    let fits = fits_node a.st (words a.pool.now) a.s c.requires.held in
    omega (arith, c.loop-rank.invariant.0, fits, c.requires.held.shape.most)

pub loop-rank-preserved : goal.loop-rank-preserved
loop-rank-preserved c =
    let at = c.loop-rank in
    let a = c.args in
    let rs = rows_at a.st (words a.pool.now) a.s in
    let n = c.entries_in-n.ensures ∙ ap weight c.row_at-row.ensures in
    let next : a.r ≡ weights (take (at.i + 1) rs) + (at.rank - c.entries_in-n.result) =
    omega (arith, at.invariant.1, c.if-rank-n.false, n, weights_more rs at.i at.invariant.0) in
    (more_rows rs (at.i + 1) a.r (at.rank - c.entries_in-n.result) c.requires.within next, next)
