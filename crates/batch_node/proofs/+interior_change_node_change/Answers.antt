-- The cycle of node change and interior change. The loop of an interior (`Roaming`): the model's walk, going on from the child, the key and the counts of
-- now, ends as it does from the first child. The height falls round the cycle. Assumes nothing.
use Prim.Native.Nat.{ℕ, suc, ◌-◌, ◌<◌}
use mathlib.Core.Path.{◌≡◌, refl, sym, ◌∙◌, subst}
use native.Mathlib.Omega.{arith}
use lib.ListN.{length}
use Rattle.words.specs.Words.{words}
use Rattle.model.specs.Refuse.{called}
use Rattle.batch_node.specs.Promises.{ToChange, NodeChanged}
use Rattle.batch_node.proofs.Rounds.{Sent, round_start, round_at, round, next_in, child_in, child_call, pending, round_again, round_less, round_end}
use borrow.Author.Rules.{rules}
use Rattle.batch_node.proofs.+interior_change_node_change.Goals as goal

pub interior_change-overflow_sub-below : goal.interior_change-overflow_sub-below
interior_change-overflow_sub-below t c = omega (arith, c.requires.interior)

pub interior_change-roaming-init : goal.interior_change-roaming-init
interior_change-roaming-init t c = (round_start c.requires.asked, refl)

pub interior_change-roams_on-requires : goal.interior_change-roams_on-requires
interior_change-roams_on-requires t c = round_at c.roaming.invariant.0

pub interior_change-offset_bounds-batch-next : goal.interior_change-offset_bounds-batch-next
interior_change-offset_bounds-batch-next t c =
    let keys = c.args.batch.now.keys.now in
    let w : c.roaming.now.next < length keys = next_in c.roaming.invariant.0 (sym c.roams_on.ensures ∙ c.roaming-test.true) in
    omega arith

pub interior_change-bounds-batch-next : goal.interior_change-bounds-batch-next
interior_change-bounds-batch-next t c =
    next_in c.roaming.invariant.0 (sym c.roams_on.ensures ∙ c.roaming-test.true)

pub interior_change-child_for-j-requires : goal.interior_change-child_for-j-requires
interior_change-child_for-j-requires t c =
    (round_at c.roaming.invariant.0, child_in c.roaming.invariant.0 (sym c.roams_on.ensures ∙ c.roaming-test.true))

pub interior_change-row_at-row-requires : goal.interior_change-row_at-row-requires
interior_change-row_at-row-requires t c =
    let g = round_at c.roaming.invariant.0 in
    record { held = g.held; slot = g.slot; within = omega (arith, c.child_for-j.ensures.within) }

pub interior_change-child_of-requires : goal.interior_change-child_of-requires
interior_change-child_of-requires t c = tt

pub interior_change-ceiling_for-requires : goal.interior_change-ceiling_for-requires
interior_change-ceiling_for-requires t c = tt

pub interior_change-node_change-r-requires : goal.interior_change-node_change-r-requires
interior_change-node_change-r-requires t c = (
  omega (arith, c.decreases),
  child_call (let it : let a = c.args in
      Sent a.st (words a.pool.now) (words c.roaming.pool) (a.node.height - 1) a.node (called a.batch.now)
      a.run c.roaming.i c.roaming.changed c.roaming.now c.child_for-j.result c.row_at-row.result c.child_of.result
      c.ceiling_for.result = record {
        round = round c.roaming.invariant.0 (sym c.roams_on.ensures ∙ c.roaming-test.true);
        sought = c.child_for-j.ensures;
        is = c.row_at-row.ensures;
        child = c.child_of.ensures;
        top = c.ceiling_for.ensures;
      } in it) _,
)

pub interior_change-settle_child-to-requires : goal.interior_change-settle_child-to-requires
interior_change-settle_child-to-requires t c =
    pending (let it : let a = c.args in
    Sent a.st (words a.pool.now) (words c.roaming.pool) (a.node.height - 1) a.node (called a.batch.now)
    a.run c.roaming.i c.roaming.changed c.roaming.now c.child_for-j.result c.row_at-row.result c.child_of.result
    c.ceiling_for.result = record {
      round = round c.roaming.invariant.0 (sym c.roams_on.ensures ∙ c.roaming-test.true);
      sought = c.child_for-j.ensures;
      is = c.row_at-row.ensures;
      child = c.child_of.ensures;
      top = c.ceiling_for.ensures;
    } in it) c.node_change-r.ensures

pub interior_change-changed_by-changed-requires : goal.interior_change-changed_by-changed-requires
interior_change-changed_by-changed-requires t c = tt

pub interior_change-roaming-smaller : goal.interior_change-roaming-smaller
interior_change-roaming-smaller t c =
    let came = c.node_change-r.ensures in
    omega (
      arith,
      came.batch.within,
      round_less (let it : let a = c.args in
          Sent a.st (words a.pool.now) (words c.roaming.pool) (a.node.height - 1) a.node (called a.batch.now)
          a.run c.roaming.i c.roaming.changed c.roaming.now c.child_for-j.result c.row_at-row.result c.child_of.result
          c.ceiling_for.result = record {
            round = round c.roaming.invariant.0 (sym c.roams_on.ensures ∙ c.roaming-test.true);
            sought = c.child_for-j.ensures;
            is = c.row_at-row.ensures;
            child = c.child_of.ensures;
            top = c.ceiling_for.ensures;
          } in it) came c.settle_child-to.ensures,
    )

pub interior_change-roaming-preserved : goal.interior_change-roaming-preserved
interior_change-roaming-preserved t c = (
  round_again (let it : let a = c.args in
      Sent a.st (words a.pool.now) (words c.roaming.pool) (a.node.height - 1) a.node (called a.batch.now)
      a.run c.roaming.i c.roaming.changed c.roaming.now c.child_for-j.result c.row_at-row.result c.child_of.result
      c.ceiling_for.result = record {
        round = round c.roaming.invariant.0 (sym c.roams_on.ensures ∙ c.roaming-test.true);
        sought = c.child_for-j.ensures;
        is = c.row_at-row.ensures;
        child = c.child_of.ensures;
        top = c.ceiling_for.ensures;
      } in it) c.node_change-r.ensures c.settle_child-to.ensures c.changed_by-changed.ensures,
  c.settle_child-to.auto.pool ∙ c.node_change-r.auto.pool ∙ c.roaming.invariant.1,
)

pub interior_change-count-n-requires : goal.interior_change-count-n-requires
interior_change-count-n-requires t c = round_at c.roaming.invariant.0

pub interior_change-result_of-result-requires : goal.interior_change-result_of-result-requires
interior_change-result_of-result-requires t c = tt

pub interior_change-shape_of-pool : goal.interior_change-shape_of-pool
interior_change-shape_of-pool t c = c.roaming.invariant.1

pub interior_change-returns : goal.interior_change-returns
interior_change-returns t c =
    round_end c.roaming.invariant.0 c.result_of-result.result (sym c.roams_on.ensures ∙ c.roaming-test.false) c.count-n.ensures.is
    c.result_of-result.ensures

pub node_change-leaf_change-requires : goal.node_change-leaf_change-requires
node_change-leaf_change-requires t c =
    let a = c.args in
    subst (λ (n : ℕ). ToChange a.st (words a.pool.now) n a.node (called a.batch.now) a.run)
    c.if-node-eq0.true c.requires

pub node_change-shape_of-pool-then-node-eq0 : goal.node_change-shape_of-pool-then-node-eq0
node_change-shape_of-pool-then-node-eq0 t c = search rules

pub node_change-returns-then-node-eq0 : goal.node_change-returns-then-node-eq0
node_change-returns-then-node-eq0 t c =
    let a = c.args in
    let W = words a.pool.now in
    let W' = words c.leaf_change.new.pool in
    let r = c.leaf_change.result in
    subst (λ (n : ℕ). NodeChanged a.st W W' n a.node (called a.batch.now) a.run r)
    (sym c.if-node-eq0.true) c.leaf_change.ensures

pub node_change-interior_change-requires : goal.node_change-interior_change-requires
node_change-interior_change-requires t c =
    let a = c.args in
    let e : a.node.height ≡ suc (a.node.height - 1) = omega (arith, c.if-node-eq0.false) in (
      omega (arith, c.decreases),
      (
        omega (arith, c.if-node-eq0.false),
        subst (λ (n : ℕ). ToChange a.st (words a.pool.now) n a.node (called a.batch.now) a.run)
            e c.requires,
      ),
    )

pub node_change-shape_of-pool : goal.node_change-shape_of-pool
node_change-shape_of-pool t c = search rules

pub node_change-returns : goal.node_change-returns
node_change-returns t c =
    let a = c.args in
    let W = words a.pool.now in
    let W' = words c.interior_change.new.pool in
    let r = c.interior_change.result in
    let e : a.node.height ≡ suc (a.node.height - 1) = omega (arith, c.if-node-eq0.false) in
    subst (λ (n : ℕ). NodeChanged a.st W W' n a.node (called a.batch.now) a.run r)
    (sym e) c.interior_change.ensures
