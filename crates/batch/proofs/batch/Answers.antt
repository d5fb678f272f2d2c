-- `batch` meets its contract. The loop's invariant: the model's calls of the root from here are its calls from the start (`Running`). Assumes nothing.
use mathlib.Core.Path.{refl, ◌∙◌}
use Prim.Native.Nat.{◌-◌}
use native.Mathlib.Omega.{arith}
use Rattle.batch.proofs.Rounds.{start, keeps, next, ask, returned, further, again, finish}
use Rattle.batch.proofs.batch.Goals as goal

pub loop-run-init : goal.loop-run-init
loop-run-init c = (refl, start c.no_counts-counts.ensures c.requires)

pub node_change-r-requires : goal.node_change-r-requires
node_change-r-requires c =
    let m = c.loop-run.invariant.1 in
    ask m (next m c.loop-run-test.true)

pub settle_root-left-requires : goal.settle_root-left-requires
settle_root-left-requires c =
    let m = c.loop-run.invariant.1 in
    returned m (next m c.loop-run-test.true) c.node_change-r.ensures

pub loop-run-smaller : goal.loop-run-smaller
loop-run-smaller c =
    let m = c.loop-run.invariant.1 in
    omega (arith, c.loop-run-test.true, further m (next m c.loop-run-test.true) c.node_change-r.ensures)

pub loop-run-preserved : goal.loop-run-preserved
loop-run-preserved c =
    let inv = c.loop-run.invariant in
    let r = c.node_change-r in
    let s = c.settle_root-left in
    (s.auto.pool ∙ r.auto.pool ∙ inv.0, again inv.1 (next inv.1 c.loop-run-test.true) r.ensures s.ensures)

pub collapse-root-requires : goal.collapse-root-requires
collapse-root-requires c =
    let m = c.loop-run.invariant.1 in record { keeps = keeps m; spared = m.spared }

pub shape_of-pool : goal.shape_of-pool
shape_of-pool c =
    c.collapse-root.auto.pool ∙ c.loop-run.invariant.0

pub returns : goal.returns
returns c =
    finish c.loop-run.invariant.1 (omega (arith, c.loop-run-test.false)) c.collapse-root.ensures
