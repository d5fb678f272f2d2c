-- `find` meets its contract, the height falling. The loop's invariant: i counts the root, the nodes of the first j children, and what is left. Assumes nothing.
use mathlib.Core.Path.{sym, subst}
use Prim.Native.Nat.{ℕ, ◌-◌}
use native.Mathlib.Omega.{arith}
use Rattle.words.specs.Words.{words}
use Rattle.slots.specs.Nodes.{nodes, nth}
use Rattle.frame.specs.Promises.{Located}
use Rattle.std.specs.declared.ops.ControlFlow.TheVariants.{Break}
use Rattle.frame.proofs.Walks.{passed_all, passed_leaf, standing_at, standing_row, standing_down, found_here, found_none, stops_below, goes_on_below}
use Rattle.frame.proofs.preorder.+find.Goals as goal

pub returns-then-i-eq0 : goal.returns-then-i-eq0
returns-then-i-eq0 t c =
    let a = c.args in
    let W = words a.pool.now in
    subst (λ (x : ℕ). Located a.st W a.height a.s x (Break (record { slot = a.s; height = a.height }))) (sym c.if-i-eq0.true)
    (found_here a.st W a.height a.s c.requires)

pub returns-then-height-eq0 : goal.returns-then-height-eq0
returns-then-height-eq0 t c =
    let a = c.args in
    let W = words a.pool.now in
    let ns = nodes a.st W in
    let rs = (nth ns a.s).rows in
    found_none a.st W a.height a.s a.i (a.i - 1) (omega (arith, passed_leaf ns a.height rs c.if-height-eq0.true))

pub count-n-requires : goal.count-n-requires
count-n-requires t c =
    standing_at c.args.st (words c.args.pool.now) c.args.height c.args.s c.requires

pub loop-j-init : goal.loop-j-init
loop-j-init t c = (omega arith, omega arith)

pub child_at-child-requires : goal.child_at-child-requires
child_at-child-requires t c =
    let a = c.args in
    standing_row a.st (words a.pool.now) a.height a.s c.loop-j.j c.requires (omega arith)

pub find-requires : goal.find-requires
find-requires t c =
    let a = c.args in (
      omega (arith, c.decreases),
      standing_down a.st (words a.pool.now) a.height a.s c.loop-j.j c.child_at-child.result c.requires (omega arith)
          (omega arith) c.child_at-child.ensures,
    )

pub returns-in_err-left : goal.returns-in_err-left
returns-in_err-left t c =
    let a = c.args in
    let h = c.loop-j in
    let kid = c.child_at-child in
    stops_below a.st (words a.pool.now) a.height a.s a.i h.j h.left kid.result c.find.result c.from_residual.result _ (omega arith) (omega arith)
    kid.ensures h.invariant.1 c.find.ensures c.in_err-left.was c.from_residual.ensures

pub loop-j-preserved : goal.loop-j-preserved
loop-j-preserved t c =
    let a = c.args in
    let h = c.loop-j in
    let kid = c.child_at-child in (
      omega arith,
      goes_on_below a.st (words a.pool.now) a.height a.s a.i h.j h.left kid.result c.find.result c.in_ok-left.left (omega arith) (omega arith)
          kid.ensures h.invariant.1 c.find.ensures c.in_ok-left.was,
    )

pub returns : goal.returns
returns t c =
    let a = c.args in
    let W = words a.pool.now in
    let ns = nodes a.st W in
    let rs = (nth ns a.s).rows in
    found_none a.st W a.height a.s a.i c.loop-j.left
    (omega (arith, c.loop-j.invariant.1, passed_all ns a.height rs c.loop-j.j (omega arith)))
