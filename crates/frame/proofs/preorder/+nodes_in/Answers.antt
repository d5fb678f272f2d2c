-- `nodes_in` meets its contract, the height falling. The loop's invariant: `total` counts the root and the nodes of the first j children. Assumes nothing.
use mathlib.Core.Path.{◌≡◌, refl}
use Prim.Native.Nat.{ℕ, ◌+◌}
use native.Mathlib.Omega.{arith}
use lib.ListN.{take, get_or}
use Rattle.words.specs.Words.{words}
use Rattle.slots.specs.Nodes.{nodes, nth}
use Rattle.slots_raw.specs.Slots.{blank}
use Rattle.frame.proofs.Walks.{passed, passed_more, passed_all, passed_few, passed_leaf, nodes_tree, nodes_child, standing_at, standing_row, standing_down}
use Rattle.frame.proofs.preorder.+nodes_in.Goals as goal

pub returns-then-height-eq0 : goal.returns-then-height-eq0
returns-then-height-eq0 t c =
    let a = c.args in
    let W = words a.pool.now in
    let ns = nodes a.st W in
    let rs = (nth ns a.s).rows in
    omega (arith, nodes_tree ns a.height a.s, passed_leaf ns a.height rs c.if-height-eq0.true)

pub count-n-requires : goal.count-n-requires
count-n-requires t c =
    standing_at c.args.st (words c.args.pool.now) c.args.height c.args.s c.requires

pub loop-j-init : goal.loop-j-init
loop-j-init t c = (omega arith, refl)

pub child_at-child-requires : goal.child_at-child-requires
child_at-child-requires t c =
    let a = c.args in
    standing_row a.st (words a.pool.now) a.height a.s c.loop-j.j c.requires (omega arith)

pub nodes_in-total-requires : goal.nodes_in-total-requires
nodes_in-total-requires t c =
    let a = c.args in (
      omega (arith, c.decreases),
      standing_down a.st (words a.pool.now) a.height a.s c.loop-j.j c.child_at-child.result c.requires (omega arith)
          (omega arith) c.child_at-child.ensures,
    )

pub overflow_add-total : goal.overflow_add-total
overflow_add-total t c =
    let a = c.args in
    let ns = nodes a.st (words a.pool.now) in
    let all = passed_few ns a.height (nth ns a.s).rows (c.loop-j.j + 1) in
    omega (
      arith,
      c.requires.few,
      c.loop-j.invariant.1,
      (let it : let a = c.args in
          let ns = nodes a.st (words a.pool.now) in
          let rs = (nth ns a.s).rows in
          passed ns a.height (take (c.loop-j.j + 1) rs) ≡ passed ns a.height (take c.loop-j.j rs) + c.nodes_in-total.result = let a = c.args in
          let ns = nodes a.st (words a.pool.now) in
          let rs = (nth ns a.s).rows in
          let kid = c.child_at-child in
          let j : ℕ = c.loop-j.j in
          omega (
            arith,
            c.nodes_in-total.ensures,
            nodes_child ns a.height kid.result (get_or rs j blank) (omega arith) kid.ensures,
            passed_more ns a.height rs j (omega arith),
          ) in it),
      all,
      nodes_tree ns a.height a.s,
    )

pub loop-j-preserved : goal.loop-j-preserved
loop-j-preserved t c = (
  omega arith,
  omega (
    arith,
    c.loop-j.invariant.1,
    (let it : let a = c.args in
        let ns = nodes a.st (words a.pool.now) in
        let rs = (nth ns a.s).rows in
        passed ns a.height (take (c.loop-j.j + 1) rs) ≡ passed ns a.height (take c.loop-j.j rs) + c.nodes_in-total.result = let a = c.args in
        let ns = nodes a.st (words a.pool.now) in
        let rs = (nth ns a.s).rows in
        let kid = c.child_at-child in
        let j : ℕ = c.loop-j.j in
        omega (
          arith,
          c.nodes_in-total.ensures,
          nodes_child ns a.height kid.result (get_or rs j blank) (omega arith) kid.ensures,
          passed_more ns a.height rs j (omega arith),
        ) in it),
  ),
)

pub returns : goal.returns
returns t c =
    let a = c.args in
    let W = words a.pool.now in
    let ns = nodes a.st W in
    let rs = (nth ns a.s).rows in
    omega (arith, c.loop-j.invariant.1, nodes_tree ns a.height a.s, passed_all ns a.height rs c.loop-j.j (omega arith))
