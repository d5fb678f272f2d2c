-- The cycle of a scan's walk meets its contracts: a node is a leaf or has children, the loop over children steps into each, and a child is a node one
-- level lower. The height falls round the cycle. The laws are in `Rounds`. Assumes nothing.
use mathlib.Core.Path.{◌≡◌, refl, sym, ap, ◌∙◌, subst}
use Prim.Native.Nat.{ℕ, suc, ◌-◌}
use native.Mathlib.Omega.{arith}
use borrow.Author.Tests.{not-true, not-false}
use Rattle.words.specs.Words.{words}
use Rattle.slots.specs.Nodes.{nodes}
use Rattle.model.specs.Look.{openings}
use Rattle.tree.specs.Bridge.{tree_at}
use Rattle.look_scan.specs.Walk.{place_in, walk_at, visit_all}
use Rattle.look_scan.specs.Promises.{ToScan}
use Rattle.tree.proofs.Children.{held_at}
use Rattle.look_scan.proofs.Rounds.{passed_over, to_child, from_child, walk_counts, walk_starts, walk_is, walk_ends, walk_stops, walk_enters, walk_leaves, walk_goes_on}
use Rattle.look_scan.proofs.+scan_child_scan_children_scan_node.Goals as goal

-- A CHILD
pub scan_child-returns-then-not-is_entered : goal.scan_child-returns-then-not-is_entered
scan_child-returns-then-not-is_entered t c =
    let a = c.args in
    let no = sym c.is_entered.ensures ∙ not-true _ c.if-not-is_entered.true-raw in
    passed_over a.st (words a.pool.now) a.below a.row a.q a.out.now a.room a.w c.requires no

pub scan_child-scan_node-requires : goal.scan_child-scan_node-requires
scan_child-scan_node-requires t c =
    let a = c.args in
    let yes = sym c.is_entered.ensures ∙ not-false _ c.if-not-is_entered.false-raw in (
      omega (arith, c.decreases),
      to_child a.st (words a.pool.now) a.below a.row a.q a.out.now a.room a.w c.requires c.child_of-child.result c.child_of-child.ensures yes,
    )

pub scan_child-returns : goal.scan_child-returns
scan_child-returns t c =
    let a = c.args in
    let yes = sym c.is_entered.ensures ∙ not-false _ c.if-not-is_entered.false-raw in
    let node = c.scan_node in
    from_child a.st (words a.pool.now) a.below a.row a.q a.out.now a.room a.w c.requires
    c.child_of-child.result (walk_at (node.new.out) (node.result)) c.child_of-child.ensures yes (node.ensures)

pub scan_children-count-n-requires : goal.scan_children-count-n-requires
scan_children-count-n-requires t c =
    let a = c.args in
    held_at a.st (words a.pool.now) (suc a.below) a.s c.requires.held c.requires.tree

pub scan_children-overflow_add-at : goal.scan_children-overflow_add-at
scan_children-overflow_add-at t c =
    let a = c.args in
    omega (arith, walk_counts a.st (words a.pool.now) a.below a.s a.q a.room a.out.now a.w c.requires)

pub scan_children-loop-j-init : goal.scan_children-loop-j-init
scan_children-loop-j-init t c =
    let a = c.args in
    (omega arith, (refl, walk_starts a.st (words a.pool.now) a.below a.s a.q a.room a.out.now a.w c.requires))

pub scan_children-row_at-row-requires : goal.scan_children-row_at-row-requires
scan_children-row_at-row-requires t c =
    let a = c.args in
    let n = c.count-n.ensures.is in
    let at = held_at a.st (words a.pool.now) (suc a.below) a.s c.requires.held c.requires.tree in
    record { held = at.held; slot = at.slot; within = omega (arith, c.place_in-i.ensures.inside, n) }

pub scan_children-scan_child-at-requires : goal.scan_children-scan_child-at-requires
scan_children-scan_child-at-requires t c =
    let a = c.args in
    let at = c.loop-j in
    let n = c.count-n.ensures.is in
    let test = c.loop-j-test.true in
    let place = c.place_in-i in
    let row = c.row_at-row in (
      omega (arith, c.decreases),
      walk_enters a.st (words a.pool.now) a.below a.s a.q c.requires.tree a.room _ at.out at.at at.j at.invariant.1.1
          place.result (omega (arith, n, test)) (place.ensures.is ∙ ap (λ (m : ℕ). place_in a.q.direction m at.j) n) (omega (arith, n, place.ensures.inside)) row.result row.ensures
          (omega (arith, c.requires.ready.fits, at.invariant.1.0)) c.if-at.false c.requires.held,
    )

pub scan_children-returns-then-not-goes_on : goal.scan_children-returns-then-not-goes_on
scan_children-returns-then-not-goes_on t c =
    let a = c.args in
    let at = c.loop-j in
    let n = c.count-n.ensures.is in
    let place = c.place_in-i in
    let row = c.row_at-row in
    let child = c.scan_child-at in
    let test = c.loop-j-test.true in
    walk_is a.st (words a.pool.now) a.below a.s a.q a.room a.out.now a.w c.requires (walk_at child.new.out child.result)
    (walk_leaves a.st (words a.pool.now) a.below a.s a.q c.requires.tree a.room _ at.out at.at at.j at.invariant.1.1
    place.result (omega (arith, n, test)) (place.ensures.is ∙ ap (λ (m : ℕ). place_in a.q.direction m at.j) n) (omega (arith, n, place.ensures.inside)) row.result row.ensures
    child.new.out child.result child.ensures (sym c.goes_on.ensures ∙ not-true _ c.if-not-goes_on.true-raw))

pub scan_children-loop-j-preserved : goal.scan_children-loop-j-preserved
scan_children-loop-j-preserved t c =
    let a = c.args in
    let at = c.loop-j in
    let n = c.count-n.ensures.is in
    let place = c.place_in-i in
    let row = c.row_at-row in
    let child = c.scan_child-at in
    let test = c.loop-j-test.true in (
      omega (arith, test),
      (
        child.auto.out ∙ at.invariant.1.0,
        walk_goes_on a.st (words a.pool.now) a.below a.s a.q c.requires.tree a.room _ at.out at.at at.j at.invariant.1.1
            place.result (omega (arith, n, test)) (place.ensures.is ∙ ap (λ (m : ℕ). place_in a.q.direction m at.j) n) (omega (arith, n, place.ensures.inside)) row.result row.ensures
            child.new.out child.result child.ensures (sym c.goes_on.ensures ∙ not-false _ c.if-not-goes_on.false-raw),
      ),
    )

pub scan_children-returns-then-at : goal.scan_children-returns-then-at
scan_children-returns-then-at t c =
    let a = c.args in
    let at = c.loop-j in
    walk_is a.st (words a.pool.now) a.below a.s a.q a.room a.out.now a.w c.requires (walk_at at.out at.at)
    (walk_stops a.st (words a.pool.now) a.below a.s a.q c.requires.tree a.room _ at.out at.at at.j at.invariant.1.1 c.if-at.true)

pub scan_children-returns-after-loop-j : goal.scan_children-returns-after-loop-j
scan_children-returns-after-loop-j t c =
    let a = c.args in
    let at = c.loop-j in
    let n = c.count-n.ensures.is in
    walk_is a.st (words a.pool.now) a.below a.s a.q a.room a.out.now a.w c.requires (walk_at at.out at.at)
    (walk_ends a.st (words a.pool.now) a.below a.s a.q c.requires.tree a.room _ at.out at.at at.j at.invariant.1.1 (omega (arith, n)))

-- A NODE
pub scan_node-scan_leaf-requires : goal.scan_node-scan_leaf-requires
scan_node-scan_leaf-requires t c =
    let a = c.args in
    subst (λ (h : ℕ). ToScan a.st (words a.pool.now) h a.s a.q a.out.now a.room a.w) c.if-height-eq0.true c.requires

pub scan_node-returns-then-height-eq0 : goal.scan_node-returns-then-height-eq0
scan_node-returns-then-height-eq0 t c =
    let a = c.args in
    c.scan_leaf.ensures
    ∙ ap (λ (h : ℕ). visit_all a.room (openings a.q h (tree_at (nodes a.st (words a.pool.now)) h a.s)) (walk_at a.out.now a.w)) (sym c.if-height-eq0.true)

pub scan_node-scan_children-requires : goal.scan_node-scan_children-requires
scan_node-scan_children-requires t c =
    let a = c.args in
    let e : a.height ≡ suc (a.height - 1) = omega (arith, c.if-height-eq0.false) in
    (omega (arith, c.decreases), subst (λ (h : ℕ). ToScan a.st (words a.pool.now) h a.s a.q a.out.now a.room a.w) e c.requires)

pub scan_node-returns : goal.scan_node-returns
scan_node-returns t c =
    let a = c.args in
    let e : suc (a.height - 1) ≡ a.height = omega (arith, c.if-height-eq0.false) in
    c.scan_children.ensures
    ∙ ap (λ (h : ℕ). visit_all a.room (openings a.q h (tree_at (nodes a.st (words a.pool.now)) h a.s)) (walk_at a.out.now a.w)) e
