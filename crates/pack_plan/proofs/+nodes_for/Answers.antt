-- `nodes_for` meets its contract, the height falling. The loop's invariant: the nodes counted so far, with those of the pieces that are left, are the
-- tree's (`Counting`). Assumes nothing.
use mathlib.Core.Path.{◌≡◌, sym, ap, ◌∙◌}
use Prim.Native.Nat.{ℕ, suc, ◌+◌, ◌-◌, ◌≤◌, min}
use native.Mathlib.Omega.{arith}
use Rattle.model_pack.specs.Pack as pack
use Rattle.model_pack.proofs.Pieces.{capacity_some, capacity_most}
use Rattle.pack_plan.specs.Plan.{packed_nodes}
use Rattle.pack_plan.proofs.Sums.{nodes_bound, Counting, counting_start, counting_more, counting_end}
use Rattle.pack_plan.proofs.+nodes_for.Goals as goal

pub returns-then-height-eq0 : goal.returns-then-height-eq0
returns-then-height-eq0 t c =
    let a = c.args in
    let e : a.height ≡ 0 = omega (arith, c.if-height-eq0.true) in
    record { nodes = ap (λ (h : ℕ). packed_nodes a.order h a.n) (sym e); few = omega arith }

pub overflow_sub-height : goal.overflow_sub-height
overflow_sub-height t c = omega (arith, c.if-height-eq0.false)

pub capacity-most-requires : goal.capacity-most-requires
capacity-most-requires t c =
    let asked = c.requires in
    record { narrow = asked.measured.narrow; low = omega (arith, asked.measured.low) }

pub loop-left-init : goal.loop-left-init
loop-left-init t c = counting_start c.args.order (c.args.height - 1) c.args.n

pub overflow_sub-height-in-loop-left : goal.overflow_sub-height-in-loop-left
overflow_sub-height-in-loop-left t c = omega (arith, c.if-height-eq0.false)

pub nodes_for-nodes-requires : goal.nodes_for-nodes-requires
nodes_for-nodes-requires t c =
    let asked = c.requires in (
      omega (arith, c.decreases, c.if-height-eq0.false),
      record {
        some = asked.some;
        measured = record { narrow = asked.measured.narrow; low = omega (arith, asked.measured.low) };
        fit = omega (arith, c.min-piece.ensures, c.capacity-most.ensures);
      },
    )

pub overflow_add-nodes : goal.overflow_add-nodes
overflow_add-nodes t c =
    let a = c.args in
    let asked = c.requires in
    let up : a.height ≡ suc (a.height - 1) = omega (arith, c.if-height-eq0.false) in
    omega (
      arith,
      (let it : let a = c.args in
          Counting a.order (a.height - 1) a.n (c.loop-left.nodes + c.nodes_for-nodes.result) (c.loop-left.left - c.min-piece.result) = let a = c.args in
          let up : a.height ≡ suc (a.height - 1) = omega (arith, c.if-height-eq0.false) in
          let fit : a.n ≤ pack.capacity a.order (suc (a.height - 1)) = omega (arith, c.requires.fit, ap (pack.capacity a.order) up) in
          counting_more c.loop-left.invariant fit (omega arith) c.min-piece.result c.nodes_for-nodes.result
          (c.min-piece.ensures ∙ ap (λ (k : ℕ). min k c.loop-left.left) c.capacity-most.ensures) c.nodes_for-nodes.ensures.nodes in it).sum,
      ap (λ (h : ℕ). packed_nodes a.order h a.n) up,
      nodes_bound a.order a.height a.n asked,
      asked.fit,
      capacity_most a.order a.height asked.measured.narrow asked.measured.low,
    )

pub overflow_sub-left : goal.overflow_sub-left
overflow_sub-left t c = omega (arith, c.min-piece.ensures)

pub loop-left-smaller : goal.loop-left-smaller
loop-left-smaller t c =
    omega (arith, c.min-piece.ensures, c.capacity-most.ensures, capacity_some c.args.order c.requires.some (c.args.height - 1))

-- with this piece's nodes
pub loop-left-preserved : goal.loop-left-preserved
loop-left-preserved t c =
    let a = c.args in
    let up : a.height ≡ suc (a.height - 1) = omega (arith, c.if-height-eq0.false) in
    let fit : a.n ≤ pack.capacity a.order (suc (a.height - 1)) = omega (arith, c.requires.fit, ap (pack.capacity a.order) up) in
    counting_more c.loop-left.invariant fit (omega arith) c.min-piece.result c.nodes_for-nodes.result
    (c.min-piece.ensures ∙ ap (λ (k : ℕ). min k c.loop-left.left) c.capacity-most.ensures) c.nodes_for-nodes.ensures.nodes

pub returns : goal.returns
returns t c =
    let a = c.args in
    let up : suc (a.height - 1) ≡ a.height = omega (arith, c.if-height-eq0.false) in
    let is : c.loop-left.nodes ≡ packed_nodes a.order a.height a.n =
    counting_end c.loop-left.invariant (omega arith) ∙ ap (λ (h : ℕ). packed_nodes a.order h a.n) up in
    record { nodes = is; few = omega (arith, nodes_bound a.order a.height a.n c.requires) }
