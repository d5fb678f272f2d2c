-- `left_edge` meets its contract. The loop's invariant: the height from the root is the steps taken and the height from here. Assumes nothing.
use mathlib.Core.Path.{◌≡◌, sym, ap, ◌∙◌}
use mathlib.Core.List.{List}
use Prim.Native.Nat.{ℕ, suc, ◌+◌, ◌-◌, ◌≤◌}
use native.Mathlib.Omega.{arith}
use lib.ListN.{length}
use Rattle.words.specs.Words.{words}
use Rattle.slots.specs.Nodes as S
use Rattle.slots.specs.Nodes.{nodes, nth}
use Rattle.slots.proofs.Nodes.{kind_node, length_nodes}
use Rattle.tree.specs.Pool.{height_at}
use Rattle.survey.proofs.Edges.{edge_end, edge_past, edge_down}
use Rattle.survey.proofs.walk.left_edge.Goals as goal

pub returns-then-st-s : goal.returns-then-st-s
returns-then-st-s c =
    let a = c.args in
    let at = c.loop-height in
    let W = words a.pool.now in
    let past : length (nodes a.st W) ≤ at.s = omega (arith, length_nodes a.st W) in
    omega (arith, at.invariant.1, edge_past (nodes a.st W) (8 - at.height) at.s past)

pub returns-then-raw_kind-ne-INTERIOR : goal.returns-then-raw_kind-ne-INTERIOR
returns-then-raw_kind-ne-INTERIOR c =
    let a = c.args in
    let at = c.loop-height in
    let W = words a.pool.now in
    omega (
      arith,
      at.invariant.1,
      edge_end (nodes a.st W) (8 - at.height) at.s
          (λ e. c.if-raw_kind-ne-INTERIOR.true (c.raw_kind.ensures ∙ kind_node a.st W at.s ∙ e)),
    )

pub loop-height-preserved : goal.loop-height-preserved
loop-height-preserved c =
    let a = c.args in
    let at = c.loop-height in
    let W = words a.pool.now in
    let ns : List S.Node = nodes a.st W in
    let kind : (nth ns at.s).kind ≡ 2 = sym (kind_node a.st W at.s) ∙ sym c.raw_kind.ensures ∙ c.if-raw_kind-ne-INTERIOR.false in
    let steps : 8 - at.height ≡ suc (8 - (at.height + 1)) = omega arith in
    let down : height_at ns (8 - at.height) at.s ≡ suc (height_at ns (8 - (at.height + 1)) c.first_child-s.result) =
    ap (λ (m : ℕ). height_at ns m at.s) steps ∙ edge_down ns (8 - (at.height + 1)) at.s kind
    ∙ ap (λ (t : ℕ). suc (height_at ns (8 - (at.height + 1)) t)) (sym c.first_child-s.ensures) in
    (omega arith, omega (arith, at.invariant.1))

pub returns : goal.returns
returns c =
    let a = c.args in
    let at = c.loop-height in
    let end : 8 - at.height ≡ 0 = omega (arith, c.loop-height-test.false) in
    omega (arith, at.invariant.0, c.loop-height-test.false, at.invariant.1, ap (λ (m : ℕ). height_at (nodes a.st (words a.pool.now)) m at.s) end)
