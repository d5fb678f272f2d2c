-- `release` meets its contract: a node without rows and of kind 0 is an unused slot (`released`). Assumes nothing.
use native.Mathlib.Omega.{arith}
use mathlib.Core.List.{List}
use Rattle.words.specs.Words.{words}
use Rattle.slots.specs.Nodes.{Node, nodes, put_kind}
use Rattle.slots.proofs.Nodes.{then, become, length_nodes}
use Rattle.slots.proofs.Pairs.{released}
use Rattle.slots.proofs.release.Goals as goal

pub returns : goal.returns
returns c =
    let n = c.count-n in
    let a = c.args in
    let W₀ = words a.pool.now in
    let W₁ = words c.remove_rows.new.pool in
    let W₂ = words c.set_kind.new.pool in
    become a.st W₀ W₂ _ _
    (then (λ (ns : List Node). put_kind ns a.s 0) a.st W₀ W₁ W₂ _ c.remove_rows.ensures c.set_kind.ensures)
    (released (nodes a.st W₀) a.s n.result (omega (arith, length_nodes a.st W₀)) n.ensures.is)
