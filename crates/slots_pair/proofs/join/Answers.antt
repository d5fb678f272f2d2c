-- `join` meets its contract: all rows of `high` put in at the end of `low`, and slot `high` given up, are a joining (`joined`). Assumes nothing.
use mathlib.Core.List.{List}
use lib.ListN.{set}
use Rattle.words.specs.Words.{words}
use Rattle.slots.specs.Nodes.{Node, unused, nodes}
use Rattle.slots.proofs.Nodes.{then, become}
use Rattle.slots.proofs.Pairs.{joined}
use Rattle.slots_pair.proofs.join.Goals as goal

pub returns : goal.returns
returns c =
    let m = c.count-a in
    let n = c.count-n in
    let a = c.args in
    let W₀ = words a.pool.now in
    let W₁ = words c.insert_from.new.pool in
    let W₂ = words c.release.new.pool in
    become a.st W₀ W₂ _ _
    (then (λ (ns : List Node). set ns a.high unused) a.st W₀ W₁ W₂ _ c.insert_from.ensures c.release.ensures)
    (joined (nodes a.st W₀) a.low a.high n.result m.result n.ensures.is m.ensures.is)
