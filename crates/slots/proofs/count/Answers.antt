-- `count` meets its contract: in a pool in order the count of a slot is the number of its node's rows (`count_node`). Assumes nothing.
use mathlib.Core.Path.{◌∙◌}
use native.Mathlib.Omega.{arith}
use Rattle.words.specs.Words.{words}
use Rattle.slots.proofs.Nodes.{count_node, fits_node}
use Rattle.slots.proofs.count.Goals as goal

pub returns : goal.returns
returns c =
    let a = c.args in
    let e = c.raw_count.ensures ∙ count_node a.st (words a.pool.now) a.s c.requires.held in
    record { is = e; fits = omega (arith, e, fits_node a.st (words a.pool.now) a.s c.requires.held) }
