-- `contents_at` meets its contract. The loop's invariant: the first j rows are entered, and `child` counts the nodes before the next child. Assumes nothing.
use mathlib.Core.Path.{◌≡◌}
use Prim.Native.Nat.{◌+◌, ◌≤◌}
use lib.ListN.{take}
use Rattle.words.specs.Words.{words}
use Rattle.slots.specs.Nodes.{nodes, nth}
use Rattle.frame_text.specs.Contents.{padded}
use Rattle.frame.proofs.Noded.{numbered}
use Rattle.frame.proofs.Walks.{passed}
use Rattle.frame.proofs.node.contents_at.Given as goal

abbrev pub invariant-loop-j : goal.invariant-loop-j
invariant-loop-j l =
    let ns = nodes l.st (words l.pool) in
    let rs = (nth ns l.s).rows in
    (l.j ≤ l.n) × ((l.child ≡ l.i + 1 + passed ns l.height (take l.j rs)) × (l.entries ≡ padded (numbered ns l.height (l.i + 1) (take l.j rs))))
