-- `write_limits` meets its contract: it stores three words, one after the other. Assumes nothing.
use mathlib.Core.Path.{ap, ◌∙◌}
use Prim.Native.Nat.{ℕ, ◌+◌}
use mathlib.Core.List.{List}
use lib.ListN.{set}
use Rattle.slots_pool.proofs.header.write_limits.Goals as goal

pub returns : goal.returns
returns c =
    let a = c.args in
    c.put-3.ensures.words
    ∙ ap (λ (l : List ℕ). set l (a.i + 2) 0) (c.put-2.ensures.words ∙ ap (λ (l : List ℕ). set l (a.i + 1) a.limits.minimum) c.put.ensures.words)
