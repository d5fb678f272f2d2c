-- `raw_count` meets its contract: the word after the kind is the count (`count_at`). Assumes nothing.
use mathlib.Core.Path.{ap, ◌∙◌}
use Prim.Native.Nat.{ℕ, ◌+◌}
use lib.ListN.{get_or}
use Rattle.words.specs.Words.{words}
use Rattle.slots_raw.proofs.Raws.{count_at}
use Rattle.slots_raw.proofs.raw_count.Goals as goal

pub returns : goal.returns
returns c =
    let W = words c.args.pool.now in
    c.get.ensures
    ∙ ap (λ (j : ℕ). get_or W (j + 1) 0) c.base-b.ensures.start
    ∙ count_at c.args.st W c.args.s c.requires.0 c.requires.1
