-- `raw_kind` meets its contract: the word at which a slot starts, as the tree sees it, is its kind (`kind_at`). Assumes nothing.
use mathlib.Core.Path.{ap, ◌∙◌}
use Prim.Native.Nat.{ℕ}
use lib.ListN.{get_or}
use Rattle.words.specs.Words.{words}
use Rattle.slots_raw.specs.Slots.{seen}
use Rattle.slots_raw.proofs.Raws.{kind_at}
use Rattle.slots_raw.proofs.raw_kind.Goals as goal

pub returns : goal.returns
returns c =
    let W = words c.args.pool.now in
    c.seen.ensures
    ∙ ap (seen c.args.st.root) (c.get-stored.ensures ∙ ap (λ (j : ℕ). get_or W j 0) c.base-b.ensures.start)
    ∙ kind_at c.args.st W c.args.s c.requires.0 c.requires.1
