-- `leaf_entry` meets its contract: the totals are those of no entries. Assumes nothing.
use mathlib.Core.Path.{ap}
use Rattle.model.specs.declared.Totals.{Totals}
use Rattle.frame_text.proofs.entries.leaf_entry.Goals as goal

pub returns : goal.returns
returns c =
    let a = c.args in
    ap (λ (t : Totals). record { key = a.key; reference = record { place = a.place; size = a.size }; child = 0; totals = t })
    c.no_totals.ensures
