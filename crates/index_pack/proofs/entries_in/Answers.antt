-- `entries_in` meets its contract: live entries and dead ones are all (`entries_told`), and not too many for a sum. Assumes nothing.
use Rattle.index_pack.proofs.Asks.{entries_told}
use Rattle.index_pack.proofs.entries_in.Goals as goal

pub returns : goal.returns
returns c =
    entries_told _ _ _ c.requires c.totals-t.result c.totals-t.ensures
