-- `entry_of` meets its contract: a row's words are the entry's. Assumes nothing.
use mathlib.Core.Path.{ap}
use Prim.Native.Nat.{ℕ}
use Rattle.tree_rows.proofs.entry_of.Goals as goal

pub returns : goal.returns
returns c =
    let row = c.args.row in
    ap (λ (place : ℕ). record { key = row.key; place = place; size = row.size }) c.entry_place.ensures
