-- `open` meets its contract: the settings of the desk are in limits, and the length is exact, so it is not refused. Assumes nothing.
use Rattle.std.specs.Prelude.{Ok, is_ok}
use Rattle.index_promise.proofs.Unique.{by_sound}
use Rattle.model.specs.Sound.{rows_for}
use Rattle.model.proofs.Refusals.{told_only}
use Rattle.desk_promise.proofs.Sessions.{desk_limits}
use mathlib.Core.Path.{ap}
use Rattle.desk_pool.proofs.open.Goals as goal

pub unwrap-requires : goal.unwrap-requires
unfolding rows_for
unwrap-requires c =
    let left = by_sound (desk_limits, c.told-pool) c.open.ensures in
    ap is_ok (told_only c.open.result (Ok tt) (ap (λ w. w.answer) left))

pub returns : goal.returns
unfolding rows_for
returns c = ap (λ w. w.bytes) (by_sound (desk_limits, c.told-pool) c.open.ensures)
