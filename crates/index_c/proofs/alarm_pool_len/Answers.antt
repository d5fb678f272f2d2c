-- `alarm_pool_len` meets its contract: the settings are those of the three numbers; whether they are in the limits decides between 0 and the length
-- (`len_wrong`, `len_right`). Assumes nothing.
use Rattle.index_c.proofs.Outcomes.{len_wrong, len_limits, len_right}
use Rattle.index_c.proofs.alarm_pool_len.Goals as goal

pub returns-then-not-in_limits : goal.returns-then-not-in_limits
returns-then-not-in_limits c = rw c.settings-given.ensures at (len_wrong _ _ c.in_limits.ensures c.if-not-in_limits.true-raw)

pub pool_len-n-requires : goal.pool_len-n-requires
pool_len-n-requires c = len_limits _ _ c.in_limits.ensures c.if-not-in_limits.false-raw

pub returns : goal.returns
returns c =
    rw c.settings-given.ensures at
    (len_right _ _ c.in_limits.ensures _ c.if-not-in_limits.false-raw c.pool_len-n.ensures)
