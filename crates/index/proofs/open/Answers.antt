-- `open` meets its contract: what the pool's opening has done is what the call promises, whether it was done (`opened`) or refused (`not_opened`).
-- Assumes nothing.
use Rattle.index.proofs.Opens.{opened, not_opened}
use Rattle.index.proofs.open.Goals as goal

pub returns-then-open : goal.returns-then-open
returns-then-open c = opened _ _ _ _ c.open.ensures c.if-open.true

pub returns-else-open : goal.returns-else-open
returns-else-open c = not_opened _ _ _ _ c.open.ensures c.if-open.false
