-- `is_due` meets its contract: each of its two tests is one of `is_due`. Assumes nothing.
use borrow.Author.Tests.{lt-ltb, le-ltb}
use Rattle.batch_effect.proofs.is_due.Goals as goal

pub returns-then-next-keys : goal.returns-then-next-keys
returns-then-next-keys c = rw (lt-ltb _ _ c.if-next-keys.true)

pub returns : goal.returns
returns c = rw (le-ltb _ _ c.if-next-keys.false)
