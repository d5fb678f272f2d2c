-- `exempt` meets its contract: the test of no keys is the model's first, and where it fails the answer is whether the batch removes. Assumes nothing.
use mathlib.Core.Path.{refl}
use borrow.Author.Tests.{eq-eqb, ne_eqb}
use Rattle.index_refuse.proofs.room.exempt.Goals as goal

pub returns-then-n-eq0 : goal.returns-then-n-eq0
returns-then-n-eq0 c = simp (eq-eqb _ _ c.if-n-eq0.true) refl

pub returns-else-n-eq0 : goal.returns-else-n-eq0
returns-else-n-eq0 c = simp (ne_eqb _ _ c.if-n-eq0.false) c.is_remove.ensures
