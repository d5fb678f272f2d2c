-- `ceiling_for` meets its contract: the key itself, the separator or the ceiling, as the two tests tell. Assumes nothing.
use native.Mathlib.Omega.{arith}
use Rattle.batch_seek.proofs.Seeks.{low_key, low_separator, low_ceiling}
use Rattle.batch_seek.proofs.ceiling_for.Goals as goal

pub returns-then-separator-key : goal.returns-then-separator-key
returns-then-separator-key c = let a = c.args in low_key a.separator a.key a.ceiling c.if-separator-key.true

pub returns-then-separator-ceiling : goal.returns-then-separator-ceiling
returns-then-separator-ceiling c =
    let a = c.args in
    low_separator a.separator a.key a.ceiling (omega (arith, c.if-separator-key.false)) c.if-separator-ceiling.true

pub returns : goal.returns
returns c =
    let a = c.args in
    low_ceiling a.separator a.key a.ceiling (omega (arith, c.if-separator-key.false)) (omega (arith, c.if-separator-ceiling.false))
