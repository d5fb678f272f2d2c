-- `header_right` meets its contract: the words of the header are there once the length is tested. Assumes nothing.
use native.Mathlib.Omega.{arith}
use Rattle.words.proofs.Laws.{length_words}
use Rattle.survey.proofs.header_right.Goals as goal

pub layout-requires : goal.layout-requires
layout-requires c = omega (arith, length_words c.args.pool.now)

pub reserved_zero-requires : goal.reserved_zero-requires
reserved_zero-requires c = omega (arith, length_words c.args.pool.now)

pub settings-given-requires : goal.settings-given-requires
settings-given-requires c = omega (arith, length_words c.args.pool.now)
