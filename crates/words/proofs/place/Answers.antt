-- `place` meets its contract: as the pool has a word `i`, the eight bytes of it stand within the pool. Assumes nothing.
use mathlib.Core.Path.{refl}
use native.Mathlib.Omega.{arith}
use Rattle.words.proofs.Laws.{room}
use Rattle.words.proofs.place.Goals as goal

pub overflow_mul-result : goal.overflow_mul-result
overflow_mul-result c = omega (arith, room c.args.pool.now c.args.i c.requires)

pub returns : goal.returns
returns c = record { is = refl; inside = room c.args.pool.now c.args.i c.requires }
