-- `write_header` meets its contract: the words that it stores are the header, and those after them stay (`header_put`). Assumes nothing.
use mathlib.Core.Path.{ap, ◌∙◌}
use Prim.Native.Nat.{ℕ}
use native.Mathlib.Omega.{arith}
use mathlib.Core.List.{List}
use lib.ListN.{set}
use Rattle.words.specs.Words.{words}
use Rattle.words.proofs.Laws.{length_words}
use Rattle.slots_pool.proofs.Fresh.{limits_put, header_put}
use Rattle.slots_pool.proofs.header.write_header.Goals as goal

pub write_limits-requires : goal.write_limits-requires
write_limits-requires c =
    let p = c.args.pool.now in
    omega (arith, length_words c.put-2.new.pool, length_words p, c.put-2.auto.pool, c.put.auto.pool)

pub write_limits-requires-2 : goal.write_limits-requires-2
write_limits-requires-2 c =
    let p = c.args.pool.now in
    omega (arith, length_words c.write_limits.new.pool, length_words p, c.write_limits.auto.pool, c.put-2.auto.pool, c.put.auto.pool)

pub returns : goal.returns
returns c =
    let given = c.args.given in
    c.write_limits-2.ensures
    ∙ ap (λ (l : List ℕ). limits_put l 5 given.second)
    (c.write_limits.ensures ∙ ap (λ (l : List ℕ). limits_put l 2 given.first) (c.put-2.ensures.words ∙ ap (λ (l : List ℕ). set l 1 given.nodes) c.put.ensures.words))
    ∙ header_put (words c.args.pool.now) given c.requires
