-- `spell_row` meets its contract: 24 bytes are three words, each of which is set (`spelled`). Assumes nothing.
use mathlib.Core.Path.{ap, ◌∙◌}
use Prim.Native.Nat.{ℕ}
use mathlib.Core.List.{List}
use native.Mathlib.Omega.{arith}
use lib.ListN.{set}
use Rattle.words.specs.Words.{words}
use Rattle.words.proofs.Laws.{length_words}
use Rattle.look_output.proofs.Outputs.{spelled}
use Rattle.look_output.proofs.spell_row.Goals as goal

pub put-requires : goal.put-requires
put-requires c = omega (arith, length_words c.args.part.now)

pub put-requires-2 : goal.put-requires-2
put-requires-2 c = omega (arith, length_words c.args.part.now)

pub put-requires-3 : goal.put-requires-3
put-requires-3 c =
    omega (arith, length_words c.args.part.now)

pub returns : goal.returns
returns c =
    let p = c.args.part.now in
    let row = c.args.row in
    spelled (words p) c.put-3.new.pool row.key row.body row.size (omega (arith, length_words p)) (omega arith)
    (λ i. (c.slice_known-4-1.given i).fits)
    (c.put-3.ensures.words ∙ ap (λ (l : List ℕ). set l 2 row.size)
    (c.put-2.ensures.words ∙ ap (λ (l : List ℕ). set l 1 c.entry_place-place.result) c.put.ensures.words
    ∙ ap (λ (place : ℕ). set (set (words p) 0 row.key) 1 place) c.entry_place-place.ensures))
