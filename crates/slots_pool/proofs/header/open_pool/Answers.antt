-- `open_pool` meets its contract: zeros with a header are a pool of unused slots (`blank_words`, `blank_held`), and so a leaf of each tree leaves the
-- words of a new pool (`new_words`). Assumes nothing.
use mathlib.Core.Path.{◌≡◌, sym}
use mathlib.Core.List.{◌++◌}
use Prim.Native.Nat.{◌/◌}
use native.Mathlib.Omega.{arith}
use lib.ListN.{length, replicate}
use Rattle.words.specs.Words.{words}
use Rattle.words.proofs.Laws.{length_words}
use Rattle.model.specs.Sound.{rows_for}
use Rattle.slots.specs.Nodes.{unused}
use Rattle.slots_pool.specs.Header.{header_of}
use Rattle.slots_pool.specs.Image.{image}
use Rattle.slots_pool.proofs.Fresh.{blank_words, both_held, blank_held, new_words}
use Rattle.slots_pool.proofs.header.open_pool.Goals as goal

pub clear-requires : goal.clear-requires
clear-requires c = omega (arith, length_words c.args.pool.now)

pub plant-requires : goal.plant-requires
plant-requires c =
    let given = c.args.given in record {
      limits = c.requires.limits;
      held = blank_held given (words c.write_header.new.pool) c.requires.limits (let it : let given = c.args.given in
          words c.write_header.new.pool ≡ header_of given ++ image 0 (rows_for given) (replicate given.nodes unused) = let p = c.args.pool.now in
          blank_words c.args.given (words p) (words c.clear.new.pool) (words c.write_header.new.pool) (length p / 8) c.requires.shape
          (sym (length_words p)) c.clear.ensures.words c.write_header.ensures in it);
    }

pub plant-requires-2 : goal.plant-requires-2
plant-requires-2 c =
    let given = c.args.given in record { limits = c.requires.limits; held = both_held given (words c.plant.new.pool) 0 1 c.requires.limits c.plant.ensures.held }

pub returns : goal.returns
returns c =
    let given = c.args.given in
    new_words given (words c.write_header.new.pool) c.requires.limits (let it : let given = c.args.given in
    words c.write_header.new.pool ≡ header_of given ++ image 0 (rows_for given) (replicate given.nodes unused) = let p = c.args.pool.now in
    blank_words c.args.given (words p) (words c.clear.new.pool) (words c.write_header.new.pool) (length p / 8) c.requires.shape
    (sym (length_words p)) c.clear.ensures.words c.write_header.ensures in it) (words c.plant.new.pool) (words c.plant-2.new.pool)
    c.plant.ensures c.plant-2.ensures
