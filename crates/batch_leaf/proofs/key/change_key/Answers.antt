-- `change_key` meets its contract: what was found and decided can be done (`key_able`), and done it is the task (`key_done`). Assumes nothing.
use Rattle.words.specs.Words.{words}
use Rattle.slots.specs.Nodes.{rows_at}
use Rattle.batch_leaf.proofs.Steps.{ascending, key_able, key_done}
use Rattle.batch_leaf.proofs.key.change_key.Goals as goal

pub search-found-requires : goal.search-found-requires
search-found-requires c =
    let a = c.args in
    record { held = c.requires.held; slot = c.requires.slot; keys = ascending (rows_at a.st (words a.pool.now) a.s) c.requires.sorted }

pub perform-requires : goal.perform-requires
perform-requires c =
    let a = c.args in
    key_able a.wish c.requires c.decide-effect.result c.search-found.ensures c.held_at-here.ensures
    c.decide-effect.ensures c.place_of-i.ensures

pub returns : goal.returns
returns c =
    let a = c.args in
    key_done a.wish c.requires c.decide-effect.result c.search-found.ensures c.held_at-here.ensures
    c.decide-effect.ensures c.place_of-i.ensures c.perform.ensures
