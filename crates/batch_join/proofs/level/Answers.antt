-- `level` meets its contract: a move of the right amount, either way, leaves the half in each. Assumes nothing.
use Rattle.words.specs.Words.{words}
use Rattle.slots.specs.Nodes.{nodes}
use Rattle.slots.proofs.Nodes.{become}
use Rattle.batch_share.proofs.Cuts.{level_back, level_on}
use Rattle.batch_join.proofs.level.Goals as goal

pub returns-then-m-keep : goal.returns-then-m-keep
returns-then-m-keep c =
    let a = c.args in
    let W = words a.pool.now in
    become a.st W (words c.share_back.new.pool) _ _ c.share_back.ensures
    (level_back (nodes a.st W) a.p a.c _ _ c.count-m.ensures.is c.count-n.ensures.is c.requires.apart
    c.half-keep.ensures c.if-m-keep.true)

pub returns : goal.returns
returns c =
    let a = c.args in
    let W = words a.pool.now in
    become a.st W (words c.share_forward.new.pool) _ _ c.share_forward.ensures
    (level_on (nodes a.st W) a.p a.c _ _ c.count-m.ensures.is c.count-n.ensures.is c.requires.apart
    c.half-keep.ensures c.if-m-keep.false)
