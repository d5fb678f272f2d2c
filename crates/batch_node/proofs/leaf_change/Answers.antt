-- `leaf_change` meets its contract: what the leaf took is the model's leaf, and its length tells the result. Assumes nothing.
use Rattle.tree.specs.Bridge.{unused_of}
use Rattle.slots.specs.Nodes.{nodes}
use Rattle.words.specs.Words.{words}
use Rattle.batch_node.proofs.Leaves.{leaf_asked, leaf_came}
use Rattle.batch_node.proofs.leaf_change.Goals as goal

pub take_keys-r-requires : goal.take_keys-r-requires
take_keys-r-requires c = (leaf_asked c.requires, c.requires.batch)

pub count-n-requires : goal.count-n-requires
count-n-requires c =
    let us = unused_of (nodes c.args.st (words c.args.pool.now)) in
    record { held = (c.take_keys-r.ensures us).did.held; slot = (leaf_asked c.requires).slot }

pub returns : goal.returns
returns c =
    let us = unused_of (nodes c.args.st (words c.args.pool.now)) in
    leaf_came c.requires (c.take_keys-r.ensures us) c.count-n.ensures.is c.result_of-result.result c.result_of-result.ensures
