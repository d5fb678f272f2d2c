-- `write_node` meets its contract: the walk finds node i or tells that there is none, and the node's entries are its frame's. Assumes nothing.
use Rattle.words.specs.Words.{words}
use Rattle.frame.proofs.Noded.{node_standing, node_found, node_none, node_low, node_written, contents_few}
use Rattle.frame.proofs.node.write_node.Goals as goal

pub find-requires : goal.find-requires
find-requires c =
    node_standing c.args.pool.now c.args.st c.args.height c.requires

pub contents_at-contents-requires : goal.contents_at-contents-requires
contents_at-contents-requires c =
    let a = c.args in
    let found = node_found a.pool.now a.st a.height c.requires a.i c.find.result c.in-Break.node c.in-Break.is c.find.ensures in
    record { stands = found.0; low = node_low a.pool.now a.st a.height c.requires a.i c.in-Break.node found }

pub put_frame-requires : goal.put_frame-requires
put_frame-requires c =
    let a = c.args in
    let node = c.in-Break.node in
    let found = node_found a.pool.now a.st a.height c.requires a.i c.find.result node c.in-Break.is c.find.ensures in
    contents_few a.st (words a.pool.now) node.height node.slot a.i c.contents_at-contents.result found.0 c.contents_at-contents.ensures

pub returns-in-Break : goal.returns-in-Break
returns-in-Break c =
    let a = c.args in
    let found = node_found a.pool.now a.st a.height c.requires a.i c.find.result c.in-Break.node c.in-Break.is c.find.ensures in
    node_written a.pool.now a.st a.height c.requires a.i c.in-Break.node c.contents_at-contents.result a.line.now c.put_frame.new.line c.put_frame.result
    found c.contents_at-contents.ensures c.put_frame.ensures

pub returns-in-Continue : goal.returns-in-Continue
returns-in-Continue c =
    let a = c.args in
    node_none a.pool.now a.st a.height c.requires a.i c.in-Continue.field-0 c.find.result a.line.now c.in-Continue.is c.find.ensures
