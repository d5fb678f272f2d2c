-- `scan` meets its contract: a sound pool can be walked, and the walk lists and counts what the model does. Assumes nothing.
use Rattle.look.proofs.Sounds.{pool_scan, pool_scanned, pool_opened}
use Rattle.look.proofs.calls.scan.Goals as goal

pub scan_node-requires : goal.scan_node-requires
scan_node-requires c =
    let a = c.args in
    pool_scan a.pool.now a.st a.height c.requires a.q a.out.now

pub returns : goal.returns
returns c =
    let a = c.args in
    let node = c.scan_node in
    let out = node.new.out in record { written = pool_scanned a.pool.now a.st a.height c.requires a.q a.out.now out node.result node.ensures; opened = pool_opened a.pool.now a.st a.height c.requires a.q a.out.now out node.result node.ensures }
