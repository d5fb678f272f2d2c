-- `renew_two` meets its contract: the second row is made new where the first was. Assumes nothing.
use native.Mathlib.Omega.{arith}
use Rattle.words.specs.Words.{words}
use Rattle.slots.proofs.Nodes.{fits_node}
use Rattle.batch_share.proofs.Parents.{renews_second, renewed_both}
use Rattle.batch_share.proofs.renew.renew_two.Goals as goal

pub overflow_add-next : goal.overflow_add-next
overflow_add-next c =
    let a = c.args in
    let t = c.requires in
    omega (arith, t.within, fits_node a.st (words a.pool.now) a.at.parent t.held, t.held.shape.most)

pub renew-requires-2 : goal.renew-requires-2
renew-requires-2 c =
    let a = c.args in
    renews_second a.st (words a.pool.now) _ a.at.height a.at.parent a.at.row a.p a.c c.requires c.renew.ensures

pub returns : goal.returns
returns c =
    let a = c.args in
    renewed_both a.st (words a.pool.now) _ a.at.height a.at.parent a.at.row a.p a.c c.requires
    c.renew.ensures _ c.renew-2.ensures
