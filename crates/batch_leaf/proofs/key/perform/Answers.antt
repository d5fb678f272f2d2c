-- `perform` meets its contract: each effect but the first is one change of rows. Assumes nothing.
use mathlib.Core.Path.{refl, sym}
use Rattle.words.specs.Words.{words}
use Rattle.slots.specs.Nodes.{nodes}
use Rattle.slots.specs.Promises.{ToTouch}
use Rattle.slots.proofs.Nodes.{become, put_same}
use Rattle.batch_leaf.proofs.key.perform.Goals as goal

pub insert_row-requires : goal.insert_row-requires
insert_row-requires c = rw c.in-Add.is at c.requires

pub set_row-requires : goal.set_row-requires
set_row-requires c = rw c.in-Replace.is at c.requires

pub remove_row-requires : goal.remove_row-requires
remove_row-requires c = rw c.in-Remove.is at c.requires

pub returns-in-Leave : goal.returns-in-Leave
returns-in-Leave c =
    let a = c.args in
    let W = words a.pool.now in
    let pre : ToTouch a.st W a.s = rw c.in-Leave.is at c.requires in
    rw c.in-Leave.is (record { held = pre.held; is = sym (put_same (nodes a.st W) a.s); header = refl })

pub returns-in-Add : goal.returns-in-Add
returns-in-Add c =
    let a = c.args in
    become a.st (words a.pool.now) (words c.insert_row.new.pool) _ _ c.insert_row.ensures
    (rw (c.in-Add.is, c.entry_row-row.ensures))

pub returns-in-Replace : goal.returns-in-Replace
returns-in-Replace c =
    let a = c.args in
    become a.st (words a.pool.now) (words c.set_row.new.pool) _ _ c.set_row.ensures
    (rw (c.in-Replace.is, c.entry_row-row-in-Replace.ensures))

pub returns-in-Remove : goal.returns-in-Remove
returns-in-Remove c =
    let a = c.args in
    become a.st (words a.pool.now) (words c.remove_row.new.pool) _ _ c.remove_row.ensures
    (rw c.in-Remove.is)
