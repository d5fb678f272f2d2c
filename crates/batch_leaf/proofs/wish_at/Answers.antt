-- `wish_at` meets its contract: operation by operation. Only a SetEach reads, and for it both lists are long enough (`lent_each`). Assumes nothing.
use Prim.Native.Nat.{◌+◌}
use native.Mathlib.Omega.{arith}
use Rattle.batch_leaf.proofs.Tasks.{lent_each}
use Rattle.batch_leaf.proofs.wish_at.Goals as goal

pub offset_bounds-batch-i : goal.offset_bounds-batch-i
offset_bounds-batch-i c =
    let a = c.args in
    omega (arith, lent_each a.batch.now.places.now a.batch.now.sizes.now (a.i + 1) c.in-SetEach.is c.requires)

pub bounds-batch-i : goal.bounds-batch-i
bounds-batch-i c =
    let a = c.args in
    omega (arith, lent_each a.batch.now.places.now a.batch.now.sizes.now (a.i + 1) c.in-SetEach.is c.requires)

pub offset_bounds-batch-i-in-SetEach : goal.offset_bounds-batch-i-in-SetEach
offset_bounds-batch-i-in-SetEach c =
    let a = c.args in
    omega (arith, lent_each a.batch.now.places.now a.batch.now.sizes.now (a.i + 1) c.in-SetEach.is c.requires)

pub bounds-batch-i-in-SetEach : goal.bounds-batch-i-in-SetEach
bounds-batch-i-in-SetEach c =
    let a = c.args in
    omega (arith, lent_each a.batch.now.places.now a.batch.now.sizes.now (a.i + 1) c.in-SetEach.is c.requires)

pub returns-in-Set : goal.returns-in-Set
returns-in-Set c = rw c.in-Set.is

pub returns-in-SetEach : goal.returns-in-SetEach
returns-in-SetEach c = rw c.in-SetEach.is

pub returns-in-Remove : goal.returns-in-Remove
returns-in-Remove c = rw c.in-Remove.is

pub returns-in-Compare : goal.returns-in-Compare
returns-in-Compare c = rw c.in-Compare.is
