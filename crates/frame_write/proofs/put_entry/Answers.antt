-- `put_entry` meets its contract, kind by kind. Assumes nothing.
use mathlib.Core.Path.{ap}
use Prim.Native.Nat.{◌+◌}
use native.Mathlib.Omega.{arith}
use Rattle.frame_text.specs.Entries.{start_of}
use Rattle.frame_text.specs.declared.Kind.TheVariants.{Leaf, Interior}
use Rattle.frame_text.specs.declared.Kind.{Kind}
use Rattle.frame_text.proofs.Coded.{spelled_kind}
use Rattle.frame_write.proofs.put_entry.Goals as goal

pub put_leaf_entry-requires : goal.put_leaf_entry-requires
put_leaf_entry-requires c =
    let a = c.args in
    let now = ap (λ (k : Kind). start_of k a.i) c.in-Leaf.is in
    let next = ap (λ (k : Kind). start_of k (a.i + 1)) c.in-Leaf.is in
    omega (arith, now, next)

pub put_branch-requires : goal.put_branch-requires
put_branch-requires c =
    let a = c.args in
    let now = ap (λ (k : Kind). start_of k a.i) c.in-Interior.is in
    let next = ap (λ (k : Kind). start_of k (a.i + 1)) c.in-Interior.is in
    omega (arith, now, next)

pub returns-in-Leaf : goal.returns-in-Leaf
returns-in-Leaf c =
    let a = c.args in
    spelled_kind a.kind Leaf a.line.now c.put_leaf_entry.new.line c.start_of-a.result a.i a.e c.in-Leaf.is
    c.start_of-a.ensures.0 c.put_leaf_entry.ensures

pub returns-in-Interior : goal.returns-in-Interior
returns-in-Interior c =
    let a = c.args in
    spelled_kind a.kind Interior a.line.now c.put_branch.new.line c.start_of-a.result a.i a.e c.in-Interior.is
    c.start_of-a.ensures.0 c.put_branch.ensures
