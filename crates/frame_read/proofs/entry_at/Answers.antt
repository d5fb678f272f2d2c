-- `entry_at` meets its contract, kind by kind. Assumes nothing.
use mathlib.Core.Path.{ap}
use Prim.Native.Nat.{◌+◌}
use native.Mathlib.Omega.{arith}
use Rattle.frame_text.specs.Digits.{pairs}
use Rattle.frame_text.specs.Entries.{start_of}
use Rattle.frame_text.specs.declared.Kind.TheVariants.{Leaf, Interior}
use Rattle.frame_text.specs.declared.Kind.{Kind}
use Rattle.frame_text.proofs.Coded.{entry_kind}
use Rattle.frame_read.proofs.entry_at.Goals as goal

pub leaf_entry_at-requires : goal.leaf_entry_at-requires
leaf_entry_at-requires c =
    let a = c.args in
    let now = ap (λ (k : Kind). start_of k a.i) c.in-Leaf.is in
    let next = ap (λ (k : Kind). start_of k (a.i + 1)) c.in-Leaf.is in record { digits = c.requires.digits; within = omega (arith, now, next) }

pub branch_at-requires : goal.branch_at-requires
branch_at-requires c =
    let a = c.args in
    let now = ap (λ (k : Kind). start_of k a.i) c.in-Interior.is in
    let next = ap (λ (k : Kind). start_of k (a.i + 1)) c.in-Interior.is in record { digits = c.requires.digits; within = omega (arith, now, next) }

pub returns-in-Leaf : goal.returns-in-Leaf
returns-in-Leaf c =
    entry_kind c.args.kind Leaf (pairs c.args.line.now) c.start_of-a.result c.args.i c.leaf_entry_at.result
    c.in-Leaf.is c.start_of-a.ensures.0 c.leaf_entry_at.ensures

pub returns-in-Interior : goal.returns-in-Interior
returns-in-Interior c =
    entry_kind c.args.kind Interior (pairs c.args.line.now) c.start_of-a.result c.args.i c.branch_at.result
    c.in-Interior.is c.start_of-a.ensures.0 c.branch_at.ensures
