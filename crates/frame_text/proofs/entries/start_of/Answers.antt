-- `start_of` meets its contract, kind by kind. Assumes nothing.
use mathlib.Core.Path.{sym, ap}
use native.Mathlib.Omega.{arith}
use Rattle.frame_text.specs.Entries.{start_of}
use Rattle.frame_text.specs.declared.Kind.{Kind}
use Rattle.frame_text.proofs.entries.start_of.Goals as goal

pub returns-in-Leaf : goal.returns-in-Leaf
returns-in-Leaf c = (sym (ap (λ (k : Kind). start_of k c.args.i) c.in-Leaf.is), omega arith)

pub returns-in-Interior : goal.returns-in-Interior
returns-in-Interior c = (sym (ap (λ (k : Kind). start_of k c.args.i) c.in-Interior.is), omega arith)
