-- `leaf_for` meets its contract. The loop's invariant: the tree in slot `s` can be searched, and the key is held there as in the whole. Assumes nothing.
use mathlib.Core.Path.{◌≡◌}
use Prim.Native.Nat.{suc}
use Rattle.words.specs.Words.{words}
use Rattle.slots.specs.Nodes.{nodes}
use Rattle.model.specs.Tree.{entries}
use Rattle.model.specs.Plain.{held}
use Rattle.tree.specs.Bridge.{tree_at}
use Rattle.look.specs.Promises.{ToDescend}
use Rattle.look.proofs.lookup.leaf_for.Given as goal

abbrev pub invariant-loop-h : goal.invariant-loop-h
invariant-loop-h l =
    let ns = nodes l.st (words l.pool) in
    ToDescend l.st (words l.pool) l._h l.s × (held l.key (entries (suc l._h) (tree_at ns l._h l.s)) ≡ held l.key (entries (suc l.height) (tree_at ns l.height l.st.root)))
