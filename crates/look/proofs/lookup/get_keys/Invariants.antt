-- `get_keys` meets its contract. The loop's invariant: the keys that are left, listed on this page, give what all of them give on the first. Assumes
-- nothing.
use mathlib.Core.Path.{◌≡◌}
use Prim.Native.Nat.{suc, ◌≤◌}
use lib.ListN.{length, drop}
use Rattle.words.specs.Words.{words}
use Rattle.slots.specs.Nodes.{nodes}
use Rattle.model.specs.Tree.{entries}
use Rattle.model.specs.Look.{found}
use Rattle.tree.specs.Bridge.{tree_at}
use Rattle.look_output.specs.Output.{page, enlist_all, fresh_page}
use Rattle.look.proofs.lookup.get_keys.Given as goal

abbrev pub invariant-loop-key : goal.invariant-loop-key
invariant-loop-key l =
    let es = entries (suc l.height) (tree_at (nodes l.st (words l.pool)) l.height l.st.root) in
    (l.key-index ≤ length l.keys) × ((length l.out ≡ length l.initial.out) × (enlist_all l.room (found (drop l.key-index l.keys) es) (page l.out l.l) ≡ enlist_all l.room (found l.keys es) (fresh_page l.initial.out)))
