-- `get_keys` meets its contract. The loop's invariant: the keys that are left, listed on this page, give what all of them give on the first. Assumes
-- nothing.
use mathlib.Core.Path.{refl, sym, ap, ◌∙◌}
use Prim.Native.Nat.{suc, ◌+◌, ◌-◌}
use native.Mathlib.Omega.{arith}
use lib.ListN.{drop}
use Rattle.words.specs.Words.{words}
use Rattle.slots.specs.Nodes.{nodes}
use Rattle.model.specs.Tree.{entries}
use Rattle.model.specs.Look.{found}
use Rattle.tree.specs.Bridge.{tree_at}
use Rattle.look_output.specs.Output.{page, enlist_all}
use Rattle.look_output.proofs.Outputs.{ended}
use Rattle.look.proofs.Descents.{keys_next, keys_end}
use Rattle.look.proofs.lookup.get_keys.Goals as goal

pub loop-key-init : goal.loop-key-init
loop-key-init c = (omega arith, (refl, refl))

pub get_key-l-requires : goal.get_key-l-requires
get_key-l-requires c = record { grown = c.requires.grown; space = omega (arith, c.requires.space, c.loop-key.invariant.1.0); unfilled = c.if-l.false }

pub loop-key-preserved : goal.loop-key-preserved
loop-key-preserved c =
    let a = c.args in
    let at = c.loop-key in
    let es = entries (suc a.height) (tree_at (nodes a.st (words a.pool.now)) a.height a.st.root) in
    let got = c.get_key-l in (
      omega (arith, c.loop-key-test.true),
      (
        got.auto.out ∙ at.invariant.1.0,
        ap (enlist_all a.room (found (drop (at.key-index + 1) a.keys.now) es)) got.ensures
            ∙ keys_next a.room a.keys.now es (page at.out at.l) at.key-index
            c.loop-key-test.true ∙ at.invariant.1.1,
      ),
    )

pub returns-then-l : goal.returns-then-l
returns-then-l c =
    let a = c.args in
    let at = c.loop-key in
    let es = entries (suc a.height) (tree_at (nodes a.st (words a.pool.now)) a.height a.st.root) in
    sym (ended a.room (found (drop at.key-index a.keys.now) es) (page at.out at.l) c.if-l.true) ∙ at.invariant.1.1

pub returns-after-loop-key : goal.returns-after-loop-key
returns-after-loop-key c =
    let a = c.args in
    let at = c.loop-key in
    let es = entries (suc a.height) (tree_at (nodes a.st (words a.pool.now)) a.height a.st.root) in
    sym (keys_end a.room a.keys.now es (page at.out at.l) at.key-index c.loop-key-test.false) ∙ at.invariant.1.1
