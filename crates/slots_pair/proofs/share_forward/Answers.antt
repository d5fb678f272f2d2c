-- `share_forward` meets its contract: the rows put in at the front of `next` and taken out at the end of `s` are a sharing (`shared_forward`). Putting
-- them in leaves the rows of `s` as they were (`kept_rows`). Assumes nothing.
use mathlib.Core.Path.{ap}
use Prim.Native.Nat.{◌-◌}
use native.Mathlib.Omega.{arith}
use mathlib.Core.List.{List}
use lib.ListN.{length}
use Rattle.words.specs.Words.{words}
use Rattle.slots.specs.Nodes.{Node, nodes}
use Rattle.slots.proofs.Nodes.{then, become}
use Rattle.slots.proofs.Pairs.{kept_rows, out, shared_forward}
use Rattle.slots_pair.proofs.share_forward.Goals as goal

pub remove_rows-requires : goal.remove_rows-requires
remove_rows-requires c =
    let w = c.insert_from in
    let a = c.args in
    record {
      held = w.ensures.held;
      slot = c.requires.slot;
      within = omega (arith, ap length (kept_rows a.st (words a.pool.now) (words w.new.pool) a.s a.next _ w.ensures c.requires.apart));
    }

pub returns : goal.returns
returns c =
    let n = c.count-n in
    let a = c.args in
    let W₀ = words a.pool.now in
    let W₁ = words c.insert_from.new.pool in
    let W₂ = words c.remove_rows.new.pool in
    become a.st W₀ W₂ _ _ (then (λ (ns : List Node). out ns a.s (n.result - a.a) a.a) a.st W₀ W₁ W₂ _ c.insert_from.ensures c.remove_rows.ensures)
    (shared_forward (nodes a.st W₀) a.s a.next a.a n.result c.requires.apart n.ensures.is (omega arith))
