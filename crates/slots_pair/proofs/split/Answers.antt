-- `split` meets its contract: the new node's kind, the upper rows put into it, and the same rows taken out of node `s` are a split (`parted`). The
-- steps before leave the rows of `s` as they were (`kept_kind`, `kept_rows`), so that the next step may be taken. Assumes nothing.
use mathlib.Core.Path.{◌≡◌, ap, ◌∙◌}
use Prim.Native.Nat.{◌-◌}
use native.Mathlib.Omega.{arith}
use mathlib.Core.List.{List}
use lib.ListN.{length}
use Rattle.words.specs.Words.{words}
use Rattle.slots.specs.Nodes.{Node, nodes, rows_at, put_kind, split_nodes}
use Rattle.slots.proofs.Nodes.{then, become, length_nodes}
use Rattle.slots.proofs.Pairs.{kept_rows, kept_kind, kept_same, into, out, parted}
use Rattle.slots_pair.proofs.split.Goals as goal

pub insert_from-requires : goal.insert_from-requires
insert_from-requires c =
    let a = c.args in
    let pre = c.requires in
    let w = c.set_kind in
    let W₀ = words a.pool.now in
    let W₁ = words w.new.pool in
    let mine : length (rows_at a.st W₁ a.s) ≡ length (rows_at a.st W₀ a.s) =
    ap length (kept_kind a.st W₀ W₁ a.s a.new _ w.ensures pre.apart) in
    let none : length (rows_at a.st W₁ a.new) ≡ 0 =
    ap length (kept_same a.st W₀ W₁ a.s a.new _ w.ensures pre.slot2 ∙ ap (λ (n : Node). n.rows) pre.free) in
    record {
      held = w.ensures.held;
      slot = pre.slot;
      slot2 = pre.slot2;
      apart = pre.apart;
      has = omega arith;
      within = omega arith;
      room = omega arith;
    }

pub remove_rows-requires : goal.remove_rows-requires
remove_rows-requires c =
    let a = c.args in
    let v = c.set_kind in
    let w = c.insert_from in
    let W₀ = words a.pool.now in
    let W₁ = words v.new.pool in
    let W₂ = words w.new.pool in
    let mine : length (rows_at a.st W₂ a.s) ≡ length (rows_at a.st W₀ a.s) =
    ap length
    (kept_rows a.st W₁ W₂ a.s a.new _ w.ensures c.requires.apart
    ∙ kept_kind a.st W₀ W₁ a.s a.new _ v.ensures c.requires.apart) in
    record { held = w.ensures.held; slot = c.requires.slot; within = omega (arith, c.count-n.ensures.is) }

pub returns : goal.returns
returns c =
    let k = c.kind-k in
    let n = c.count-n in
    let a = c.args in
    let pre = c.requires in
    let W₀ = words a.pool.now in
    let W₁ = words c.set_kind.new.pool in
    let W₂ = words c.insert_from.new.pool in
    let W₃ = words c.remove_rows.new.pool in
    let m = n.result - a.keep in
    let ns = nodes a.st W₀ in
    let ks = put_kind ns a.new k.result in
    let fill : List Node → List Node = λ ns. into ns a.new 0 a.s a.keep m in
    let empty : List Node → List Node = λ ns. out ns a.s a.keep m in
    become a.st W₀ W₃ (empty (fill ks)) (split_nodes ns a.s a.new a.keep)
    (then empty a.st W₀ W₂ W₃ (fill ks)
    (then fill a.st W₀ W₁ W₂ ks c.set_kind.ensures c.insert_from.ensures) c.remove_rows.ensures)
    (parted ns a.s a.new k.result n.result a.keep pre.apart (omega (arith, length_nodes a.st W₀)) pre.free k.ensures n.ensures.is
    (omega (arith, pre.within, n.ensures.is)))
