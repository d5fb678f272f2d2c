-- `move_root` meets its contract: the new node's kind, and all rows of the root shared back into it, are the rows moved (`moved_all`). Assumes nothing.
use mathlib.Core.Path.{◌≡◌, ap, ◌∙◌}
use mathlib.Core.Logic.{◌≢◌}
use mathlib.Core.List.{List}
use Prim.Native.Nat.{ℕ, ◌<◌}
use native.Mathlib.Omega.{arith}
use lib.ListN.{length}
use Rattle.words.specs.Words.{words}
use Rattle.slots.specs.Nodes.{Node, nodes, nth, rows_at, put_kind, back_nodes}
use Rattle.batch_root.specs.Roots.{moved}
use Rattle.slots.proofs.Nodes.{then, become, length_nodes}
use Rattle.slots.proofs.Pairs.{kept_kind, kept_same}
use Rattle.tree.proofs.Unused.{used_in}
use Rattle.batch_root.proofs.Sets.{moved_all}
use Rattle.batch_root.proofs.grow.move_root.Goals as goal

-- the new node is in the pool, unused, and not the root
pub kind-k-requires : goal.kind-k-requires
kind-k-requires c = record { held = c.requires.held; slot = (let it : c.args.st.root < c.args.st.nodes = omega (arith, used_in (nodes c.args.st (words c.args.pool.now)) c.args.st.root c.requires.used, length_nodes c.args.st (words c.args.pool.now)) in it) }

pub count-n-requires : goal.count-n-requires
count-n-requires c = record { held = c.requires.held; slot = (let it : c.args.st.root < c.args.st.nodes = omega (arith, used_in (nodes c.args.st (words c.args.pool.now)) c.args.st.root c.requires.used, length_nodes c.args.st (words c.args.pool.now)) in it) }

pub set_kind-requires : goal.set_kind-requires
set_kind-requires c = record { held = c.requires.held; slot = c.requires.slot }

pub share_back-requires : goal.share_back-requires
share_back-requires c =
    let a = c.args in
    let n = c.count-n.ensures in
    let w = c.set_kind in
    let W₀ = words a.pool.now in
    let W₁ = words w.new.pool in
    let mine : length (rows_at a.st W₁ a.st.root) ≡ length (rows_at a.st W₀ a.st.root) =
    ap length (kept_kind a.st W₀ W₁ a.st.root a.low _ w.ensures (let it : c.args.st.root ≢ c.args.low = λ e. c.requires.used (ap (λ (i : ℕ). (nth (nodes c.args.st (words c.args.pool.now)) i).kind) e ∙ c.requires.free) in it)) in
    let none : length (rows_at a.st W₁ a.low) ≡ 0 =
    ap length (kept_same a.st W₀ W₁ a.st.root a.low _ w.ensures (c.requires.slot) ∙ ap (λ (m : Node). m.rows) (c.requires.empty a.low (c.requires.free))) in
    record {
      held = w.ensures.held;
      slot = (let it : c.args.st.root < c.args.st.nodes = omega (arith, used_in (nodes c.args.st (words c.args.pool.now)) c.args.st.root c.requires.used, length_nodes c.args.st (words c.args.pool.now)) in it);
      slot2 = c.requires.slot;
      apart = (let it : c.args.st.root ≢ c.args.low = λ e. c.requires.used (ap (λ (i : ℕ). (nth (nodes c.args.st (words c.args.pool.now)) i).kind) e ∙ c.requires.free) in it);
      has = omega (arith, n.is);
      room = omega (arith, n.fits);
    }

pub returns : goal.returns
returns c =
    let a = c.args in
    let k = c.kind-k in
    let n = c.count-n in
    let W₀ = words a.pool.now in
    let W₁ = words c.set_kind.new.pool in
    let W₂ = words c.share_back.new.pool in
    let back : List Node → List Node = λ ms. back_nodes ms a.low a.st.root n.result in
    become a.st W₀ W₂ (back (put_kind (nodes c.args.st (words c.args.pool.now)) a.low k.result)) (moved a.st.root (nodes c.args.st (words c.args.pool.now)) a.low)
    (then back a.st W₀ W₁ W₂ (put_kind (nodes c.args.st (words c.args.pool.now)) a.low k.result) c.set_kind.ensures c.share_back.ensures)
    (moved_all a.st.root (nodes c.args.st (words c.args.pool.now)) a.low k.result n.result (let it : c.args.st.root ≢ c.args.low = λ e. c.requires.used (ap (λ (i : ℕ). (nth (nodes c.args.st (words c.args.pool.now)) i).kind) e ∙ c.requires.free) in it) (let it : c.args.low < length (nodes c.args.st (words c.args.pool.now)) = omega (arith, c.requires.slot, length_nodes c.args.st (words c.args.pool.now)) in it) (c.requires.empty a.low (c.requires.free)) k.ensures n.ensures.is)
