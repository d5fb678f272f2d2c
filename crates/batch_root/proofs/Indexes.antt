-- THE INDEX READ OFF THE NODES is the index that they hold; and a pool after calls holds what its nodes do. Assumes nothing.
use mathlib.Core.Path.{◌≡◌, sym, ap, ◌∙◌, subst}
use mathlib.Core.List.{List}
use Prim.Native.Nat.{ℕ, ◌<◌}
use lib.ListN.{length}
use native.Mathlib.Omega.{arith}
use Rattle.slots.specs.Nodes.{nodes, nth}
use Rattle.slots.specs.Promises.{NodesPut}
use Rattle.slots.proofs.Nodes.{length_nodes}
use Rattle.model.proofs.Lists.{all_head}
use Rattle.tree.proofs.Unused.{used_in}
use Rattle.tree.proofs.SoundHolds.{slot_read}
use Rattle.batch_share.proofs.Places.{node_used}
use Rattle.slots.specs.Nodes as S
use Rattle.model.specs.declared.Settings.{Settings}
use Rattle.model.specs.Tree.{Tree, Index, slots_of, entries_of}
use Rattle.tree.specs.Bridge.{tree_at, unused_of, Holds, HoldsIndex, Frame}
use Rattle.tree.proofs.ReadOff.{Light, held_tree}
use Rattle.batch_root.specs.Roots.{index_at}
use Rattle.batch_root.specs.Promises.{Holding, Becomes}

-- a tree with its root in slot r
pub root_read : (r : ℕ) (ns : List S.Node) (h : ℕ) (t : Tree h) → t.slot ≡ r → Light h t → Holds ns h t → tree_at ns h r ≡ t
root_read r ns h t e light k = ap (tree_at ns h) (sym e) ∙ held_tree ns h t light k

pub index_read : (r : ℕ) (ns : List S.Node) (h : ℕ) (x : Index) → h ≡ x.height → x.root.slot ≡ r → length (entries_of x) < 1048576 → HoldsIndex ns x
    → index_at r ns h ≡ x
index_read r ns h x eh e light k =
    ap (index_at r ns) eh
    ∙ ap (λ (t : Tree x.height). record { height = x.height; root = t; unused = unused_of ns }) (root_read r ns x.height x.root e light k.tree)
    ∙ ap (λ (l : List ℕ). record { height = x.height; root = x.root; unused = l }) k.unused

-- the root of an index that a pool holds is in one of its slots
pub keeps_root : {st : Settings} {W : List ℕ} {h : ℕ} → Holding st W (index_at st.root (nodes st W) h) → st.root < st.nodes
keeps_root {st} {W} {h} k =
    let ns : List S.Node = nodes st W in
    let t : Tree h = tree_at (nodes st W) h st.root in
    omega (
      arith,
      used_in ns st.root (node_used ns h st.root t (ap (nth ns) (sym (slot_read ns h st.root)) ∙ all_head k.holds.tree)),
      length_nodes st W,
    )

pub now_holds : (st : Settings) (W W' : List ℕ) (ms : List S.Node) (x y : Index) → NodesPut st W W' ms → HoldsIndex ms y
    → Frame (nodes st W) ms (slots_of x) → Becomes st W W' x y
now_holds st W W' ms x y w k f =
    record {
      held = w.held;
      header = w.header;
      holds = subst (λ (z : List S.Node). HoldsIndex z y) (sym w.is) k;
      frame = λ s u e. ap (λ (z : List S.Node). nth z s) w.is ∙ f s u e;
    }
