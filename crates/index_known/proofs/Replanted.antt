-- From the nodes that one tree sees to the forest: where tree i has become y, and every slot in use outside it is as it was, the nodes hold the forest
-- with y in the place of tree i. Assumes nothing.
use Prim.Native.Nat.{ℕ, zero, suc, ◌+◌, ◌<◌}
use native.Mathlib.Omega.{arith}
use mathlib.Core.Path.{◌≡◌, refl, sym, ap, ◌∙◌, subst}
use mathlib.Core.List.{List, ◌++◌, map}
use lib.Dec.{ltb}
use Rattle.slots.specs.Nodes.{node_seen, nodes}
use Rattle.slots.specs.Nodes as S
use Rattle.slots.proofs.Others.{nth_seen, first_nodes}
use Rattle.model.specs.declared.PoolSettings.{PoolSettings}
use Rattle.model.specs.Lists.{times}
use Rattle.model.specs.Tree.{Index, slots_of}
use Rattle.model.specs.Sound.{root_for, handed, Once}
use Rattle.model.specs.Forest.{Forest, planted, tree_of, other, elsewhere, replant, SoundForest}
use Rattle.model.proofs.Lists.{by_test, times_append}
use Rattle.model.proofs.Forest.{freed_serves_either_lem}
use Rattle.tree.specs.Bridge.{Holds, HoldsIndex, HoldsForest, Frame}
use Rattle.tree.proofs.Cells.{agree_tree, used_tree}
use Rattle.tree.proofs.Unused.{used_seen}
use Rattle.tree.proofs.Pools.{tree_sees, sees_unused, blank_seen}

-- WHOEVER SEES THEM, slots in use stay as they were

pub frame_seen : (root : ℕ) (ns ms : List S.Node) (mine : List ℕ) → Frame ns ms mine → Frame (map (node_seen root) ns) (map (node_seen root) ms) mine
frame_seen root ns ms mine f x u out = nth_seen root ms x ∙ ap (node_seen root) (f x (used_seen root ns x u) out) ∙ sym (nth_seen root ns x)

-- a slot of one tree is none of the other's
apart_by : (n : ℕ) (a b us : List ℕ) → Once n (a ++ b) us → (x : ℕ) → 0 < times x a → times x b ≡ 0
apart_by n a b us o x g =
    by_test (λ (m : ℕ). times x (a ++ b) + times x us ≡ m → times x b ≡ 0) (ltb x n) (λ _ q. omega (arith, times_append x a b, g, q))
    (λ _ q. omega (arith, times_append x a b, g, q)) (o x)

module _ (given : PoolSettings) (f : Forest) (s : SoundForest given f) (W W' : List ℕ) (holds : HoldsForest (nodes (handed given 0) W) f) (i : ℕ)
    (frame : Frame (nodes (handed given i) W) (nodes (handed given i) W') (slots_of (tree_of i f))) where
  -- as the first tree sees it
  first_frame : Frame (nodes (handed given 0) W) (nodes (handed given 0) W') (slots_of (tree_of i f))
  first_frame =
      rw (first_nodes (handed given i) (handed given 0) W refl refl refl, first_nodes (handed given i) (handed given 0) W' refl refl refl)
      (frame_seen (root_for i) (nodes (handed given i) W) (nodes (handed given i) W') (slots_of (tree_of i f)) frame)

  -- the other tree stands as it stood
  abbrev theirs : List ℕ → List S.Node
  theirs X = map (node_seen (root_for (other i))) (nodes (handed given 0) X)

  other_kept : Holds (theirs W') (planted (other i) f).height (planted (other i) f).root
  other_kept =
      let stood = holds.trees (other i) in
      agree_tree (theirs W) (theirs W') (planted (other i) f).height (planted (other i) f).root
      (λ x g. frame_seen (root_for (other i)) (nodes (handed given 0) W) (nodes (handed given 0) W') (slots_of (tree_of i f)) first_frame x
      (used_tree (theirs W) (planted (other i) f).height (planted (other i) f).root stood x g)
      (apart_by given.nodes (elsewhere i f) (slots_of (tree_of i f)) f.unused (s.trees i).once x g))
      stood

  module _ (y : Index) (now : HoldsIndex (nodes (handed given i) W') y) where
    abbrev ms : List S.Node
    ms = nodes (handed given 0) W'

    both : (i : ℕ) → Holds (map (node_seen (root_for i)) ms) y.height y.root
        → Holds (map (node_seen (root_for (other i))) ms) (planted (other i) f).height (planted (other i) f).root
        → (j : ℕ) → Holds (map (node_seen (root_for j)) ms) (planted j (replant i y f)).height (planted j (replant i y f)).root
    both zero own apart zero = own
    both zero own apart (suc j) = apart
    both (suc i) own apart zero = apart
    both (suc i) own apart (suc j) = own

    pub replanted : HoldsForest (nodes (handed given 0) W') (replant i y f)
    replanted =
        record {
          trees = both i (subst (λ (ns : List S.Node). Holds ns y.height y.root) (tree_sees given W' i) now.tree) other_kept;
          unused = sym (sees_unused given W' i) ∙ now.unused ∙ sym (freed_serves_either_lem i i y f);
          blank = rw (first_nodes (handed given i) (handed given 0) W' refl refl refl) (blank_seen (root_for i) (nodes (handed given i) W') now.blank);
        }
