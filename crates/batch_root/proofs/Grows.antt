-- A ROOT SPLIT, over the pool: what each call of `split_root` asks is there, and the last leaves the model's root, cut where the code cuts it.
-- Assumes nothing.
use mathlib.Core.Path.{◌≡◌, sym, ap, ◌∙◌, subst}
use mathlib.Core.List.{List}
use Prim.Native.Nat.{ℕ, ◌≤◌, ◌<◌}
use native.Mathlib.Omega.{arith}
use lib.ListN.{length}
use Rattle.slots.specs.Nodes.{nodes, nth, rows_at, split_nodes}
use Rattle.slots.specs.Promises.{ToTouch, NodesPut, ToSplit}
use Rattle.slots.specs.Nodes as S
use Rattle.slots_find.specs.Promises.{Lowest}
use Rattle.slots.proofs.Nodes.{length_nodes}
use Rattle.model.specs.declared.Settings.{Settings}
use Rattle.model.specs.Tree.{Tree, len, others}
use Rattle.model.specs.Share.{half}
use Rattle.model.specs.Change.{cut_root}
use Rattle.model.proofs.Lists.{all_head}
use Rattle.model.proofs.Settles.{length_others}
use Rattle.tree.specs.Bridge.{tree_at, unused_of}
use Rattle.tree.specs.Sums.{Sums}
use Rattle.tree.proofs.SoundHolds.{slot_read}
use Rattle.tree_spare.specs.declared.Spare.{Spare}
use Rattle.tree_spare.specs.Spared.{Spared, ToTake}
use Rattle.tree_spare.proofs.Spares.{spared_in, spared_taken}
use Rattle.batch_share.proofs.Places.{node_used}
use Rattle.batch_root.specs.Roots.{index_at, moved, crowned}
use Rattle.batch_root.specs.Promises.{Becomes, ToSplitRoot, ToMove, ToCrown}
use Rattle.batch_root.proofs.Indexes.{keeps_root, now_holds}
use Rattle.batch_root.proofs.Splits as P

-- the code keeps `keep` rows in the lower part, which are k in the model
pub record Keeps (h : ℕ) (t : Tree h) (keep k : ℕ) : Type 0 where
  pub rows : keep ≡ k
  pub within : k ≤ len t

module _ {st : Settings} {W₀ : List ℕ} {h : ℕ} {spare : Spare} (pre : ToSplitRoot st W₀ h spare) where
  abbrev ns : List S.Node
  ns = nodes st W₀

  abbrev t : Tree h
  t = tree_at (nodes st W₀) h st.root

  abbrev a : ℕ
  a = spare.low

  some : 0 < length (unused_of ns)
  some = omega (arith, pre.two)

  a_nodes : a < st.nodes
  a_nodes = spared_in st W₀ pre.spared some

  a_in : a < length ns
  a_in = omega (arith, length_nodes st W₀, a_nodes)

  pub to_move : ToMove st W₀ a
  to_move =
      record {
        held = pre.keeps.held;
        empty = pre.keeps.holds.blank;
        slot = a_nodes;
        free = pre.spared.lowest.here a_in;
        used = node_used ns h st.root t (ap (nth ns) (sym (slot_read ns h st.root)) ∙ all_head pre.keeps.holds.tree);
      }

  module _ {W₁ : List ℕ} (mv : NodesPut st W₀ W₁ (moved st.root (nodes st W₀) a)) where
    top : P.Top st.root ns h t a
    top =
        record {
          root = slot_read ns h st.root;
          holds = pre.keeps.holds.tree;
          apart = pre.keeps.apart;
          bounded = record { small = pre.keeps.small; fit = pre.keeps.fit };
          empty = pre.keeps.holds.blank;
          first = pre.spared.lowest;
          inside = a_in;
        }

    moved_unused : unused_of (nodes st W₁) ≡ others (unused_of ns)
    moved_unused = ap unused_of mv.is ∙ P.moved_unused top

    pub lower_taken : ToTake st W₁ spare
    lower_taken = spared_taken st W₀ pre.spared W₁ mv.held some moved_unused

    pub lower_at : ToTouch st W₁ a
    lower_at = record { held = mv.held; slot = a_nodes }

    module _ {rest : Spare} (lo : Spared (nodes st W₁) rest) where
      abbrev b : ℕ
      b = rest.low

      more : 0 < length (unused_of (nodes st W₁))
      more = omega (arith, ap length moved_unused, length_others (unused_of ns), pre.two)

      b_nodes : b < st.nodes
      b_nodes = spared_in st W₁ lo more

      second : Lowest (moved st.root ns a) b
      second = subst (λ (z : List S.Node). Lowest z b) mv.is lo.lowest

      b_in : b < length (moved st.root ns a)
      b_in = omega (arith, length_nodes st W₁, ap length mv.is, b_nodes)

      -- the moved root has the rows of the root
      long : length (rows_at st W₁ a) ≡ len t
      long = ap (λ (z : List S.Node). length (nth z a).rows) mv.is ∙ P.whole_long top second b_in

      -- the half of the n rows that the code counts
      pub keeps_half : {n keep : ℕ} → n ≡ length (rows_at st W₁ a) → keep ≡ half n → Keeps h t keep (half (len t))
      keeps_half en ek = record { rows = ek ∙ ap half (en ∙ long); within = omega arith }

      pub to_split : {keep k : ℕ} → Keeps h t keep k → ToSplit st W₁ a b keep
      to_split keeps =
          record {
            held = mv.held;
            slot = a_nodes;
            slot2 = b_nodes;
            apart = P.a_b top second b_in;
            free = ap (λ (z : List S.Node). nth z b) mv.is ∙ P.b_unused top second b_in;
            within = omega (arith, keeps.rows, keeps.within, long);
          }

      module _ {keep k : ℕ} (keeps : Keeps h t keep k) {W₂ : List ℕ} (sp : NodesPut st W₁ W₂ (split_nodes (nodes st W₁) a b keep)) where
        split_is : nodes st W₂ ≡ split_nodes (moved st.root ns a) a b k
        split_is = sp.is ∙ (λ j. split_nodes (mv.is j) a b (keeps.rows j))

        pub to_crown : ToCrown st W₂ h a b
        to_crown =
            record {
              held = sp.held;
              root = keeps_root pre.keeps;
              slot = a_nodes;
              slot2 = b_nodes;
              sums = subst (λ (z : List S.Node). Sums h (nth z a).rows) (sym split_is) (P.lower_sums top second b_in k);
              sums2 = subst (λ (z : List S.Node). Sums h (nth z b).rows) (sym split_is) (P.upper_sums top second b_in k);
              bare = ap (λ (z : List S.Node). (nth z st.root).rows) split_is ∙ P.split_bare top second b_in k;
            }

        module _ {W₃ : List ℕ} (cr : NodesPut st W₂ W₃ (crowned st.root (nodes st W₂) h a b)) where
          crown_is : nodes st W₃ ≡ P.above top second b_in k
          crown_is = cr.is ∙ ap (λ (z : List S.Node). crowned st.root z h a b) split_is ∙ P.crowned_is top second b_in k

          pub upper_taken : ToTake st W₃ rest
          upper_taken =
              spared_taken st W₁ lo W₃ cr.held more (ap unused_of crown_is ∙ P.above_unused top second b_in k ∙ ap others (sym moved_unused))

          pub split_done : Becomes st W₀ W₃ (index_at st.root ns h) (cut_root k h t (unused_of ns))
          split_done =
              now_holds st W₀ W₃ (P.above top second b_in k) (index_at st.root ns h) _
              (record { held = cr.held; is = crown_is; header = cr.header ∙ sp.header ∙ mv.header })
              (P.above_holds top second b_in k) (P.above_frame top second b_in k)
