-- THE ROOT AFTER A CALL, by its result. Assumes nothing.
use mathlib.Core.Path.{◌≡◌, refl, sym, ap, ◌∙◌, subst}
use mathlib.Core.List.{List, [], map}
use Prim.Native.Nat.{ℕ, suc, ◌+◌}
use native.Mathlib.Omega.{arith}
use lib.ListN.{set}
use lib.Seq.{get_or-set_other}
use Rattle.slots_raw.specs.declared.Row.{Row}
use Rattle.slots.specs.Nodes.{nodes, nth, unused, put_kind}
use Rattle.slots.specs.Promises.{NodesPut}
use Rattle.slots.specs.Nodes as S
use Rattle.slots.proofs.Nodes.{nth_same}
use Rattle.model.specs.declared.Settings.{Settings}
use Rattle.model.specs.Lists.{none, one}
use Rattle.model.specs.Tree.{Tree, Index, slots}
use Rattle.model.specs.Change.{settle_root}
use Rattle.model.proofs.Lists.{all_head, hit_same}
use Rattle.tree.specs.Bridge.{tree_at, row_for, node_for, unused_of, HoldsIndex, Frame}
use Rattle.tree.proofs.Cells.{kind_used}
use Rattle.model.specs.declared.ChangeResult.{ChangeResult}
use Rattle.model.specs.declared.ChangeResult.TheVariants.{Split, Remove}
use Rattle.tree.proofs.Unused.{used_in}
use Rattle.tree.proofs.SoundHolds.{slot_read}
use Rattle.batch_share.proofs.Places.{node_used}
use Rattle.tree_spare.specs.declared.Spare.{Spare}
use Rattle.tree_spare.proofs.Spares.{spared_same}
use Rattle.batch_share.proofs.Puts.{blank_set}
use Rattle.batch_root.specs.declared.Root.{Root}
use Rattle.batch_root.specs.Roots.{index_at}
use Rattle.batch_root.specs.Promises.{ToSettleRoot, RootSettled, ToSplitRoot, Halved}
use Rattle.batch_root.proofs.Indexes.{now_holds}
use Rattle.batch_root.proofs.Sets.{no_blank, unused_same}

module _ {st : Settings} {W : List ℕ} {root : Root} {v : ChangeResult} (pre : ToSettleRoot st W root v) where
  abbrev h : ℕ
  h = root.height

  abbrev ns : List S.Node
  ns = nodes st W

  abbrev t : Tree root.height
  t = tree_at (nodes st W) root.height st.root

  -- OVER-FULL: it is split
  pub to_halve : v ≡ Split → ToSplitRoot st W h root.spare
  to_halve e = record { keeps = pre.keeps; spared = pre.spared; two = pre.two e }

  pub split_settled : {W' : List ℕ} {r : Spare} → v ≡ Split → Halved st W W' h r → RootSettled st W W' h v (record { height = h + 1; spare = r })
  split_settled {W'} {r} e d =
      subst (λ (u : ChangeResult). RootSettled st W W' h u (record { height = h + 1; spare = r })) (sym e)
      (record { becomes = d.becomes; height = omega arith; spared = d.spared })

  -- EMPTY: it is a leaf again
  abbrev bare : S.Node
  bare = record { kind = 1; rows = (nth (nodes st W) st.root).rows }

  abbrev leaf : List S.Node
  leaf = set (nodes st W) st.root bare

  node : nth ns st.root ≡ node_for h t
  node = ap (nth ns) (sym (slot_read ns h st.root)) ∙ all_head pre.keeps.holds.tree

  leaf_unused : unused_of leaf ≡ unused_of ns
  leaf_unused = unused_same ns st.root bare (kind_used 0) (node_used ns h st.root t node)

  leaf_holds : t.items ≡ [] → HoldsIndex leaf (record { height = 0; root = record { slot = t.slot; items = [] }; unused = unused_of ns })
  leaf_holds e =
      let rows : (nth ns st.root).rows ≡ [] = ap (λ (n : S.Node). n.rows) node ∙ ap (map (row_for h)) e in
      record {
        tree =
            one (ap (nth leaf) (slot_read ns h st.root) ∙ nth_same ns st.root bare (used_in ns st.root (node_used ns h st.root t node))
            ∙ ap (λ (l : List Row). record { kind = 1; rows = l }) rows) none;
        unused = leaf_unused;
        blank = blank_set ns st.root bare pre.keeps.holds.blank (no_blank bare (kind_used 0));
      }

  leaf_frame_lem : Frame ns leaf (slots (suc h) t)
  leaf_frame_lem s u e =
      let root = slot_read ns h st.root in
      get_or-set_other ns st.root s bare unused (λ q. absurd (omega (arith, e, hit_same s t.slot (q ∙ sym root))))

  pub gone_settled : {W' : List ℕ} → v ≡ Remove → NodesPut st W W' (put_kind (nodes st W) st.root 1) → RootSettled st W W' h v (record { height = 0; spare = root.spare })
  unfolding put_kind
  gone_settled {W'} e w =
      subst (λ (u : ChangeResult). RootSettled st W W' h u (record { height = 0; spare = root.spare })) (sym e)
      (record {
        becomes = now_holds st W W' leaf (index_at st.root ns h) _ w (leaf_holds (pre.gone e)) leaf_frame_lem;
        height = refl;
        spared = spared_same st W pre.spared W' (ap unused_of w.is ∙ leaf_unused);
      })

  -- ANY OTHER: it stays
  pub stays_settled : {u : ChangeResult} → v ≡ u → settle_root u h t (unused_of ns) ≡ index_at st.root ns h → RootSettled st W W h v root
  stays_settled e same =
      let is : index_at st.root ns h ≡ settle_root v h t (unused_of ns) = sym same ∙ ap (λ (r : ChangeResult). settle_root r h t (unused_of ns)) (sym e) in
      record {
        becomes = record {
          held = pre.keeps.held;
          header = refl;
          holds = subst (HoldsIndex ns) is pre.keeps.holds;
          frame = λ s u q. refl;
        };
        height = ap (λ (x : Index). x.height) is;
        spared = pre.spared;
      }
