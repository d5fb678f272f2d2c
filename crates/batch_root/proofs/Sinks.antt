-- THE COLLAPSE, over the pool: one child that moves into the root's slot, and the loop, whose collapse from here is the collapse from the start. Assumes nothing.
use mathlib.Core.Path.{◌≡◌, refl, sym, ap, ◌∙◌, subst}
use mathlib.Core.Logic.{◌≢◌}
use mathlib.Core.List.{List}
use Prim.Native.Nat.{ℕ, suc, ◌<◌}
use native.Mathlib.Omega.{arith}
use lib.ListN.{length, get_or}
use Rattle.slots_raw.specs.Slots.{blank, head_in}
use Rattle.slots.specs.Nodes.{nodes, nth, rows_at, unused, put_rows, put_kind, put2, without, join_nodes}
use Rattle.slots.specs.Promises.{NodesPut, ToGive}
use Rattle.slots.specs.Nodes as S
use Rattle.slots.proofs.Nodes.{length_nodes, fits_node, then, become}
use Rattle.slots.proofs.Pairs.{kept_same, own_rows}
use Rattle.model.specs.declared.Settings.{Settings}
use Rattle.model.specs.Lists.{All, times}
use Rattle.model.specs.Tree.{Index, slots_of, entries_of, release}
use Rattle.model.specs.Sound.{Fits}
use Rattle.tree.specs.Bridge.{child_of, kind_for, unused_of, HoldsIndex}
use Rattle.tree_spare.specs.declared.Spare.{Spare}
use Rattle.tree_spare.specs.Spared.{Spared, freeing}
use Rattle.tree_spare.proofs.Spares.{spared_freed}
use Rattle.batch_share.specs.Children.{child_at}
use Rattle.batch_share.proofs.Places.{slot_of}
use Rattle.batch_root.specs.Roots.{index_at, lifted, collapsed}
use Rattle.batch_root.specs.Promises.{Holding, Becomes, RootLeft, ToLift, Lifted}
use Rattle.batch_root.proofs.Indexes.{index_read, keeps_root, now_holds}
use Rattle.batch_root.proofs.Outside.{Outside, outside_start, outside_then}
use Rattle.batch_root.proofs.Lifts.{none_left, raised, Single, child_root, child_in, raise, raise_holds, raise_frame, lifted_list, lifted_slots, lifted_apart, lifted_same, ends_leaf, ends_wide}

single : {st : Settings} {W : List ℕ} {h : ℕ} {spare : Spare} → ToLift st W h spare → Single st.root (nodes st W) h
single p = record { holds = p.keeps.holds.tree; apart = p.keeps.apart; one = p.one }

-- ONE CHILD, named by the root's row
module _ {st : Settings} {W₀ : List ℕ} {h : ℕ} {spare : Spare} (pre : ToLift st W₀ h spare) {child : ℕ}
    (named : child ≡ child_of (get_or (rows_at st W₀ st.root) 0 blank)) where
  abbrev ns : List S.Node
  ns = nodes st W₀

  slot_is : (child_at ns h st.root 0).slot ≡ child
  slot_is = sym (slot_of ns h st.root 0 named)

  away : child ≢ st.root
  away e = child_root (single pre) (slot_is ∙ e)

  root_in : st.root < st.nodes
  root_in = keeps_root pre.keeps

  module _ {W₁ W₂ : List ℕ} {k : ℕ} (ek : k ≡ kind_for h) (out : NodesPut st W₀ W₁ (put_rows (nodes st W₀) st.root (without (rows_at st W₀ st.root) 0 1)))
      (kinded : NodesPut st W₁ W₂ (put_kind (nodes st W₁) st.root k)) where
    pub to_join : ToGive st W₂ child st.root (length (rows_at st W₂ child))
    to_join =
        let bare : length (rows_at st W₂ st.root) ≡ 0 =
        ap length (kept_same st W₁ W₂ st.root st.root k kinded root_in ∙ own_rows st W₀ W₁ st.root (without (rows_at st W₀ st.root) 0 1) out root_in
        ∙ none_left (rows_at st W₀ st.root) pre.one) in
        record {
          held = kinded.held;
          slot = omega (arith, slot_is, length_nodes st W₀, child_in (single pre));
          slot2 = root_in;
          apart = away;
          has = omega arith;
          room = omega (arith, bare, fits_node st W₂ child kinded.held);
        }

    becomes_lifted : {W₃ : List ℕ} → NodesPut st W₂ W₃ (join_nodes (nodes st W₂) st.root child)
        → Becomes st W₀ W₃ (index_at st.root ns (suc h)) (lifted st.root ns h)
    becomes_lifted {W₃} joined =
        let f : List S.Node → List S.Node = λ ms. put_kind ms st.root k in
        let g : List S.Node → List S.Node = λ ms. join_nodes ms st.root child in
        let first : List S.Node = put_rows ns st.root (without (nth ns st.root).rows 0 1) in
        now_holds st W₀ W₃ (raise (single pre)) (index_at st.root ns (suc h)) (lifted st.root ns h)
        (become st W₀ W₃ (g (f first)) (raise (single pre)) (then g st W₀ W₂ W₃ (f first) (then f st W₀ W₁ W₂ first out kinded) joined)
        (raised ns st.root child k away (omega (arith, length_nodes st W₀, root_in)) pre.one
        ∙ ap (λ (j : ℕ). put2 ns st.root (record { kind = j; rows = (nth ns child).rows }) child unused) ek
        ∙ ap (λ (j : ℕ). put2 ns st.root (record { kind = kind_for h; rows = (nth ns j).rows }) j unused) (sym slot_is)))
        (raise_holds (single pre) pre.keeps.holds.blank) (raise_frame (single pre))

    pub child_lifted : {W₃ : List ℕ} {r : Spare} → NodesPut st W₂ W₃ (join_nodes (nodes st W₂) st.root child) → r ≡ freeing spare child → Lifted st W₀ W₃ h r
    child_lifted {W₃} joined e =
        let b = becomes_lifted joined in
        record {
          becomes = b;
          spared =
              subst (Spared (nodes st W₃)) (sym e)
              (spared_freed st W₀ pre.spared W₃ child (b.holds.unused ∙ ap (λ (j : ℕ). release j (unused_of ns)) slot_is));
        }

-- THE LOOP

pub record Sinking (st : Settings) (W₀ W : List ℕ) (h₀ h : ℕ) (spare : Spare) : Type 0 where
  pub keeps : Holding st W (index_at st.root (nodes st W) h)
  pub header : head_in W ≡ head_in W₀
  pub spared : Spared (nodes st W) spare
  pub outside : Outside (nodes st W₀) (nodes st W) (index_at st.root (nodes st W₀) h₀) (index_at st.root (nodes st W) h)
  pub same : collapsed (index_at st.root (nodes st W) h) ≡ collapsed (index_at st.root (nodes st W₀) h₀)

pub sink_start : {st : Settings} {W : List ℕ} {h : ℕ} {spare : Spare} → Holding st W (index_at st.root (nodes st W) h) → Spared (nodes st W) spare
    → Sinking st W W h h spare
sink_start k x = record { keeps = k; header = refl; spared = x; outside = outside_start _ _; same = refl }

module _ {st : Settings} {W₀ W : List ℕ} {h₀ h : ℕ} {spare : Spare} (m : Sinking st W₀ W h₀ h spare) where
  abbrev x₀ : Index
  x₀ = index_at st.root (nodes st W₀) h₀

  -- a root with one child, of height g, gives way to it
  pub lone : {g : ℕ} → h ≡ suc g → length (rows_at st W st.root) ≡ 1 → ToLift st W g spare
  lone e q = record { keeps = subst (λ (n : ℕ). Holding st W (index_at st.root (nodes st W) n)) e m.keeps; spared = m.spared; one = q }

  pub sink_on : {g : ℕ} {W' : List ℕ} {r : Spare} → h ≡ suc g → length (rows_at st W st.root) ≡ 1 → Lifted st W W' g r → Sinking st W₀ W' h₀ g r
  sink_on {g} {W'} e q done =
      let b = done.becomes in
      let p : ToLift st W g spare = lone e q in
      let list = lifted_list (single p) in
      let from : Outside (nodes st W₀) (nodes st W) x₀ (index_at st.root (nodes st W) (suc g)) =
      subst (λ (n : ℕ). Outside (nodes st W₀) (nodes st W) x₀ (index_at st.root (nodes st W) n)) e m.outside in
      let small : length (entries_of (lifted st.root (nodes st W) g)) < 1048576 = omega (arith, ap length list, p.keeps.small) in
      let is : index_at st.root (nodes st W') g ≡ lifted st.root (nodes st W) g = index_read st.root (nodes st W') g (lifted st.root (nodes st W) g) refl refl small b.holds in
      let now : Holding st W' (lifted st.root (nodes st W) g) =
      record { held = b.held; holds = b.holds; apart = lifted_apart (single p); small = small; fit = subst (All Fits) (sym list) p.keeps.fit } in
      record {
        keeps = subst (Holding st W') (sym is) now;
        header = b.header ∙ m.header;
        spared = done.spared;
        outside = outside_then from (nodes st W') b.frame (index_at st.root (nodes st W') g)
            (λ s. omega (arith, ap (λ (z : Index). times s (slots_of z)) is, lifted_slots (single p) s));
        same = ap collapsed is ∙ lifted_same (single p) ∙ ap (λ (n : ℕ). collapsed (index_at st.root (nodes st W) n)) (sym e) ∙ m.same;
      }

  -- what the loop leaves if it ends here
  abbrev Sunk : Type 0
  Sunk = RootLeft st W₀ W x₀ (collapsed x₀) (record { height = h; spare = spare })

  sunk : collapsed (index_at st.root (nodes st W) h) ≡ index_at st.root (nodes st W) h → Sunk
  sunk e =
      let is : index_at st.root (nodes st W) h ≡ collapsed x₀ = sym e ∙ m.same in
      record {
        becomes = record {
          held = m.keeps.held;
          header = m.header;
          holds = subst (HoldsIndex (nodes st W)) is m.keeps.holds;
          frame = m.outside.frame;
        };
        height = ap (λ (x : Index). x.height) is;
        spared = m.spared;
      }

  -- a leaf, and a root of any other number of children, stay
  pub sink_leaf : h ≡ 0 → Sunk
  sink_leaf e = sunk (subst (λ (n : ℕ). collapsed (index_at st.root (nodes st W) n) ≡ index_at st.root (nodes st W) n) (sym e) (ends_leaf st.root (nodes st W)))

  pub sink_wide : {g : ℕ} → h ≡ suc g → length (rows_at st W st.root) ≢ 1 → Sunk
  sink_wide {g} e q = sunk (subst (λ (n : ℕ). collapsed (index_at st.root (nodes st W) n) ≡ index_at st.root (nodes st W) n) (sym e) (ends_wide st.root (nodes st W) g q))
