-- A leaf as the foot of the recursion: what it takes of a batch is the model's change of it. Assumes nothing.
use mathlib.Core.Path.{◌≡◌, sym, ap, ◌∙◌, subst}
use mathlib.Core.Logic.{◌≢◌}
use mathlib.Core.Bool.{Bool, false}
use mathlib.Core.List.{List, map}
use Prim.Native.Nat.{ℕ, ◌<◌, max}
use native.Mathlib.Omega.{arith}
use native.Mathlib.Decide.{ℕ_discrete}
use lib.ListN.{length, drop, length-map}
use Rattle.slots_raw.specs.declared.Row.{Row}
use Rattle.slots.specs.Nodes.{nodes, nth, unused, rows_at, put_rows}
use Rattle.slots.specs.Nodes as S
use Rattle.slots.proofs.Nodes.{length_nodes, nth_rows, nth_put}
use Rattle.model.specs.declared.Settings.{Settings}
use Rattle.model.specs.declared.Entry.{Entry}
use Rattle.model.specs.Lists.{one}
use Rattle.model.specs.Tree.{Tree}
use Rattle.model.specs.Plain.{Task}
use Rattle.model.specs.Refuse.{Call, tasks_of}
use Rattle.model.specs.Change.{result_of, Walked, Outcome, take_tasks, change}
use Rattle.model.specs.Change as M
use Rattle.model.specs.Sound.{Sorted}
use Rattle.model.proofs.Lists.{all_head, hit_same}
use Rattle.model.proofs.Trees.{flat_zero}
use Rattle.batch_leaf.specs.declared.Run.{Run}
use Rattle.batch_leaf.specs.declared.Subtree.{Subtree}
use Rattle.batch_leaf.specs.declared.Progress.{Progress}
use Rattle.batch_leaf.specs.Promises.{ToTakeKey, KeysTaken}
use Rattle.batch_leaf.specs.Keys.{taking}
use Rattle.batch_leaf.proofs.Tasks.{taken_unused}
use Rattle.tree.specs.Bridge.{entry_of, entry_row, node_for, Stands, tree_at, unused_of, Blank}
use Rattle.tree.proofs.SoundHolds.{leaf_cells}
use Rattle.tree.proofs.Unused.{used_in}
use Rattle.batch_share.proofs.Parents.{unused_rows}
use Rattle.model.specs.declared.ChangeResult.{ChangeResult}
use Rattle.tree_spare.specs.Spared.{Spared}
use Rattle.tree_spare.proofs.Spares.{spared_same}
use Rattle.batch_node.specs.Promises.{run_of, ToChange, NodeChanged}

-- a slot in use is one of the pool's
pub slot_in : (st : Settings) (W : List ℕ) (s : ℕ) → (nth (nodes st W) s).kind ≢ 0 → s < st.nodes
slot_in st W s u = omega (arith, used_in (nodes st W) s u, length_nodes st W)

-- OTHER ROWS IN A NODE

module _ (ns : List S.Node) (s : ℕ) (l : List Row) (inside : s < length ns) where
  kind_rows : (x : ℕ) → (nth (put_rows ns s l) x).kind ≡ (nth ns x).kind
  kind_rows x = by (ℕ_discrete x s)
    where
      by : Dec (x ≡ s) → (nth (put_rows ns s l) x).kind ≡ (nth ns x).kind
      by (yes e) = rw e (ap (λ (n : S.Node). n.kind) (nth_put ns s l inside))
      by (no e) = ap (λ (n : S.Node). n.kind) (nth_rows ns x s l e)

  pub blank_rows : (nth ns s).kind ≢ 0 → Blank ns → Blank (put_rows ns s l)
  blank_rows used b x e =
      let e₀ : (nth ns x).kind ≡ 0 = sym (kind_rows x) ∙ e in
      nth_rows ns x s l (λ q. used (sym (ap (λ (y : ℕ). (nth ns y).kind) q) ∙ e₀)) ∙ b x e₀

-- THE LEAF

module _ {st : Settings} {W : List ℕ} {leaf : Subtree} {b : Call} {run : Run} (asks : ToChange st W 0 leaf b run) where
  abbrev s : ℕ
  s = leaf.slot

  abbrev ns : List S.Node
  ns = nodes st W

  abbrev ts : List Task
  ts = tasks_of b

  is_leaf : (nth ns s).kind ≡ 1
  is_leaf = ap (λ (n : S.Node). n.kind) (all_head asks.asked.holds)

  used : (nth ns s).kind ≢ 0
  used e = absurd (omega (arith, is_leaf, e))

  pub leaf_asked : ToTakeKey st W s
  leaf_asked =
      record {
        held = asks.held;
        slot = slot_in st W s used;
        sorted = subst Sorted (flat_zero (map entry_of (rows_at st W s))) asks.asked.given.sorted;
        few = omega (arith, asks.asked.given.few, length-map (rows_at st W s) entry_of);
      }

  abbrev o : Outcome (Tree 0)
  o = change st 0 leaf.ceiling (tree_at ns 0 s) (drop run.next ts) (run_of ns run.counts)

  abbrev carried : M.Run
  carried = run_of ns run.counts

  abbrev us : List ℕ
  us = unused_of ns

  -- the model's leaf is what the code's leaf takes
  alike : taking st W leaf b run us
      ≡ take_tasks (max (length (map entry_of (rows_at st W s))) st.order) leaf.ceiling (drop run.next ts) (map entry_of (rows_at st W s)) false carried
  alike =
      ap (λ (m : ℕ). take_tasks (max m st.order) leaf.ceiling (drop run.next ts) (map entry_of (rows_at st W s)) false carried)
      (sym (length-map (rows_at st W s) entry_of))

  module _ {W' : List ℕ} {r : Progress} (took : KeysTaken st W W' leaf b run us r) {n : ℕ} (en : n ≡ length (rows_at st W' s)) (v : ChangeResult)
      (ev : v ≡ result_of st r.changed n) where
    inside : s < length ns
    inside = omega (arith, length_nodes st W, slot_in st W s used)

    abbrev rows : List Row
    rows = map entry_row (taking st W leaf b run us).items

    node : nth (nodes st W') s ≡ node_for 0 o.node
    node =
        ap (λ (ms : List S.Node). nth ms s) took.did.is ∙ nth_put ns s rows inside ∙ ap (λ (k : ℕ). record { kind = k; rows = rows }) is_leaf
        ∙ ap (λ (x : Walked Entry). record { kind = 1; rows = map entry_row x.items }) alike

    long : n ≡ length o.node.items
    long = en ∙ ap (λ (m : S.Node). length m.rows) node ∙ length-map o.node.items entry_row

    pub leaf_came : NodeChanged st W W' 0 leaf b run (record { run = r.run; result = v })
    leaf_came =
        record {
          held = took.did.held;
          header = took.did.header;
          answers = record {
            holds = one node (leaf_cells (Stands (nodes st W')) o.node.items);
            unused = ap unused_of took.did.is ∙ unused_rows ns s rows
                ∙ sym (taken_unused (max (length (map entry_of (rows_at st W s))) st.order) leaf.ceiling (drop run.next ts) (map entry_of (rows_at st W s)) false carried);
            frame = λ x u e. ap (λ (ms : List S.Node). nth ms x) took.did.is ∙ nth_rows ns x s rows (λ q. absurd (omega (arith, e, hit_same x s q)));
            empty = subst Blank (sym took.did.is) (blank_rows ns s rows inside used asks.asked.empty);
            left = took.left ∙ ap (λ (x : Walked Entry). x.tasks) alike;
            result = ev ∙ ap (result_of st r.changed) long ∙ ap (λ (b : Bool). result_of st b (length o.node.items)) (took.changed ∙ ap (λ (x : Walked Entry). x.changed) alike);
            counts = took.counts ∙ ap (λ (x : Walked Entry). x.run.counts) alike;
          };
          batch = took.batch;
          spared = subst (Spared (nodes st W')) (sym took.spare) (spared_same st W asks.asked.spared W' (ap unused_of took.did.is ∙ unused_rows ns s rows));
        }
