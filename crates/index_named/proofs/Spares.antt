-- What is known of the unused slots of a pool, as one tree sees them, is known as every tree does. Assumes nothing.
use Prim.Native.Nat.{ℕ, ◌≤◌, ◌<◌}
use mathlib.Core.Path.{◌≡◌, sym, ap, ◌∙◌, subst}
use mathlib.Core.List.{List, map}
use lib.ListN.{length, length-map}
use Rattle.slots_raw.specs.Slots.{seen}
use Rattle.slots_raw.proofs.Views.{seen_unused}
use Rattle.slots.specs.Nodes.{node_seen, nth}
use Rattle.slots.specs.Nodes as S
use Rattle.slots.proofs.Others.{seen_none, nth_seen}
use Rattle.slots_find.specs.Promises.{Lowest}
use Rattle.tree.proofs.Unused.{unused_seen}
use Rattle.tree_spare.specs.declared.Spare.{Spare}
use Rattle.tree_spare.specs.Spared.{Spared}

lowest_seen : (root : ℕ) (ns : List S.Node) (low : ℕ) → Lowest ns low → Lowest (map (node_seen root) ns) low
lowest_seen root ns low w =
    let same : length (map (node_seen root) ns) ≡ length ns = length-map ns (node_seen root) in
    record {
      within = subst (λ (n : ℕ). low ≤ n) (sym same) w.within;
      before = λ x h e. w.before x h (seen_unused root (nth ns x).kind (sym (kind x) ∙ e));
      here = λ h. kind low ∙ ap (seen root) (w.here (subst (λ (n : ℕ). low < n) same h)) ∙ ap (λ (n : S.Node). n.kind) (seen_none root);
    }
  where
    kind : (x : ℕ) → (nth (map (node_seen root) ns) x).kind ≡ seen root (nth ns x).kind
    kind x = ap (λ (n : S.Node). n.kind) (nth_seen root ns x)

pub spared_seen : (root : ℕ) (ns : List S.Node) (x : Spare) → Spared ns x → Spared (map (node_seen root) ns) x
spared_seen root ns x s =
    record {
      lowest = lowest_seen root ns x.low s.lowest;
      count = s.count ∙ ap (λ (us : List ℕ). length us) (sym (unused_seen root ns));
    }
