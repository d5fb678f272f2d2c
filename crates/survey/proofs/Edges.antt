-- Down the left edge: where it ends, and one step of it. Assumes nothing.
use mathlib.Core.Path.{◌≡◌, refl, ap}
use mathlib.Core.List.{List}
use Prim.Native.Nat.{ℕ, zero, suc, ◌≤◌}
use native.Mathlib.Omega.{arith}
use lib.ListN.{length, get_or-eq_default}
use borrow.Author.Tests.{eq-eqb, ne_eqb}
use Rattle.slots.specs.Nodes.{nth, unused}
use Rattle.slots.specs.Nodes as S
use Rattle.tree.specs.Pool.{first_child, height_at}

-- at a node that is no interior
pub edge_end : (ns : List S.Node) (most s : ℕ) → ((nth ns s).kind ≡ 2 → ⊥) → height_at ns most s ≡ 0
edge_end ns zero s ne = refl
edge_end ns (suc most) s ne = rw (ne_eqb (nth ns s).kind 2 ne) refl

-- past the last slot
pub edge_past : (ns : List S.Node) (most s : ℕ) → length ns ≤ s → height_at ns most s ≡ 0
edge_past ns most s le = edge_end ns most s (λ e. absurd (omega (arith, ap (λ (n : S.Node). n.kind) (get_or-eq_default ns unused le))))

pub edge_down : (ns : List S.Node) (most s : ℕ) → (nth ns s).kind ≡ 2 → height_at ns (suc most) s ≡ suc (height_at ns most (first_child (nth ns s).rows))
edge_down ns most s e = rw (eq-eqb (nth ns s).kind 2 e) refl
