-- THE SLOTS OUTSIDE A TREE that changes: in use, they stay as they were and outside, one change after the other. Assumes nothing.
use mathlib.Core.Path.{◌≡◌, refl, sym, ap, ◌∙◌}
use mathlib.Core.Logic.{◌≢◌}
use mathlib.Core.List.{List}
use Prim.Native.Nat.{ℕ, ◌+◌, ◌≤◌}
use native.Mathlib.Omega.{arith}
use Rattle.slots.specs.Nodes.{nth}
use Rattle.slots.specs.Nodes as S
use Rattle.model.specs.Lists.{times}
use Rattle.model.specs.Tree.{Index, slots_of}
use Rattle.tree.specs.Bridge.{unused_of, Frame}
use Rattle.tree.proofs.Unused.{used_none}

-- the nodes were ns and held x; they are ms, and hold y
pub record Outside (ns ms : List S.Node) (x y : Index) : Type 0 where
  pub frame : Frame ns ms (slots_of x)
  -- no slot in use outside the tree came to it
  pub away : (s : ℕ) → (nth ns s).kind ≢ 0 → times s (slots_of x) ≡ 0 → times s (slots_of y) ≡ 0

pub outside_start : (ns : List S.Node) (x : Index) → Outside ns ns x x
outside_start ns x = record { frame = λ s u e. refl; away = λ s u e. e }

module _ {ns ms : List S.Node} {x y : Index} (o : Outside ns ms x y) (ls : List S.Node) (f : Frame ms ls (slots_of y)) where
  still : (s : ℕ) → (nth ns s).kind ≢ 0 → times s (slots_of x) ≡ 0 → (nth ms s).kind ≢ 0
  still s u e z = u (ap (λ (n : S.Node). n.kind) (sym (o.frame s u e)) ∙ z)

  pub frame_then : Frame ns ls (slots_of x)
  frame_then s u e = f s (still s u e) (o.away s u e) ∙ o.frame s u e

  -- the slots that come to the tree were unused ones
  pub outside_then : (z : Index) → ((s : ℕ) → times s (slots_of z) ≤ times s (slots_of y) + times s (unused_of ms)) → Outside ns ls x z
  outside_then z le =
      record { frame = frame_then; away = λ s u e. omega (arith, le s, o.away s u e, used_none ms s (still s u e)) }
