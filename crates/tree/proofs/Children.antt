-- The rows of a node that holds a tree are right: each is the row of the child that it names, and the nodes hold that child. Assumes nothing.
use mathlib.Core.Path.{◌≡◌, refl, sym, ap, ◌∙◌}
use mathlib.Core.List.{List, [], ◌∷◌, map}
use Prim.Native.Nat.{ℕ, zero, suc, ◌<◌}
use native.Mathlib.Omega.{arith}
use native.Mathlib.Nat.{not-suc-le-zero, le_of_suc-le-suc}
use lib.ListN.{length, get_or, length-map}
use Rattle.slots_raw.specs.declared.Row.{Row}
use Rattle.slots_raw.specs.Slots.{blank}
use Rattle.slots.specs.Nodes.{nodes, nth, Held}
use Rattle.slots.specs.Promises.{ToTouch}
use Rattle.slots.specs.Nodes as S
use Rattle.slots.proofs.Nodes.{length_nodes}
use Rattle.model.specs.declared.Settings.{Settings}
use Rattle.model.specs.Tree.{Tree}
use Rattle.model.proofs.Lists.{all_head, all_tail, parts_at}
use Rattle.tree.specs.Bridge.{kind_for, row_for, child_of, cells, Holds, tree_at}
use Rattle.tree.proofs.Cells.{kind_used}
use Rattle.tree.proofs.Unused.{used_in}
use Rattle.tree.proofs.SoundHolds.{slot_read}

-- ONE OF A LIST

pub at_map : {A B : Type 0} (g : A → B) (l : List A) (i : ℕ) (a : A) (b : B) → i < length l → get_or (map g l) i b ≡ g (get_or l i a)
at_map g [] i a b h = absurd (not-suc-le-zero h)
at_map g (x ∷ l) zero a b h = refl
at_map g (x ∷ l) (suc i) a b h = at_map g l i a b (le_of_suc-le-suc h)

-- THE NODE is in use, so its slot is one of the pool's

pub held_kind : (ns : List S.Node) (h s : ℕ) → Holds ns h (tree_at ns h s) → (nth ns s).kind ≡ kind_for h
held_kind ns h s k = ap (λ (t : ℕ). (nth ns t).kind) (sym (slot_read ns h s)) ∙ ap (λ (n : S.Node). n.kind) (all_head k)

pub held_at : (st : Settings) (W : List ℕ) (h s : ℕ) → Held st W → Holds (nodes st W) h (tree_at (nodes st W) h s) → ToTouch st W s
held_at st W h s held k =
    let used = used_in (nodes st W) s (λ z. kind_used h (sym (held_kind (nodes st W) h s k) ∙ z)) in
    record { held = held; slot = omega (arith, used, length_nodes st W) }

-- THE CHILD that a row names

module _ (ns : List S.Node) (h s : ℕ) (k : Holds ns (suc h) (tree_at ns (suc h) s)) (i : ℕ) (g : i < length (nth ns s).rows) where
  abbrev kid : Row → Tree h
  kid r = tree_at ns h (child_of r)

  pub child_row_lem : get_or (nth ns s).rows i blank ≡ row_for (suc h) (tree_at ns h (child_of (get_or (nth ns s).rows i blank)))
  child_row_lem =
      let same : (nth ns s).rows ≡ map (row_for (suc h)) (map kid (nth ns s).rows) = ap (λ (n : S.Node). n.rows) (all_head k) in
      ap (λ (l : List Row). get_or l i blank) same
      ∙ at_map (row_for (suc h)) (map kid (nth ns s).rows) i (kid blank) blank (omega (arith, length-map (nth ns s).rows kid))
      ∙ ap (row_for (suc h)) (at_map kid (nth ns s).rows i blank (kid blank) g)

  pub child_held : Holds ns h (tree_at ns h (child_of (get_or (nth ns s).rows i blank)))
  child_held = parts_at (cells (suc h)) kid (nth ns s).rows i blank g (all_tail k)
