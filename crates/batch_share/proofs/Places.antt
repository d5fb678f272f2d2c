-- What is read off the nodes at child i of node s, where they hold a family. Assumes nothing.
use mathlib.Core.Path.{◌≡◌, sym, ap, ◌∙◌, subst}
use mathlib.Core.Logic.{◌≢◌}
use mathlib.Core.List.{List, [], ◌∷◌, map, reverse_aux}
use Prim.Native.Nat.{ℕ, suc, ◌+◌, ◌<◌}
use native.Mathlib.Omega.{arith}
use lib.ListN.{length, take, drop, get_or, length-map, get_or-map}
use Rattle.slots_raw.specs.declared.Row.{Row}
use Rattle.slots_raw.specs.Slots.{blank}
use Rattle.slots.specs.Nodes.{nodes, nth, rows_at}
use Rattle.slots.specs.Promises.{ToTouchRows}
use Rattle.slots.specs.Nodes as S
use Rattle.slots.proofs.Nodes.{length_nodes}
use Rattle.model.specs.declared.Settings.{Settings}
use Rattle.model.specs.Tree.{Tree, len}
use Rattle.model.specs.Share.{Place}
use Rattle.model.proofs.Lists.{all_head, all_tail}
use Rattle.model.proofs.Trees.{flat_joined}
use Rattle.tree.specs.Bridge.{row_for, node_for, tree_at, child_of}
use Rattle.tree.proofs.Cells.{kind_used}
use Rattle.tree.proofs.Unused.{used_in}
use Rattle.tree.proofs.ReadOff.{kids_read}
use Rattle.tree.proofs.SoundHolds.{slot_read}
use Rattle.batch_share.specs.Children.{inner, kids_at, child_at, before_at, after_at}
use Rattle.batch_share.specs.Promises.{ToName, Family, Came}
use Rattle.batch_share.proofs.Zips.{take_turned, drop_turned, get_d_turned, twice_turned, apart_at}

-- ONE NODE

pub node_used : (ns : List S.Node) (h x : ℕ) (y : Tree h) → nth ns x ≡ node_for h y → (nth ns x).kind ≢ 0
node_used ns h x y e z = kind_used h (ap (λ (n : S.Node). n.kind) (sym e) ∙ z)

pub node_len : (ns : List S.Node) (h x : ℕ) (y : Tree h) → nth ns x ≡ node_for h y → length (nth ns x).rows ≡ len y
node_len ns h x y e = ap (λ (n : S.Node). length n.rows) e ∙ length-map y.items (row_for h)

-- r is the slot of the child c, which stands there
pub record Named (st : Settings) (W : List ℕ) (h : ℕ) (c : Tree h) (r : ℕ) : Type 0 where
  pub is : r ≡ c.slot
  pub slot : r < st.nodes
  pub count : length (rows_at st W r) ≡ len c

module _ {st : Settings} {W : List ℕ} {h s i : ℕ} {c : Tree h} (t : ToName st W h s i c) where
  pub sits_row : ToTouchRows st W s i 1
  sits_row = record { held = t.held; slot = t.parent; within = omega (arith, t.within) }

-- the slot that row i names is that of child i
pub slot_of : (ns : List S.Node) (h s i : ℕ) {y : ℕ} → y ≡ child_of (get_or (nth ns s).rows i blank) → y ≡ (child_at ns h s i).slot
slot_of ns h s i e = e ∙ sym (slot_read ns h (child_of (get_or (nth ns s).rows i blank)))

pub named_at : {st : Settings} {W : List ℕ} {h s i : ℕ} → ToName st W h s i (child_at (nodes st W) h s i) → {r : ℕ}
    → r ≡ child_of (get_or (rows_at st W s) i blank) → Named st W h (child_at (nodes st W) h s i) r
named_at {st} {W} {h} {s} {i} t {r} e =
    let same : r ≡ (child_at (nodes st W) h s i).slot = slot_of (nodes st W) h s i e in
    let own : nth (nodes st W) r ≡ node_for h (child_at (nodes st W) h s i) = ap (nth (nodes st W)) same ∙ t.own in
    record {
      is = same;
      slot = omega (arith, used_in (nodes st W) r (node_used (nodes st W) h r (child_at (nodes st W) h s i) own), length_nodes st W);
      count = node_len (nodes st W) h r (child_at (nodes st W) h s i) own;
    }

-- A FAMILY

module _ {st : Settings} {W : List ℕ} {h s : ℕ} {kids : List (Tree h)} (f : Family st W h s kids) where
  pub family_rows : rows_at st W s ≡ map (row_for (suc h)) kids
  family_rows = ap (λ (n : S.Node). n.rows) (all_head f.holds)

  pub family_kids : kids_at (nodes st W) h s ≡ kids
  family_kids =
      ap (map (λ (r : Row). tree_at (nodes st W) h (child_of r))) family_rows
      ∙ kids_read (nodes st W) h kids (omega (arith, f.bounded.small, ap length (flat_joined h kids))) (all_tail f.holds)

  pub family_long : length (rows_at st W s) ≡ length kids
  family_long = ap length family_rows ∙ length-map kids (row_for (suc h))

  pub parent_in : s < st.nodes
  parent_in = omega (arith, used_in (nodes st W) s (node_used (nodes st W) (suc h) s (inner h s kids) (all_head f.holds)), length_nodes st W)

  -- a step from the kids that are read off is a step from these
  pub came_kids : (W₂ : List ℕ) (q : Place (Tree h)) → Came st W W₂ h s kids q → Came st W W₂ h s (kids_at (nodes st W) h s) q
  came_kids W₂ q m = subst (λ (ks : List (Tree h)). Came st W W₂ h s ks q) (sym family_kids) m

  pub kids_came : (W₂ : List ℕ) (q : Place (Tree h)) → Came st W W₂ h s (kids_at (nodes st W) h s) q → Came st W W₂ h s kids q
  kids_came W₂ q m = subst (λ (ks : List (Tree h)). Came st W W₂ h s ks q) family_kids m

-- READINGS: of the nodes whose rows of s name the children `kids`

module _ (ns : List S.Node) (h s : ℕ) where
  abbrev read : Row → Tree h
  read r = tree_at ns h (child_of r)

  -- child i
  child_kids : (i : ℕ) → child_at ns h s i ≡ get_or (kids_at ns h s) i (read blank)
  child_kids i = sym (get_or-map read (nth ns s).rows i blank)

  -- the kids are what is before child i, child i, and what is after it
  pub kids_apart : (i : ℕ) → i < length (nth ns s).rows → reverse_aux (before_at ns h s i) (child_at ns h s i ∷ after_at ns h s i) ≡ kids_at ns h s
  kids_apart i g =
      ap (λ (t : Tree h). reverse_aux (before_at ns h s i) (t ∷ after_at ns h s i)) (child_kids i)
      ∙ apart_at (kids_at ns h s) i (read blank) (omega (arith, length-map (nth ns s).rows read))

  module _ (b : List (Tree h)) (c : Tree h) (a : List (Tree h)) (i : ℕ) (kids : kids_at ns h s ≡ reverse_aux b (c ∷ a)) (at : i ≡ length b) where
    z : i ≡ 0 + length b
    z = omega arith

    pub before_is : before_at ns h s i ≡ b
    before_is =
        ap (λ (l : List (Tree h)). reverse_aux (take i l) []) kids ∙ ap (λ (n : ℕ). reverse_aux (take n (reverse_aux b (c ∷ a))) []) z
        ∙ ap (λ (l : List (Tree h)). reverse_aux l []) (take_turned 0 b (c ∷ a)) ∙ twice_turned b

    pub child_is : child_at ns h s i ≡ c
    child_is =
        child_kids i ∙ ap (λ (l : List (Tree h)). get_or l i (read blank)) kids ∙ ap (λ (n : ℕ). get_or (reverse_aux b (c ∷ a)) n (read blank)) z
        ∙ get_d_turned 0 b (c ∷ a) (read blank)

    pub after_is : after_at ns h s i ≡ a
    after_is =
        let one_on : suc i ≡ 1 + length b = omega arith in
        ap (λ (l : List (Tree h)). drop (suc i) l) kids ∙ ap (λ (n : ℕ). drop n (reverse_aux b (c ∷ a))) one_on ∙ drop_turned 1 b (c ∷ a)
