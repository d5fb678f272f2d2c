-- One child of a family in the pool. Assumes nothing.
use mathlib.Core.Path.{◌≡◌, refl, ◌∙◌, subst}
use mathlib.Core.Logic.{◌≢◌}
use mathlib.Core.List.{List, [], ◌∷◌, ◌++◌, map, reverse_aux}
use Prim.Native.Nat.{ℕ, suc, ◌+◌, ◌≤◌, ◌<◌}
use native.Mathlib.Omega.{arith}
use lib.ListN.{length, get_or, length-map, length-reverse_aux}
use Rattle.slots_raw.specs.Slots.{blank}
use Rattle.slots.specs.Nodes.{nodes, nth, rows_at}
use Rattle.slots.proofs.Nodes.{length_nodes, fits_node}
use Rattle.model.specs.declared.Settings.{Settings}
use Rattle.model.specs.Lists.{hit, times}
use Rattle.model.specs.Tree.{Tree, slots}
use Rattle.model.specs.Promises.{joined, back}
use Rattle.model.proofs.Lists.{all_head, all_tail, hit_same}
use Rattle.model.proofs.Trees.{back_joined, own, slots_in}
use Rattle.tree.specs.Bridge.{row_for, node_for, child_of}
use Rattle.tree.specs.Bridge as T
use Rattle.tree.proofs.Cells.{cells_rest}
use Rattle.tree.proofs.Unused.{used_in}
use Rattle.tree_spare.specs.declared.Spare.{Spare}
use Rattle.batch_share.specs.Children.{inner, child_at}
use Rattle.batch_share.specs.Promises.{ToName, Bounded, Focus, ToFocus, Poise}
use Rattle.batch_share.proofs.Weights.{bounded_left, bounded_right}
use Rattle.batch_share.proofs.Zips.{map_turned}
use Rattle.batch_share.proofs.Places.{node_used, Named, named_at, family_rows, family_long, parent_in}
use Rattle.batch_share.proofs.Recast.{owns, family_counts}

module _ {st : Settings} {W : List ℕ} {h s i : ℕ} {b : List (Tree h)} {c : Tree h} {a : List (Tree h)} (t : Focus st W h s i b c a) where
  pub own_focus : nth (nodes st W) c.slot ≡ node_for h c
  own_focus = all_head (owns (nodes st W) h (c ∷ a) (cells_rest (T.Stands (nodes st W)) (suc h) b (c ∷ a) (all_tail t.family.holds)))

  pub focus_counts : (x : ℕ) → times x (slots (suc (suc h)) (inner h s (reverse_aux b (c ∷ a))))
      ≡ hit x s + (times x (slots_in (suc h) b) + (own x (c ∷ []) + (own x a + (times x (slots_in h (joined (c ∷ []))) + times x (slots_in h (joined a))))))
  focus_counts x = family_counts h s b (c ∷ []) a x

  pub focus_away : c.slot ≢ s
  focus_away e = absurd (omega (arith, focus_counts c.slot, t.family.apart c.slot, hit_same c.slot c.slot refl, hit_same c.slot s e))

  pub focus_used : (nth (nodes st W) c.slot).kind ≢ 0
  focus_used = node_used (nodes st W) h c.slot c own_focus

  pub parent_used : (nth (nodes st W) s).kind ≢ 0
  parent_used = node_used (nodes st W) (suc h) s (inner h s (reverse_aux b (c ∷ a))) (all_head t.family.holds)

  pub focus_in : c.slot < st.nodes
  focus_in = omega (arith, used_in (nodes st W) c.slot focus_used, length_nodes st W)

  pub focus_long : length (rows_at st W s) ≡ i + suc (length a)
  focus_long = omega (arith, family_long t.family, length-reverse_aux b (c ∷ a), t.at)

  pub focus_few : i + 1 ≤ 64
  focus_few = omega (arith, focus_long, fits_node st W s t.family.held, t.family.held.shape.most)

  pub focus_sits : ToName st W h s i c
  focus_sits = record { held = t.family.held; parent = parent_in t.family; within = omega (arith, focus_long); own = own_focus }

  pub focus_bounded : Bounded h c.items
  focus_bounded =
      bounded_left h c.items (joined a) (bounded_right h (back b) (c.items ++ joined a) (subst (Bounded h) (back_joined b (c ∷ a)) t.family.bounded))

  pub focus_rows : rows_at st W s ≡ reverse_aux (map (row_for (suc h)) b) (row_for (suc h) c ∷ map (row_for (suc h)) a)
  focus_rows = family_rows t.family ∙ map_turned (row_for (suc h)) b (c ∷ a)

  pub focus_place : i ≡ 0 + length (map (row_for (suc h)) b)
  focus_place = omega (arith, t.at, length-map b (row_for (suc h)))

  pub focus_next : i + 1 ≡ 1 + length (map (row_for (suc h)) b)
  focus_next = omega (arith, t.at, length-map b (row_for (suc h)))

-- the slot in the parent's row is the child's
pub child_named : {st : Settings} {W : List ℕ} {h s i : ℕ} → ToFocus st W h s i → {x : ℕ} → x ≡ child_of (get_or (rows_at st W s) i blank)
    → Named st W h (child_at (nodes st W) h s i) x
child_named t e = named_at (focus_sits t) e

-- among stocked siblings

module _ {st : Settings} {W : List ℕ} {h s i : ℕ} {spare : Spare} {k : ℕ} {b : List (Tree h)} {c : Tree h} {a : List (Tree h)} (t : Poise st W h s i spare k b c a) where
  pub poise_focus : Focus st W h s i b c a
  poise_focus = record { family = t.family; at = t.at }
