-- What is said of a child and its siblings may be said of what is read off the nodes, and the other way round. Assumes nothing.
use mathlib.Core.Path.{◌≡◌, sym, subst}
use mathlib.Core.List.{List, ◌∷◌, reverse_aux}
use Prim.Native.Nat.{ℕ, ◌+◌, ◌-◌}
use native.Mathlib.Omega.{arith}
use Rattle.slots.specs.Nodes.{nodes}
use Rattle.model.specs.declared.Settings.{Settings}
use Rattle.model.specs.Tree.{Tree}
use Rattle.model.specs.Share.{Row, stay}
use Rattle.tree.specs.Bridge.{unused_of}
use Rattle.tree_spare.specs.declared.Spare.{Spare}
use Rattle.batch_share.specs.Children.{kids_at, child_at, before_at, after_at}
use Rattle.batch_share.specs.Promises.{Focus, Beside, Left, Rowed}
use Rattle.batch_share.proofs.Places.{family_kids, kids_came, before_is, child_is, after_is}

-- ONE CHILD

module _ {st : Settings} {W : List ℕ} {h s i : ℕ} {b : List (Tree h)} {c : Tree h} {a : List (Tree h)} (t : Focus st W h s i b c a) where
  pub read_before : before_at (nodes st W) h s i ≡ b
  read_before = before_is (nodes st W) h s b c a i (family_kids t.family) t.at

  pub read_child : child_at (nodes st W) h s i ≡ c
  read_child = child_is (nodes st W) h s b c a i (family_kids t.family) t.at

  pub read_after : after_at (nodes st W) h s i ≡ a
  read_after = after_is (nodes st W) h s b c a i (family_kids t.family) t.at

  module _ (F : List (Tree h) → Tree h → List (Tree h) → Type 0) where
    pub to_readings : F b c a → F (before_at (nodes st W) h s i) (child_at (nodes st W) h s i) (after_at (nodes st W) h s i)
    to_readings x =
        subst (λ (u : List (Tree h)). F u (child_at (nodes st W) h s i) (after_at (nodes st W) h s i)) (sym read_before)
        (subst (λ (u : Tree h). F b u (after_at (nodes st W) h s i)) (sym read_child) (subst (λ (u : List (Tree h)). F b c u) (sym read_after) x))

    pub from_readings : F (before_at (nodes st W) h s i) (child_at (nodes st W) h s i) (after_at (nodes st W) h s i) → F b c a
    from_readings x =
        subst (λ (u : List (Tree h)). F b c u) read_after
        (subst (λ (u : Tree h). F b u (after_at (nodes st W) h s i)) read_child
        (subst (λ (u : List (Tree h)). F u (child_at (nodes st W) h s i) (after_at (nodes st W) h s i)) read_before x))

  -- a row made of the child, those after it and the unused slots
  pub from_rowed : (W₁ : List ℕ) (spare : Spare) (G : Tree h → List (Tree h) → List ℕ → Row (Tree h)) (us : List ℕ) → unused_of (nodes st W) ≡ us
      → Rowed st W W₁ h s i spare (G (child_at (nodes st W) h s i) (after_at (nodes st W) h s i) (unused_of (nodes st W)))
      → Left st W W₁ h s spare (reverse_aux b (c ∷ a)) (stay b (G c a us))
  from_rowed W₁ spare G us e x =
      let y : Left st W W₁ h s spare (kids_at (nodes st W) h s) (stay b (G c a (unused_of (nodes st W)))) =
      from_readings (λ u v w. Left st W W₁ h s spare (kids_at (nodes st W) h s) (stay u (G v w (unused_of (nodes st W))))) x in
      subst (λ (vs : List ℕ). Left st W W₁ h s spare (reverse_aux b (c ∷ a)) (stay b (G c a vs))) e
      (record { came = kids_came t.family W₁ (stay b (G c a (unused_of (nodes st W)))) y.came; spared = y.spared })

-- TWO NEIGHBOURS

module _ {st : Settings} {W : List ℕ} {h s i : ℕ} {b : List (Tree h)} {p c : Tree h} {a : List (Tree h)} (t : Beside st W h s i b p c a) where
  pub lower_focus : Focus st W h s i b p (c ∷ a)
  lower_focus = record { family = t.family; at = t.at }

  pub upper_focus : Focus st W h s (i + 1) (p ∷ b) c a
  upper_focus = record { family = t.family; at = omega (arith, t.at) }

  module _ (F : List (Tree h) → Tree h → Tree h → List (Tree h) → Type 0) where
    pub to_two : F b p c a → F (before_at (nodes st W) h s i) (child_at (nodes st W) h s i) (child_at (nodes st W) h s (i + 1)) (after_at (nodes st W) h s (i + 1))
    to_two x =
        to_readings lower_focus (λ u v w. F u v (child_at (nodes st W) h s (i + 1)) (after_at (nodes st W) h s (i + 1)))
        (to_readings upper_focus (λ u v w. F b p v w) x)

    pub from_two : F (before_at (nodes st W) h s i) (child_at (nodes st W) h s i) (child_at (nodes st W) h s (i + 1)) (after_at (nodes st W) h s (i + 1))
        → F b p c a
    from_two x =
        from_readings upper_focus (λ u v w. F b p v w)
        (from_readings lower_focus (λ u v w. F u v (child_at (nodes st W) h s (i + 1)) (after_at (nodes st W) h s (i + 1))) x)

-- a child and the sibling before it, or behind it
module _ {st : Settings} {W : List ℕ} {h s i : ℕ} where
  pub back_beside : {b : List (Tree h)} {p c : Tree h} {a : List (Tree h)} → Focus st W h s i (p ∷ b) c a → Beside st W h s (i - 1) b p c a
  back_beside t = record { family = t.family; at = omega (arith, t.at) }

  pub on_beside : {b : List (Tree h)} {c n : Tree h} {a : List (Tree h)} → Focus st W h s i b c (n ∷ a) → Beside st W h s i b c n a
  on_beside t = record { family = t.family; at = t.at }
