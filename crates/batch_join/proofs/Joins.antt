-- A child below the minimum joined with a sibling: the steps put together. Assumes nothing.
use mathlib.Core.Path.{◌≡◌, refl, sym, ◌∙◌, subst}
use mathlib.Core.List.{List, [], ◌∷◌, ◌++◌}
use Prim.Native.Nat.{ℕ, ◌+◌, ◌-◌, ◌≤◌, ◌<◌}
use native.Mathlib.Omega.{arith}
use lib.ListN.{length, length-append}
use borrow.Author.Tests.{le-leb, lt-leb}
use Rattle.model.specs.declared.ChangeResult.TheVariants.{Absorb}
use Rattle.slots.specs.Nodes.{nodes, rows_at}
use Rattle.model.specs.declared.Settings.{Settings}
use Rattle.model.specs.Tree.{Node, Tree, len, refill, release}
use Rattle.model.specs.Share.{Row, half, cut_at, join, followed, stay}
use Rattle.model.specs.Sound.{Stocked}
use Rattle.model.proofs.Lists.{all_head}
use Rattle.tree.specs.Bridge.{unused_of}
use Rattle.batch_share.specs.Children.{kids_at, child_at, before_at, after_at}
use Rattle.batch_share.specs.Promises.{Ended, Poise, Beside, Came, Left}
use Rattle.batch_share.specs.declared.Standing.{Standing}
use Rattle.tree_spare.specs.declared.Spare.{Spare}
use Rattle.tree_spare.specs.Spared.{Spared}
use Rattle.tree_spare.proofs.Spares.{spared_same}
use Rattle.batch_share.proofs.Focuses.{poise_focus, focus_long}
use Rattle.batch_share.proofs.Readings.{to_two, from_two, back_beside, on_beside}
use Rattle.batch_share.proofs.Shares.{stays_left, ended_by}

-- THE MODEL'S ROW, by its test

module _ (st : Settings) {X : Type 0} (p c : Node X) (a : List (Node X)) (us : List ℕ) where
  abbrev whole : Node X
  whole = refill p (p.items ++ c.items)

  join_fits : len p + len c ≤ st.order → followed (join st p c us) a ≡ record { nodes = whole ∷ a; unused = release c.slot us }
  join_fits le = rw (le-leb (len whole) st.order (omega (arith, le, length-append p.items c.items))) refl

  join_over : st.order < len p + len c
      → let two = cut_at (half (len whole)) whole c.slot in
      followed (join st p c us) a ≡ record { nodes = two.lower ∷ two.upper ∷ a; unused = us }
  join_over lt = rw (lt-leb (len whole) st.order (omega (arith, lt, length-append p.items c.items))) refl

-- TWO NEIGHBOURS, merged or levelled

module _ {st : Settings} {W : List ℕ} {h s i : ℕ} {b : List (Tree h)} {p c : Tree h} {a : List (Tree h)} (t : Beside st W h s i b p c a) (W₁ : List ℕ)
    (spare : Spare) where
  abbrev us : List ℕ
  us = unused_of (nodes st W)

  abbrev Joined : Row (Tree h) → Type 0
  Joined q = Left st W W₁ h s spare (kids_at (nodes st W) h s) (stay b q)

  pub merged_rowed : len p + len c ≤ st.order → Joined (record { nodes = refill p (p.items ++ c.items) ∷ a; unused = release c.slot us })
      → Joined (followed (join st p c us) a)
  merged_rowed le x = subst Joined (sym (join_fits st p c a us le)) x

  pub even_rowed : st.order < len p + len c → Spared (nodes st W) spare
      → let both = refill p (p.items ++ c.items) in
      let two = cut_at (half (len both)) both c.slot in
      Came st W W₁ h s (kids_at (nodes st W) h s) (record { before = b; rest = two.lower ∷ two.upper ∷ a; unused = us })
      → Joined (followed (join st p c us) a)
  even_rowed lt l m = subst Joined (sym (join_over st p c a us lt)) (record { came = m; spared = spared_same st W l W₁ m.settled.unused })

-- what joining children j and j + 1 asks ..
abbrev Asks : (st : Settings) (W : List ℕ) (h s : ℕ) → Spare → ℕ → List (Tree h) → Tree h → Tree h → List (Tree h) → Type 0
Asks st W h s spare j u v w z = Beside st W h s j u v w z × ((len v ≤ st.order) × ((len w ≤ st.order) × Spared (nodes st W) spare))

-- .. and answers
abbrev Answers : (st : Settings) (W W₁ : List ℕ) (h s : ℕ) → Spare → List (Tree h) → Tree h → Tree h → List (Tree h) → Type 0
Answers st W W₁ h s r u v w z = Left st W W₁ h s r (kids_at (nodes st W) h s) (stay u (followed (join st v w (unused_of (nodes st W))) z))

-- ANY CHILD, alone or not: the number of rows tells

module _ {st : Settings} {W : List ℕ} {h s i : ℕ} {spare : Spare} {k : ℕ} {c : Tree h} where
  pub alone_ended : (b a : List (Tree h)) (r : Standing) → Poise st W h s i spare k b c a → length (rows_at st W s) ≡ 1 → r.at ≡ i → r.spare ≡ spare
      → Ended st W W h s Absorb r (kids_at (nodes st W) h s) b c a
  alone_ended [] [] r t e ea el =
      ended_by st W W h s Absorb r [] c [] _ refl (stays_left t).came (ea ∙ t.at) (subst (Spared (nodes st W)) (sym el) t.spared)
  alone_ended [] (n ∷ a) r t e ea el = absurd (omega (arith, focus_long (poise_focus t), e))
  alone_ended (p ∷ b) a r t e ea el = absurd (omega (arith, focus_long (poise_focus t), e, t.at))

  pub absorb_asks : (b a : List (Tree h)) (j : ℕ) → Poise st W h s i spare k b c a → Stocked st c → (length (rows_at st W s) ≡ 1 → ⊥) → j ≡ i - 1
      → Asks st W h s spare j (before_at (nodes st W) h s j) (child_at (nodes st W) h s j) (child_at (nodes st W) h s (j + 1)) (after_at (nodes st W) h s (j + 1))
  absorb_asks [] [] j t g ne e = absurd (ne (omega (arith, focus_long (poise_focus t), t.at)))
  absorb_asks [] (n ∷ a) j t g ne e =
      let z : i ≡ j = omega (arith, e, t.at) in
      let u : Beside st W h s j [] c n a = subst (λ (m : ℕ). Beside st W h s m [] c n a) z (on_beside (poise_focus t)) in
      to_two u (Asks st W h s spare j) (u, (g.few, ((all_head t.stocked_after).few, t.spared)))
  absorb_asks (p ∷ b) a j t g ne e =
      let u : Beside st W h s j b p c a = subst (λ (m : ℕ). Beside st W h s m b p c a) (sym e) (back_beside (poise_focus t)) in
      to_two u (Asks st W h s spare j) (u, ((all_head t.stocked_before).few, (g.few, t.spared)))

  pub absorbed : (b a : List (Tree h)) (W₁ : List ℕ) (r : Standing) → Poise st W h s i spare k b c a → (length (rows_at st W s) ≡ 1 → ⊥) → r.at ≡ i - 1
      → Answers st W W₁ h s r.spare (before_at (nodes st W) h s r.at) (child_at (nodes st W) h s r.at) (child_at (nodes st W) h s (r.at + 1))
      (after_at (nodes st W) h s (r.at + 1))
      → Ended st W W₁ h s Absorb r (kids_at (nodes st W) h s) b c a
  absorbed [] [] W₁ r t ne e x = absurd (ne (omega (arith, focus_long (poise_focus t), t.at)))
  absorbed [] (n ∷ a) W₁ r t ne e x =
      let z : i ≡ r.at = omega (arith, e, t.at) in
      let u : Beside st W h s r.at [] c n a = subst (λ (m : ℕ). Beside st W h s m [] c n a) z (on_beside (poise_focus t)) in
      let y : Answers st W W₁ h s r.spare [] c n a = from_two u (Answers st W W₁ h s r.spare) x in
      ended_by st W W₁ h s Absorb r [] c (n ∷ a) _ refl y.came u.at y.spared
  absorbed (p ∷ b) a W₁ r t ne e x =
      let u : Beside st W h s r.at b p c a = subst (λ (m : ℕ). Beside st W h s m b p c a) (sym e) (back_beside (poise_focus t)) in
      let y : Answers st W W₁ h s r.spare b p c a = from_two u (Answers st W W₁ h s r.spare) x in
      ended_by st W W₁ h s Absorb r (p ∷ b) c a _ refl y.came u.at y.spared
