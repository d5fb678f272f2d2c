-- A node whose rows are written, once and again. Assumes nothing.
use mathlib.Core.Path.{◌≡◌, refl, ap, ◌∙◌}
use mathlib.Core.Logic.{◌≢◌}
use mathlib.Core.List.{List}
use Prim.Native.Nat.{ℕ, ◌+◌, ◌<◌}
use native.Mathlib.Omega.{arith}
use lib.ListN.{length, set, length-set}
use Rattle.slots_raw.specs.declared.Row.{Row}
use Rattle.slots.specs.Nodes.{nodes, nth, rows_at, put_rows, with_rows}
use Rattle.slots.specs.Promises.{NodesPut}
use Rattle.slots.specs.Nodes as S
use Rattle.slots.proofs.Nodes.{then, become, nth_rows, nth_put, put_put, length_nodes}
use Rattle.slots.proofs.Pairs.{kept_rows, own_rows}
use Rattle.model.specs.declared.Settings.{Settings}
use Rattle.tree.specs.Bridge.{unused_of}
use Rattle.tree.proofs.Unused.{unused_kept}
use Rattle.tree.specs.Sums.{Sums}
use Rattle.tree_node.specs.Ask.{row_over}
use Rattle.batch_share.specs.Promises.{ToRenew, ToRenewTwo}
use Rattle.batch_share.specs.Children.{renewed, renewed_two}

pub unused_rows : (ns : List S.Node) (s : ℕ) (l : List Row) → unused_of (put_rows ns s l) ≡ unused_of ns
unfolding put_rows
unused_rows ns s l = unused_kept ns s (with_rows (nth ns s) l) refl

-- ROWS WRITTEN, THEN ONE OF THEM MADE NEW

module _ (st : Settings) (W₀ W₁ : List ℕ) (h s i c : ℕ) (l : List Row) (parent : s < st.nodes) (away : c ≢ s)
    (w : NodesPut st W₀ W₁ (put_rows (nodes st W₀) s l)) where
  inside : s < length (nodes st W₀)
  inside = omega (arith, parent, length_nodes st W₀)

  pub renews_after : i < length l → c < st.nodes → Sums h (rows_at st W₀ c) → ToRenew st W₁ h s i c
  renews_after within slot sums =
      let mine : rows_at st W₁ s ≡ l = own_rows st W₀ W₁ s l w parent in
      record { held = w.held; parent = parent; within = omega (arith, within, ap length mine); slot = slot; sums = rw (kept_rows st W₀ W₁ c s l w away) sums }

  pub renewed_after : (W₂ : List ℕ) → NodesPut st W₁ W₂ (renewed (nodes st W₁) h s i c)
      → NodesPut st W₀ W₂ (put_rows (nodes st W₀) s (set l i (row_over h c (rows_at st W₀ c))))
  renewed_after W₂ v =
      let ns : List S.Node = nodes st W₀ in
      become st W₀ W₂ _ _ (then (λ (ns : List S.Node). renewed ns h s i c) st W₀ W₁ W₂ (put_rows ns s l) w v)
      (put_put ns s l (set (nth (put_rows ns s l) s).rows i (row_over h c (nth (put_rows ns s l) c).rows)) inside
      ∙ ap (λ (n : S.Node). put_rows ns s (set n.rows i (row_over h c (nth (put_rows ns s l) c).rows))) (nth_put ns s l inside)
      ∙ ap (λ (n : S.Node). put_rows ns s (set l i (row_over h c n.rows))) (nth_rows ns c s l away))

-- TWO ROWS MADE NEW

module _ (st : Settings) (W₀ W₁ : List ℕ) (h s i p c : ℕ) (t : ToRenewTwo st W₀ h s i p c) (w : NodesPut st W₀ W₁ (renewed (nodes st W₀) h s i p)) where
  abbrev first : List Row
  first = set (rows_at st W₀ s) i (row_over h p (rows_at st W₀ p))

  pub renews_second : ToRenew st W₁ h s (i + 1) c
  renews_second =
      renews_after st W₀ W₁ h s (i + 1) c first t.parent t.away w
      (omega (arith, t.within, length-set (rows_at st W₀ s) i (row_over h p (rows_at st W₀ p)))) t.slot2 t.sums2

  pub renewed_both : (W₂ : List ℕ) → NodesPut st W₁ W₂ (renewed (nodes st W₁) h s (i + 1) c) → NodesPut st W₀ W₂ (renewed_two (nodes st W₀) h s i p c)
  renewed_both W₂ v = renewed_after st W₀ W₁ h s (i + 1) c first t.parent t.away w W₂ v
