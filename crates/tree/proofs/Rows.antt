-- A child's row gives back the slot and the totals that were put into it, and is made of nothing else. Assumes nothing.
use mathlib.Core.Path.{◌≡◌, refl, ap, ◌∙◌}
use mathlib.Core.Logic.{◌≢◌}
use Prim.Native.Nat.{ℕ, zero, suc, ◌+◌, ◌*◌, ◌/◌, ◌%◌, ◌<◌}
use native.Mathlib.Omega.{arith}
use Rattle.slots_raw.specs.declared.Row.{Row}
use Rattle.model.specs.declared.Totals.{Totals}
use Rattle.model.specs.Tree.{adds}
use Rattle.tree.specs.Bridge.{entry_of, child_row, child_of, child_totals, row_totals}

module _ (key slot : ℕ) (t : Totals) (few : t.live < 1048576) (few_dead : t.dead < 1048576) where
  pub slot_back : child_of (child_row key slot t) ≡ slot
  slot_back = omega arith

  pub totals_back : child_totals (child_row key slot t) ≡ t
  totals_back =
      let high : (slot * 1099511627776 + t.live * 1048576 + t.dead) / 1048576 ≡ slot * 1048576 + t.live = omega arith in
      let low : (slot * 1048576 + t.live) % 1048576 ≡ t.live = omega arith in
      let live : (child_totals (child_row key slot t)).live ≡ t.live = ap (◌% 1048576) high ∙ low in
      let dead : (child_totals (child_row key slot t)).dead ≡ t.dead = omega arith in
      λ j. record { live = live j; dead = dead j; size = t.size }

pub row_back : (r : Row) → child_row r.key (child_of r) (child_totals r) ≡ r
row_back r =
    let body : (child_row r.key (child_of r) (child_totals r)).body ≡ r.body = omega arith in
    λ j. record { key = r.key; body = body j; size = r.size }

-- what a row adds, by the height of its node

pub leaf_adds : (h : ℕ) (r : Row) → h ≡ 0 → adds (entry_of r) ≡ row_totals h r
leaf_adds zero r e = refl
leaf_adds (suc h) r e = absurd (omega arith)

pub inner_adds : (h : ℕ) (r : Row) → h ≢ 0 → child_totals r ≡ row_totals h r
inner_adds zero r ne = absurd (ne refl)
inner_adds (suc h) r ne = refl
