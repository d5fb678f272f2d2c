-- Totals that are added up row by row stay far below what their fields hold, if each row's own do. Assumes nothing.
use mathlib.Core.Path.{◌≡◌, ap}
use mathlib.Core.Bool.{Bool, true, false, cond}
use Prim.Native.Nat.{ℕ, suc, ◌+◌, ◌*◌, ◌≤◌, ◌<◌}
use native.Mathlib.Omega.{arith}
use lib.ListN.{length}
use Rattle.slots_raw.specs.declared.Row.{Row}
use Rattle.model.specs.declared.Entry.{Entry}
use Rattle.model.specs.declared.Totals.{Totals}
use Rattle.model.specs.Lists.{All}
use Rattle.model.specs.Tree.{Tree, entries, total, is_live, adds, plus, no_totals}
use Rattle.model.specs.Sound.{Fits}
use Rattle.model.proofs.Trees.{total_list, sizes_few}
use Rattle.tree.specs.Bridge.{child_totals}
use Rattle.tree.specs.Promises.{ToAdd}
use Rattle.tree.proofs.ReadOff.{total_count}

-- the totals of one row: of an entry, or of a child whose row counts them in 20 bits
pub record Slight (t : Totals) : Type 0 where
  pub live : t.live ≤ 1048576
  pub dead : t.dead ≤ 1048576
  pub size : t.size ≤ 9007199254740992

-- the totals of i rows of a node
pub record Small (t : Totals) (i : ℕ) : Type 0 where
  pub live : t.live ≤ i * 1048576
  pub dead : t.dead ≤ i * 1048576
  pub size : t.size ≤ i * 9007199254740992

pub small_none : Small no_totals 0
small_none = record { live = omega arith; dead = omega arith; size = omega arith }

pub small_more : (a b : Totals) (i : ℕ) → Small a i → Slight b → Small (plus a b) (i + 1)
small_more a b i s t =
    record { live = omega (arith, s.live, t.live); dead = omega (arith, s.dead, t.dead); size = omega (arith, s.size, t.size) }

pub small_addable : (a b : Totals) (i : ℕ) → i < 32 → Small a i → Slight b → ToAdd a b
small_addable a b i lt s t =
    record { live = omega (arith, s.live, t.live); dead = omega (arith, s.dead, t.dead); size = omega (arith, s.size, t.size) }

pub entry_slight : (e : Entry) → e.size < 4294967296 → Slight (adds e)
entry_slight e h = by (is_live e)
  where
    by : (b : Bool) → Slight (record { live = cond b 1 0; dead = cond b 0 1; size = cond b e.size 0 })
    by true = record { live = omega arith; dead = omega arith; size = omega arith }
    by false = record { live = omega arith; dead = omega arith; size = omega arith }

-- a child whose row counts its entries
pub child_slight : (h : ℕ) (t : Tree h) (r : Row) → All Fits (entries (suc h) t) → child_totals r ≡ total (suc h) t → Slight (total (suc h) t)
child_slight h t r f a =
    let live : (total (suc h) t).live < 1048576 = omega (arith, ap (λ (x : Totals). x.live) a) in
    let dead : (total (suc h) t).dead < 1048576 = omega (arith, ap (λ (x : Totals). x.dead) a) in
    let size : (total (suc h) t).size ≤ length (entries (suc h) t) * 4294967296 =
    omega (arith, sizes_few f, ap (λ (x : Totals). x.size) (total_list (suc h) t)) in
    record { live = omega arith; dead = omega arith; size = omega (arith, total_count (suc h) t) }
