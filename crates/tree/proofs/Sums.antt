-- The rows of a right node add up to its totals, row by row, and every sum on the way fits. Assumes nothing.
use mathlib.Core.Path.{◌≡◌, refl, sym, ap, ◌∙◌}
use mathlib.Core.List.{List, [], ◌∷◌, map}
use Prim.Native.Nat.{ℕ, zero, suc, ◌+◌, ◌≤◌, ◌<◌}
use native.Mathlib.Omega.{arith}
use native.Mathlib.Numerals.{add-one}
use native.Mathlib.Decide.{ℕ_discrete}
use lib.ListN.{length, drop, get_or, length-append, drop_of_length-le}
use lib.Seq.{drop-cons}
use Rattle.slots_raw.specs.declared.Row.{Row}
use Rattle.slots_raw.specs.Slots.{blank}
use Rattle.model.specs.declared.Totals.{Totals}
use Rattle.model.specs.Lists.{All}
use Rattle.model.specs.Tree.{Item, Tree, entries, greatest_key, total, plus, sum_of}
use Rattle.model.specs.Sound.{Fits}
use Rattle.model.specs.Promises.{flat}
use Rattle.model.proofs.Trees.{list_totals, total_list, totals_count, sizes_few, plus_zero, plus_assoc}
use Rattle.tree.specs.Bridge.{child_totals, row_totals, row_for}
use Rattle.tree.specs.Sums.{sum_rows, Sums}
use Rattle.tree.specs.Promises.{ToAdd}
use Rattle.tree.proofs.Rows.{totals_back}
use Rattle.tree.proofs.ReadOff.{Light, total_count}

-- TWO TOTALS are the same or not
pub totals_discrete : (a b : Totals) → Dec (a ≡ b)
totals_discrete a b = by (ℕ_discrete a.live b.live) (ℕ_discrete a.dead b.dead) (ℕ_discrete a.size b.size)
  where
    by : Dec (a.live ≡ b.live) → Dec (a.dead ≡ b.dead) → Dec (a.size ≡ b.size) → Dec (a ≡ b)
    by (yes live) (yes dead) (yes size) = yes (λ j. record { live = live j; dead = dead j; size = size j })
    by (no ne) dead size = no (λ e. ne (ap (λ (t : Totals). t.live) e))
    by (yes live) (no ne) size = no (λ e. ne (ap (λ (t : Totals). t.dead) e))
    by (yes live) (yes dead) (no ne) = no (λ e. ne (ap (λ (t : Totals). t.size) e))

-- THE ROWS OF ITEMS add what the items do

pub child_total : (h : ℕ) (n : Tree h) → Light h n → child_totals (row_for (suc h) n) ≡ total (suc h) n
child_total h n few =
    totals_back (greatest_key (suc h) n) n.slot (total (suc h) n) (omega (arith, total_count (suc h) n)) (omega (arith, total_count (suc h) n))

row_total : (h : ℕ) (x : Item h) → length (entries h x) < 1048576 → row_totals h (row_for h x) ≡ total h x
row_total zero e few = refl
row_total (suc h) n few = child_total h n few

pub rows_total : (h : ℕ) (xs : List (Item h)) → length (flat h xs) < 1048576 → sum_rows h (map (row_for h) xs) ≡ sum_of (map (total h) xs)
rows_total h [] few = refl
rows_total h (x ∷ xs) few =
    let long = length-append (entries h x) (flat h xs) in
    rw (row_total h x (omega (arith, long)), rows_total h xs (omega (arith, long)))

-- SUMS FIT

pub sums_fit : (h : ℕ) (n : Tree h) → length (flat h n.items) < 1048576 → All Fits (flat h n.items) → Sums h (map (row_for h) n.items)
sums_fit h n few fit =
    let e : sum_rows h (map (row_for h) n.items) ≡ list_totals (flat h n.items) = rows_total h n.items few ∙ total_list (suc h) n in
    record {
      few = omega (arith, ap (λ (t : Totals). t.live) e, ap (λ (t : Totals). t.dead) e, totals_count (flat h n.items));
      short = omega (arith, ap (λ (t : Totals). t.size) e, sizes_few fit);
    }

-- THE LOOP over the rows: what is summed, and the rows that are left

pub sum_more : (h : ℕ) (rs : List Row) (t : Totals) (i : ℕ) → i < length rs
    → plus t (sum_rows h (drop i rs)) ≡ plus (plus t (row_totals h (get_or rs i blank))) (sum_rows h (drop (i + 1) rs))
sum_more h rs t i g =
    rw (drop-cons rs i blank g, add-one) (sym (plus_assoc t (row_totals h (get_or rs i blank)) (sum_rows h (drop (suc i) rs))))

pub sum_fits : (h : ℕ) (rs : List Row) (t : Totals) (i : ℕ) → i < length rs → Sums h rs → plus t (sum_rows h (drop i rs)) ≡ sum_rows h rs
    → ToAdd t (row_totals h (get_or rs i blank))
sum_fits h rs t i g s e =
    let live = ap (λ (u : Totals). u.live) (sym (sum_more h rs t i g) ∙ e) in
    let dead = ap (λ (u : Totals). u.dead) (sym (sum_more h rs t i g) ∙ e) in
    let size = ap (λ (u : Totals). u.size) (sym (sum_more h rs t i g) ∙ e) in
    record { live = omega (arith, live, s.few); dead = omega (arith, dead, s.few); size = omega (arith, size, s.short) }

pub sum_all : (h : ℕ) (rs : List Row) (t : Totals) (i : ℕ) → length rs ≤ i → plus t (sum_rows h (drop i rs)) ≡ sum_rows h rs → t ≡ sum_rows h rs
sum_all h rs t i g e =
    sym (plus_zero t) ∙ ap (λ (l : List Row). plus t (sum_rows h l)) (sym (drop_of_length-le rs g)) ∙ e
