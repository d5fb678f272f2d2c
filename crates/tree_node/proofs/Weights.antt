-- The row that is worked out of a node's rows is the row of its tree, and the last key is that of the last row. Assumes nothing.
use mathlib.Core.Path.{◌≡◌, refl, ap, ◌∙◌}
use mathlib.Core.List.{List, [], ◌∷◌, map}
use mathlib.Core.Logic.{◌≢◌}
use Prim.Native.Nat.{ℕ, suc, ◌-◌, ◌<◌}
use native.Mathlib.Omega.{arith}
use lib.ListN.{length, get_or}
use Rattle.slots_raw.specs.declared.Row.{Row}
use Rattle.slots_raw.specs.Slots.{blank}
use Rattle.model.specs.Tree.{Tree, greatest_key, last_of}
use Rattle.model.specs.Promises.{flat}
use Rattle.tree.specs.Bridge.{child_row, row_for}
use Rattle.tree.specs.Sums.{sum_rows}
use Rattle.tree.proofs.Sums.{rows_total}
use Rattle.tree.proofs.Keys.{row_keys}
use Rattle.tree_node.specs.Ask.{last_key, row_over}

-- THE ROW OF A TREE

pub row_over_lem : (h : ℕ) (n : Tree h) → length (flat h n.items) < 1048576 → row_over h n.slot (map (row_for h) n.items) ≡ row_for (suc h) n
row_over_lem h n few =
    ap (λ (ks : List ℕ). child_row (last_of ks) n.slot (sum_rows h (map (row_for h) n.items))) (row_keys h n.items)
    ∙ ap (child_row (greatest_key (suc h) n) n.slot) (rows_total h n.items few)

-- THE LAST KEY is that of the last row, if there is one

pub no_key : (rs : List Row) → length rs ≡ 0 → 0 ≡ last_key rs
no_key [] e = refl
no_key (r ∷ rs) e = absurd (omega arith)

last_from : (r : Row) (rs : List Row) → (get_or (r ∷ rs) (length rs) blank).key ≡ last_key (r ∷ rs)
last_from r [] = refl
last_from r (q ∷ rs) = last_from q rs

pub key_last : (rs : List Row) (n : ℕ) → n ≡ length rs → n ≢ 0 → (get_or rs (n - 1) blank).key ≡ last_key rs
key_last [] n e ne = absurd (ne e)
key_last (r ∷ rs) n e ne = let i : n - 1 ≡ length rs = omega arith in rw i (last_from r rs)
