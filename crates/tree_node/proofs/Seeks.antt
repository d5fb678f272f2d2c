-- The child that a key goes to: found by a walk from any child on, and the model's. Assumes nothing.
use mathlib.Core.Path.{◌≡◌, refl, sym, ap, ◌∙◌}
use mathlib.Core.Bool.{Bool, true, false, cond}
use mathlib.Core.List.{List, [], ◌∷◌, map}
use Prim.Native.Nat.{ℕ, suc, ◌+◌, ◌≤◌, ◌<◌}
use native.Mathlib.Omega.{arith}
use native.Mathlib.Numerals.{add-one}
use lib.Dec.{ltb}
use lib.ListN.{length, get_or, drop, length-drop}
use lib.Seq.{drop-cons}
use borrow.Author.Tests.{lt-ltb, le-ltb}
use Rattle.slots_raw.specs.declared.Row.{Row}
use Rattle.slots_raw.specs.Slots.{blank}
use Rattle.slots_find.specs.Search.{key_at}
use Rattle.model.specs.Tree.{Tree, greatest_key}
use Rattle.model.specs.Change.{seek}
use Rattle.tree.specs.Bridge.{row_for}
use Rattle.tree_node.specs.Ask.{child_for}

-- the two rows from i on
two : (l : List Row) (i : ℕ) → i + 1 < length l → drop i l ≡ get_or l i blank ∷ (get_or l (suc i) blank ∷ drop (suc (suc i)) l)
two l i h = drop-cons l i blank (omega arith) ∙ ap (λ (m : List Row). get_or l i blank ∷ m) (drop-cons l (suc i) blank (omega arith))

pub child_here : (k : ℕ) (l : List Row) (i : ℕ) → i + 1 < length l → k ≤ key_at l i → child_for k (drop i l) ≡ 0
child_here k l i h g = ap (child_for k) (two l i h) ∙ rw (le-ltb (key_at l i) k g) refl

pub child_on : (k : ℕ) (l : List Row) (i : ℕ) → i + 1 < length l → key_at l i < k → child_for k (drop i l) ≡ suc (child_for k (drop (i + 1) l))
child_on k l i h g =
    ap (child_for k) (two l i h)
    ∙ rw (lt-ltb (key_at l i) k g)
    (ap (λ (m : List Row). suc (child_for k m)) (sym (drop-cons l (suc i) blank (omega arith)) ∙ ap (λ (j : ℕ). drop j l) (sym (add-one i))))

only_child : (k : ℕ) (l : List Row) → length l ≤ 1 → child_for k l ≡ 0
only_child k [] h = refl
only_child k (r ∷ []) h = refl
only_child k (r ∷ (q ∷ l)) h = absurd (omega arith)

pub child_last : (k : ℕ) (l : List Row) (i : ℕ) → length l ≤ i + 1 → child_for k (drop i l) ≡ 0
child_last k l i h = only_child k (drop i l) (omega (arith, length-drop i l))

-- the model's search passes over as many children
pub seek_child : (h k : ℕ) (before : List (Tree h)) (c : Tree h) (cs : List (Tree h))
    → length (seek (greatest_key (suc h)) k before c cs).before ≡ length before + child_for k (map (row_for (suc h)) (c ∷ cs))
seek_child h k before c [] = omega arith
seek_child h k before c (n ∷ cs) = by (ltb (greatest_key (suc h) c) k) (seek_child h k (c ∷ before) n cs)
  where
    by : (b : Bool) → length (seek (greatest_key (suc h)) k (c ∷ before) n cs).before ≡ suc (length before) + child_for k (map (row_for (suc h)) (n ∷ cs))
        → length (cond b (seek (greatest_key (suc h)) k (c ∷ before) n cs) (record { before = before; child = c; after = n ∷ cs })).before
        ≡ length before + cond b (suc (child_for k (map (row_for (suc h)) (n ∷ cs)))) 0
    by true e = omega (arith, e)
    by false e = omega arith
