-- The keys of rows: they are the separators of the items, so they can be searched, and where a key stands among them the model's list is cut.
-- Assumes nothing.
use mathlib.Core.Path.{◌≡◌, refl, sym, ap, ◌∙◌, subst}
use mathlib.Core.Bool.{Bool, true, false, cond}
use mathlib.Core.List.{List, [], ◌∷◌, map}
use Prim.Native.Nat.{ℕ, zero, suc, ◌<◌}
use lib.Dec.{ltb}
use lib.ListN.{drop}
use Rattle.slots_raw.specs.declared.Row.{Row}
use Rattle.slots_find.specs.Search.{Ascending, pick}
use Rattle.slots_find.specs.Search as S
use Rattle.slots_find.proofs.Finds.{ordered_rows}
use Rattle.model.specs.Lists.{Ordered}
use Rattle.model.specs.Tree.{Item, greatest_key}
use Rattle.model.specs.Plain.{from}
use Rattle.tree.specs.Bridge.{entry_of, row_for}

row_key : (h : ℕ) (x : Item h) → (row_for h x).key ≡ greatest_key h x
row_key zero e = refl
row_key (suc h) n = refl

pub row_keys : (h : ℕ) (xs : List (Item h)) → map (λ (r : Row). r.key) (map (row_for h) xs) ≡ map (greatest_key h) xs
row_keys h [] = refl
row_keys h (x ∷ xs) =
    ap (λ (k : ℕ). k ∷ map (λ (r : Row). r.key) (map (row_for h) xs)) (row_key h x) ∙ ap (λ (ks : List ℕ). greatest_key h x ∷ ks) (row_keys h xs)

pub rows_ascend : (h : ℕ) (xs : List (Item h)) → Ordered (λ j k. j < k) (map (greatest_key h) xs) → Ascending (map (row_for h) xs)
rows_ascend h xs s = ordered_rows (map (row_for h) xs) (subst (Ordered (λ j k. j < k)) (sym (row_keys h xs)) s)

module _ (k : ℕ) where
  from_one : (r : Row) (l : List Row) (b : Bool) → from k (map entry_of l) ≡ map entry_of (drop (S.below k l) l)
      → cond b (from k (map entry_of l)) (entry_of r ∷ map entry_of l) ≡ map entry_of (drop (pick b (suc (S.below k l)) 0) (r ∷ l))
  unfolding pick
  from_one r l true h = h
  from_one r l false h = refl

  -- the entries from k on are those of the rows from its place on
  pub entries_from : (l : List Row) → from k (map entry_of l) ≡ map entry_of (drop (S.below k l) l)
  unfolding S.below
  entries_from [] = refl
  entries_from (r ∷ l) = from_one r l (ltb r.key k) (entries_from l)
