-- What a line asks for, by its first word. Assumes nothing.
use Prim.Native.Nat.{ℕ, suc, ◌-◌, ◌<◌, ◌≤◌}
use native.Mathlib.Omega.{arith}
use mathlib.Core.Path.{◌≡◌, refl, ap, sym, ◌∙◌}
use mathlib.Core.Bool.{true, false}
use mathlib.Core.List.{List, [], ◌∷◌, ◌++◌, map}
use mathlib.Core.Option.{Option, some}
use lib.ListN.{length, take, drop, replicate, length-take, take-append-drop}
use lib.Seq.{length-take-le}
use Rattle.slots_raw.proofs.Over.{drop_replicate}
use borrow.Author.Tests.{le-leb, lt-leb}
use Rattle.std.proofs.lemmas.Bool.Decides.{Decides-eqb}
use Rattle.std.proofs.lemmas.Slice.Eq.{slice_eq-Decides}
use Rattle.std.specs.Prelude as Here
use Rattle.model.specs.declared.Entry.{Entry}
use Rattle.desk_orders.specs.declared.Order.TheVariants as Read
use Rattle.desk_orders.specs.declared.Reading.{Reading}
use Rattle.desk_lines.specs.Parts.{longest}
use Rattle.desk_orders.specs.Orders.{malformed, dump, begins, is_word, set_word, drop_word, dump_word, setting, dropping}
use Rattle.desk_orders.specs.Orders.{asked, wanted, placed, reading, reading_of}
use Rattle.desk_rows.specs.Rows.{rows_in, fields}
use Rattle.desk_rows.specs.Numbers.{fields_from, entries_of, Lends, Past, rows_read}

-- a line is as long as the word that it begins with
pub begins_long : (w l : List ℕ) → begins w l ≡ true → length w ≤ length l
begins_long w l e = omega (arith, ap length ((slice_eq-Decides Decides-eqb w (take (length w) l) _ refl).0 e), length-take (length w) l)

from_inside : (l : List ℕ) (n : ℕ) → n ≤ length l → fields_from l n ≡ fields (drop n l)
from_inside l n h = simp (le-leb _ _ h) refl

module _ (l : List ℕ) where
  pub asks_set : begins set_word l ≡ true → asked l ≡ setting (rows_in true (fields_from l 4))
  unfolding asked
  asks_set e = rw (e, from_inside l 4 (begins_long set_word l e)) refl

  module _ (no : begins set_word l ≡ false) where
    pub asks_drop : begins drop_word l ≡ true → asked l ≡ dropping (rows_in false (fields_from l 5))
    unfolding asked
    asks_drop e = rw (no, e, from_inside l 5 (begins_long drop_word l e)) refl

    module _ (nor : begins drop_word l ≡ false) where
      pub asks_dump : is_word dump_word l ≡ true → asked l ≡ dump
      unfolding asked
      asks_dump e = rw (no, nor, e) refl

      pub asks_none : is_word dump_word l ≡ false → asked l ≡ malformed
      unfolding asked
      asks_none e = rw (no, nor, e) refl

-- THE LIMIT

module _ (l : List ℕ) where
  pub long : longest < length l → wanted l ≡ malformed
  long h = simp (lt-leb _ _ h) refl

  pub short : length l ≤ longest → wanted l ≡ asked l
  short h = simp (le-leb _ _ h) refl

-- a line that is too long is read as malformed, with no numbers
pub long_read : (l : List ℕ) (r : Reading) → r ≡ reading Read.Malformed [] [] [] → longest < length l → r ≡ reading_of (wanted l)
long_read l r e h = e ∙ ap reading_of (sym (long l h))

-- WHAT WAS READ

-- keys, places and sizes side by side, and apart again
record Apart (ks ps zs : List ℕ) : Type 0 where
  count : length (entries_of ks ps zs) ≡ length ks
  keys : map (λ e. e.key) (entries_of ks ps zs) ≡ ks
  places : map (λ e. e.place) (entries_of ks ps zs) ≡ ps
  sizes : map (λ e. e.size) (entries_of ks ps zs) ≡ zs

apart : (ks ps zs : List ℕ) → length ps ≡ length ks → length zs ≡ length ks → Apart ks ps zs
apart [] [] [] a b = record { count = refl; keys = refl; places = refl; sizes = refl }
apart [] [] (z ∷ zs) a b = absurd (omega arith)
apart [] (p ∷ ps) zs a b = absurd (omega arith)
apart (k ∷ ks) [] zs a b = absurd (omega arith)
apart (k ∷ ks) (p ∷ ps) [] a b = absurd (omega arith)
apart (k ∷ ks) (p ∷ ps) (z ∷ zs) a b =
    let r : Apart ks ps zs = apart ks ps zs (omega arith) (omega arith) in
    record { count = ap suc r.count; keys = ap (k ∷◌) r.keys; places = ap (p ∷◌) r.places; sizes = ap (z ∷◌) r.sizes }

-- the first n of 128 places, and zeros past them
placed_is : (xs : List ℕ) (n : ℕ) → length xs ≡ 128 → n ≤ 128 → drop n xs ≡ drop n (replicate 128 0) → placed (take n xs) ≡ xs
placed_is xs n full few past =
    let had : length (take n xs) ≡ n = length-take-le n xs (omega arith) in
    ap (λ (k : ℕ). take n xs ++ replicate (128 - k) 0) had ∙ ap (take n xs ++◌) (sym (past ∙ drop_replicate 0 n 128 few)) ∙ take-append-drop n xs

abbrev zeros : List ℕ
zeros = replicate 128 0

module _ (ks ps zs : List ℕ) (o : Option (List Entry)) (n : ℕ) (read : rows_read (Here.Some n) ks ps zs ≡ o) where
  module _ (few : n ≤ 128) (lends : Lends ks ps zs) (past : Past n zeros zeros zeros ks ps zs) where
    is : o ≡ some (entries_of (take n ks) (take n ps) (take n zs))
    is = sym read

    parted : Apart (take n ks) (take n ps) (take n zs)
    parted =
        let a = length-take-le n ks (omega (arith, lends.keys)) in
        let b = length-take-le n ps (omega (arith, lends.places)) in
        let c = length-take-le n zs (omega (arith, lends.sizes)) in
        apart (take n ks) (take n ps) (take n zs) (b ∙ sym a) (c ∙ sym a)

    count : length (entries_of (take n ks) (take n ps) (take n zs)) ≡ n
    count = parted.count ∙ length-take-le n ks (omega (arith, lends.keys))

    keys_are : placed (map (λ e. e.key) (entries_of (take n ks) (take n ps) (take n zs))) ≡ ks
    keys_are = ap placed parted.keys ∙ placed_is ks n lends.keys few past.keys

    places_are : placed (map (λ e. e.place) (entries_of (take n ks) (take n ps) (take n zs))) ≡ ps
    places_are = ap placed parted.places ∙ placed_is ps n lends.places few past.places

    sizes_are : placed (map (λ e. e.size) (entries_of (take n ks) (take n ps) (take n zs))) ≡ zs
    sizes_are = ap placed parted.sizes ∙ placed_is zs n lends.sizes few past.sizes

    pub set_good : (r : Reading) → r ≡ record { order = Read.Set n; keys = ks; places = ps; sizes = zs } → r ≡ reading_of (setting o)
    set_good r e = e ∙ rw (is, count, keys_are, places_are, sizes_are) refl

    pub drop_good : (r : Reading) → r ≡ record { order = Read.Drop n; keys = ks; places = zeros; sizes = zeros } → r ≡ reading_of (dropping o)
    drop_good r e =
        let many : length (take n ks) ≡ n = length-take-le n ks (omega (arith, lends.keys)) in
        e ∙ rw (is, parted.keys, placed_is ks n lends.keys few past.keys, many) refl
