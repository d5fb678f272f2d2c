-- What reading a number, a row and the rows of a line promises. Assumes nothing.
use Rattle.std.specs.Prelude.{ℕ, ◌+◌, ◌^◌, ◌≤◌, ◌<◌, ◌≡◌, Bool, cond, List, [], ◌∷◌, length, take, drop, leb}
use Rattle.std.proofs.Math.Option.{Option, none, some}
use Rattle.std.specs.Prelude as Here
use Rattle.model.specs.declared.Entry.{Entry}
use Rattle.desk_rows.specs.declared.digits.Number.{Number}
use Rattle.desk_rows.specs.declared.rows.Row.{Row}
use Rattle.desk_lines.specs.Lines.{up_to, end_of}
use Rattle.desk_rows.specs.Rows.{number, fields, rows_in, and_rows}

-- the field that begins at `from`
abbrev pub field_at : List ℕ → ℕ → List ℕ
field_at l from = up_to 32 (drop from l)

-- a number of at most `most` digits, and the place behind it
abbrev pub NumberAt : List ℕ → ℕ → ℕ → Here.Option Number → Type 0
NumberAt l from most Here.None = number most (field_at l from) ≡ none
NumberAt l from most (Here.Some n) =
    (number most (field_at l from) ≡ some n.value) × (n.end ≡ end_of 32 l from) × (from < n.end) × (n.end ≤ length l) × (n.value < 16 ^ most)

-- the fields from a place on: none past the line's end
abbrev pub fields_from : List ℕ → ℕ → List (List ℕ)
fields_from l at = cond (leb at (length l)) (fields (drop at l)) []

-- the number of the first of some fields
abbrev pub first_number : ℕ → List (List ℕ) → Option ℕ
first_number most [] = none
first_number most (f ∷ fs) = number most f

-- the same of the field behind the one that ends at `end`
abbrev pub NextAt : List ℕ → ℕ → ℕ → Here.Option Number → Type 0
NextAt l end most Here.None = first_number most (fields_from l (end + 1)) ≡ none
NextAt l end most (Here.Some n) =
    (first_number most (fields_from l (end + 1)) ≡ some n.value) × (n.end ≡ end_of 32 l (end + 1)) × (end < n.end) × (n.end ≤ length l) × (n.value < 16 ^ most)

-- a row, and the place behind it
abbrev pub RowAt : Bool → List ℕ → ℕ → Here.Option Row → Type 0
RowAt triples l at Here.None = rows_in triples (fields_from l at) ≡ none
RowAt triples l at (Here.Some r) =
    (rows_in triples (fields_from l at)
    ≡ and_rows (some (record { key = r.key; place = r.place; size = r.size })) (rows_in triples (fields_from l (r.end + 1))))
    × (at < r.end) × (r.end ≤ length l)

-- room for the rows of any line
pub record Lends (ks ps zs : List ℕ) : Type 0 where
  pub keys : length ks ≡ 128
  pub places : length ps ≡ 128
  pub sizes : length zs ≡ 128

-- the entries of keys, places and sizes, side by side
abbrev pub entries_of : List ℕ → List ℕ → List ℕ → List Entry
entries_of (k ∷ ks) (p ∷ ps) (z ∷ zs) = record { key = k; place = p; size = z } ∷ entries_of ks ps zs
entries_of [] ps zs = []
entries_of (k ∷ ks) [] zs = []
entries_of (k ∷ ks) (p ∷ ps) [] = []

-- every place past the rows read is as it was
pub record Past (n : ℕ) (ks ps zs ks' ps' zs' : List ℕ) : Type 0 where
  pub keys : drop n ks' ≡ drop n ks
  pub places : drop n ps' ≡ drop n ps
  pub sizes : drop n zs' ≡ drop n zs

-- the rows read, where they are not malformed
abbrev pub rows_read : Here.Option ℕ → List ℕ → List ℕ → List ℕ → Option (List Entry)
rows_read Here.None ks ps zs = none
rows_read (Here.Some n) ks ps zs = some (entries_of (take n ks) (take n ps) (take n zs))
