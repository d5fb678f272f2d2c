-- The rows of a line: key, place, size triples, or keys alone. Fields are parted by one space. Assumes nothing.
use Rattle.std.specs.Prelude.{ℕ, zero, suc, ◌+◌, ◌*◌, Bool, true, false, cond, List, [], ◌∷◌, eqb}
use Rattle.std.proofs.Math.Option.{Option, none, some}
use Rattle.model.specs.declared.Entry.{Entry}
use Rattle.model.specs.ReadFrame.{value_of, is_digit}
use Rattle.desk_lines.specs.Lines.{onto}

-- FIELDS

unfoldable pub fields : List ℕ → List (List ℕ)
fields [] = [] ∷ []
fields (b ∷ bs) = cond (eqb b 32) ([] ∷ fields bs) (onto b (fields bs))

-- NUMBERS: lower-case hexadecimal of at most so many digits

-- behind the digits that make v
unfoldable pub digits_from : ℕ → ℕ → List ℕ → Option ℕ
digits_from most v [] = some v
digits_from zero v (b ∷ bs) = none
digits_from (suc most) v (b ∷ bs) = cond (is_digit b) (digits_from most (v * 16 + value_of b) bs) none

-- an empty number is malformed
abbrev pub number : ℕ → List ℕ → Option ℕ
number most [] = none
number most (b ∷ bs) = digits_from most 0 (b ∷ bs)

-- ROWS: a key, place, size triple each, or a key alone

abbrev pub row : Option ℕ → Option ℕ → Option ℕ → Option Entry
row (some k) (some p) (some z) = some (record { key = k; place = p; size = z })
row (some k) (some p) none = none
row (some k) none z = none
row none p z = none

abbrev pub and_rows : Option Entry → Option (List Entry) → Option (List Entry)
and_rows (some e) (some es) = some (e ∷ es)
and_rows (some e) none = none
and_rows none es = none

unfoldable pub rows_in : Bool → List (List ℕ) → Option (List Entry)
rows_in triples [] = some []
rows_in false (k ∷ fs) = and_rows (row (number 16 k) (some 0) (some 0)) (rows_in false fs)
rows_in true (k ∷ []) = none
rows_in true (k ∷ (p ∷ [])) = none
rows_in true (k ∷ (p ∷ (z ∷ fs))) = and_rows (row (number 16 k) (number 16 p) (number 8 z)) (rows_in true fs)
