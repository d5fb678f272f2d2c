-- Reading a frame: a line of hexadecimal, to a kind and entries, or refusal 8 to 13. Assumes nothing.
use Rattle.std.specs.Prelude.{Bool, true, false, ◌&&◌, cond, List, [], ◌∷◌, map, ℕ, zero, suc, ◌+◌, ◌-◌, ◌*◌, ◌/◌, ◌%◌, length, take, drop, ltb, leb, eqb}
use Rattle.std.proofs.Math.Option.{Option, none, some}
use Rattle.model.specs.declared.Entry.{Entry}
use Rattle.model.specs.Answer.{Answer, refused, unless}
use Rattle.model.specs.Frame.{Branch, Frame, leaf, interior, keys_of, entries_refusal}

-- HEXADECIMAL

-- the value of a digit; 16 of any other byte
abbrev pub value_of : ℕ → ℕ
value_of b = cond (leb 48 b && leb b 57) (b - 48) (cond (leb 97 b && leb b 102) (b - 87) 16)

abbrev pub is_digit : ℕ → Bool
is_digit b = ltb (value_of b) 16

-- one byte more, if it is one and there are bytes behind it
abbrev pub onto : Bool → ℕ → Option (List ℕ) → Option (List ℕ)
onto true x (some xs) = some (x ∷ xs)
onto true x none = none
onto false x xs = none

-- the bytes that a line spells; none where its length is odd or a byte is no digit
abbrev pub unhex : List ℕ → Option (List ℕ)
unhex [] = some []
unhex (a ∷ []) = none
unhex (a ∷ (b ∷ rest)) = onto (is_digit a && is_digit b) (value_of a * 16 + value_of b) (unhex rest)

-- ENTRIES

-- the number that bytes spell behind n, big-endian
abbrev pub spelt : ℕ → List ℕ → ℕ
spelt n [] = n
spelt n (b ∷ bs) = spelt (n * 256 + b) bs

-- the w bytes from a on
abbrev pub field : ℕ → ℕ → List ℕ → ℕ
field a w bs = spelt 0 (take w (drop a bs))

abbrev pub leaf_entry : List ℕ → Entry
leaf_entry bs = record { key = field 0 8 bs; place = field 8 8 bs; size = field 16 4 bs }

abbrev pub branch : List ℕ → Branch
branch bs =
    record { key = field 0 8 bs; child = field 8 4 bs; totals = record { live = field 12 4 bs; dead = field 16 4 bs; size = field 20 8 bs } }

-- n parts of w bytes each
abbrev pub parts : ℕ → ℕ → List ℕ → List (List ℕ)
parts zero w bs = []
parts (suc n) w bs = take w bs ∷ parts n w (drop w bs)

-- FRAMES

abbrev pub leaf_frame : List ℕ → Frame
leaf_frame bs = leaf (map leaf_entry (parts (length bs / 20) 20 bs))

abbrev pub interior_frame : List ℕ → Frame
interior_frame bs = interior (map branch (parts (length bs / 28) 28 bs))

-- refusals 10 to 12, of a rest of so many bytes in entries of so many
abbrev pub read_rest : Bool → Frame → Answer Frame
read_rest whole f = unless (cond whole (entries_refusal (keys_of f)) 10) f

-- an empty line spells no byte; the header is known before the entries are
abbrev pub read_bytes : Option (List ℕ) → Answer Frame
read_bytes none = refused 9
read_bytes (some []) = refused 8
read_bytes (some (h ∷ bs)) =
    cond (eqb h 1) (read_rest (eqb (length bs % 20) 0) (leaf_frame bs))
    (cond (eqb h 0) (read_rest (eqb (length bs % 28) 0) (interior_frame bs))
    (refused 13))

abbrev pub read_line : List ℕ → Answer Frame
read_line s = read_bytes (unhex s)
