-- What a line of the desk program asks for: `set` with one or more key, place, size triples, `drop` with one or more keys, or `dump`.
-- Assumes nothing.
use Rattle.std.specs.Prelude.{ℕ, ◌-◌, Bool, true, false, cond, List, [], ◌∷◌, ◌++◌, map, length, drop, replicate, nat_eq}
use Rattle.std.specs.List.{starts_with}
use Rattle.std.specs.Cmp.Lexicographic.{pointwise}
use Rattle.std.proofs.Math.Option.{Option, none, some}
use Rattle.model.specs.declared.Entry.{Entry}
use Rattle.desk_orders.specs.declared.Order.{Order}
use Rattle.desk_orders.specs.declared.Reading.{Reading}
use Rattle.desk_orders.specs.declared.Order.TheVariants as Read
use Rattle.desk_lines.specs.Parts.{Kept, whole, too_long, kept}
use Rattle.desk_rows.specs.Rows.{fields, rows_in}

pub data Wanted : Type 0 where
  set : List Entry → Wanted
  drops : List ℕ → Wanted
  dump : Wanted
  malformed : Wanted

-- ORDERS

-- a line begins with a word
abbrev pub begins : List ℕ → List ℕ → Bool
begins w l = starts_with nat_eq l w

-- it is the word
abbrev pub is_word : List ℕ → List ℕ → Bool
is_word w l = pointwise nat_eq l w

abbrev pub set_word : List ℕ
set_word = 115 ∷ 101 ∷ 116 ∷ 32 ∷ []

abbrev pub drop_word : List ℕ
drop_word = 100 ∷ 114 ∷ 111 ∷ 112 ∷ 32 ∷ []

abbrev pub dump_word : List ℕ
dump_word = 100 ∷ 117 ∷ 109 ∷ 112 ∷ []

abbrev pub setting : Option (List Entry) → Wanted
setting (some es) = set es
setting none = malformed

abbrev pub dropping : Option (List Entry) → Wanted
dropping (some es) = drops (map (λ e. e.key) es)
dropping none = malformed

unfoldable pub asked : List ℕ → Wanted
asked l =
    cond (begins set_word l) (setting (rows_in true (fields (drop 4 l))))
    (cond (begins drop_word l) (dropping (rows_in false (fields (drop 5 l))))
    (cond (is_word dump_word l) dump
    malformed))

-- a line that is too long is malformed, whatever stands in it
abbrev pub ordered : Kept → Wanted
ordered (whole l) = asked l
ordered too_long = malformed

abbrev pub wanted : List ℕ → Wanted
wanted l = ordered (kept l)

-- THE ANSWER OF READING, by value: 128 places for each kind of number, zero past the last that was read

abbrev pub placed : List ℕ → List ℕ
placed xs = xs ++ replicate (128 - length xs) 0

abbrev pub reading : Order → List ℕ → List ℕ → List ℕ → Reading
reading o ks ps zs = record { order = o; keys = placed ks; places = placed ps; sizes = placed zs }

abbrev pub reading_of : Wanted → Reading
reading_of (set es) = reading (Read.Set (length es)) (map (λ e. e.key) es) (map (λ e. e.place) es) (map (λ e. e.size) es)
reading_of (drops ks) = reading (Read.Drop (length ks)) ks [] []
reading_of dump = reading Read.Dump [] [] []
reading_of malformed = reading Read.Malformed [] [] []
