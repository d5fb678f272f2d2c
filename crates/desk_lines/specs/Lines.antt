-- The lines of a text. The last one may lack its line feed, and a text that ends in a line feed has no empty last line. Assumes nothing.
use Rattle.std.specs.Prelude.{ℕ, ◌+◌, cond, List, [], ◌∷◌, length, drop, eqb}

-- a byte put before the first of some lists
abbrev pub onto : ℕ → List (List ℕ) → List (List ℕ)
onto b [] = (b ∷ []) ∷ []
onto b (l ∷ ls) = (b ∷ l) ∷ ls

unfoldable pub lines_of : List ℕ → List (List ℕ)
lines_of [] = []
lines_of (b ∷ bs) = cond (eqb b 10) ([] ∷ lines_of bs) (onto b (lines_of bs))

-- the bytes before the first byte `stop`
unfoldable pub up_to : ℕ → List ℕ → List ℕ
up_to stop [] = []
up_to stop (b ∷ bs) = cond (eqb b stop) [] (b ∷ up_to stop bs)

-- where the byte `stop` next stands, from a place on, or where the text ends
abbrev pub end_of : ℕ → List ℕ → ℕ → ℕ
end_of stop text from = from + length (up_to stop (drop from text))

-- the first line of a text, without its line feed
abbrev pub first_line : List ℕ → List ℕ
first_line text = up_to 10 text
