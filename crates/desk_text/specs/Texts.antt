-- What the desk program says: `done` and the four counts in decimal, or `refused` and the number, each on a line of its own. Assumes nothing.
use Rattle.std.specs.Prelude.{ℕ, zero, suc, ◌+◌, ◌/◌, ◌%◌, cond, List, [], ◌∷◌, ◌++◌, length, take, drop, ltb}
use Rattle.model.specs.declared.Counts.{Counts}

-- the last of at most so many digits, behind those before it
unfoldable pub decimal_in : ℕ → ℕ → List ℕ
decimal_in zero n = []
decimal_in (suc most) n = cond (ltb n 10) ((48 + n) ∷ []) (decimal_in most (n / 10) ++ ((48 + n % 10) ∷ []))

-- a number in decimal, of as few digits as it has: 20 are enough below 2^64
abbrev pub decimal : ℕ → List ℕ
decimal n = decimal_in 20 n

abbrev pub spaced : ℕ → List ℕ
spaced n = 32 ∷ decimal n

abbrev pub line_feed : List ℕ
line_feed = 10 ∷ []

abbrev pub done_word : List ℕ
done_word = 100 ∷ 111 ∷ 110 ∷ 101 ∷ []

abbrev pub refused_word : List ℕ
refused_word = 114 ∷ 101 ∷ 102 ∷ 117 ∷ 115 ∷ 101 ∷ 100 ∷ []

abbrev pub done_text : Counts → List ℕ
done_text c = done_word ++ spaced c.added ++ spaced c.replaced ++ spaced c.removed ++ spaced c.nothing ++ line_feed

abbrev pub refused_text : ℕ → List ℕ
refused_text n = refused_word ++ spaced n ++ line_feed

-- a text put over the bytes that stand at a place, the others as they were
abbrev pub over : ℕ → List ℕ → List ℕ → List ℕ
over at s bytes = take at bytes ++ s ++ drop (at + length s) bytes
