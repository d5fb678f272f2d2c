-- A line may come in parts. What is kept of it: its bytes while there are at most 255, the line feed not counted, and else only that it is too long.
-- Assumes nothing.
use Rattle.std.specs.Prelude.{ℕ, ◌+◌, ◌≡◌, cond, List, ◌++◌, length, take, leb}
use Rattle.desk_text.specs.Texts.{over}

abbrev pub longest : ℕ
longest = 255

pub data Kept : Type 0 where
  whole : List ℕ → Kept
  too_long : Kept

-- of a line that came at once
abbrev pub kept : List ℕ → Kept
kept l = cond (leb (length l) longest) (whole l) too_long

-- and of one more part
abbrev pub joined : Kept → List ℕ → Kept
joined (whole l) part = kept (l ++ part)
joined too_long part = too_long

-- THE PLACE IT IS KEPT IN: 255 bytes and a count; a count above 255 says that the line is too long

pub record Place : Type 0 where
  pub count : ℕ
  pub bytes : List ℕ

abbrev pub held : Place → Kept
held p = cond (leb p.count longest) (whole (take p.count p.bytes)) too_long

-- a part goes behind what is kept, if there is room; else no byte is altered
abbrev pub keeping : Place → List ℕ → Place
keeping p part =
    cond (leb (p.count + length part) longest)
    (record { count = p.count + length part; bytes = over p.count part p.bytes })
    (record { count = 256; bytes = p.bytes })

-- STATEMENTS: what is in the place is what is to be kept, and that is the line, however it was cut
abbrev pub KeepsTheParts : Type 0
KeepsTheParts = (p : Place) (part : List ℕ) → length p.bytes ≡ longest → held (keeping p part) ≡ joined (held p) part

abbrev pub CutAnyhow : Type 0
CutAnyhow = (a b : List ℕ) → joined (kept a) b ≡ kept (a ++ b)
