-- Where the bytes of a frame stand in its line, two digits each. Assumes nothing.
use Rattle.std.specs.Prelude.{Bool, true, false, ◌&&◌, List, [], ◌∷◌, ℕ, ◌+◌, ◌*◌}
use Rattle.slots_raw.specs.Over.{over}
use Rattle.model.specs.Frame.{hex}
use Rattle.model.specs.ReadFrame.{value_of, is_digit}

-- WRITING

-- the line l with bs in the place of its n bytes from a on
abbrev pub spelled : List ℕ → ℕ → ℕ → List ℕ → List ℕ
spelled l a n bs = over l (2 * a) (2 * n) (hex bs)

-- READING

-- a line has two digits a byte, and no other byte
abbrev pub is_hex : List ℕ → Bool
is_hex [] = true
is_hex (a ∷ []) = false
is_hex (a ∷ (b ∷ s)) = (is_digit a && is_digit b) && is_hex s

-- the bytes of such a line
abbrev pub pairs : List ℕ → List ℕ
pairs [] = []
pairs (a ∷ []) = []
pairs (a ∷ (b ∷ s)) = (value_of a * 16 + value_of b) ∷ pairs s
