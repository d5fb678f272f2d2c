-- The arrays of a frame have 32 places. Assumes nothing.
use Rattle.std.specs.Prelude.{ℕ, List, map}
use Rattle.model.specs.Lists.{up_from}

-- what stands at each place, by its number
abbrev pub places : {A : Type 0} → (ℕ → A) → List A
places at = map at (up_from 0 32)
