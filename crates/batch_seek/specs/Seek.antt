-- The walk among the children of a node in the pool: whether it goes on. Assumes nothing.
use Rattle.std.specs.Prelude.{ℕ, Bool, ◌&&◌, List, ltb}
use Rattle.batch_effect.specs.Under.{is_due}

-- the next key is due, and of n children there is one from i on
abbrev pub roams : List ℕ → ℕ → ℕ → ℕ → ℕ → Bool
roams ks next ceiling i n = is_due ks next ceiling && ltb i n
