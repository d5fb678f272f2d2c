-- How many nodes a packed tree has, by numbers alone, in the shape of the tree's own definition. Assumes nothing.
use Rattle.std.specs.Prelude.{ℕ, zero, suc, ◌+◌, ◌-◌, min}
use Rattle.model_pack.specs.Pack.{capacity}

-- the sum of f over the pieces of n into which m is cut, the last of them what is left; `most` pieces at most
abbrev pub over_pieces : ℕ → ℕ → (ℕ → ℕ) → ℕ → ℕ
over_pieces zero n f m = 0
over_pieces (suc most) n f zero = 0
over_pieces (suc most) n f (suc m) = f (min n (suc m)) + over_pieces most n f (suc m - n)

-- the nodes of the packed tree of order o and height h over n entries
abbrev pub packed_nodes : ℕ → ℕ → ℕ → ℕ
packed_nodes o zero n = 1
packed_nodes o (suc h) n = 1 + over_pieces o (capacity o h) (packed_nodes o h) n
