-- A packed tree as it is planned, and the piece that it is built as. Assumes nothing.
use Rattle.std.specs.Prelude.{ℕ, List, length}
use Rattle.model.specs.Tree.{entries_of}
use Rattle.model_pack.specs.Pack.{height_for}
use Rattle.tree.specs.Pool.{settings_in, index_of}
use Rattle.pack_plan.specs.Plan.{packed_nodes}
use Rattle.pack.specs.declared.Piece.{Piece}
use Rattle.index_pack.specs.declared.Plan.{Plan}

-- tree i of the pool l, packed with the order o
abbrev pub plan_for : List ℕ → ℕ → ℕ → Plan
plan_for l i o =
    let n = length (entries_of (index_of l i)) in
    let h = height_for o n in
    record { source = record { settings = settings_in l i; height = (index_of l i).height }; count = n; height = h; nodes = packed_nodes o h n }

-- all of it, with its root in slot s and its other nodes in those from `next` on
abbrev pub piece_of : Plan → ℕ → ℕ → Piece
piece_of p s next = record { height = p.height; slot = s; next = next; from = 0; count = p.count }
