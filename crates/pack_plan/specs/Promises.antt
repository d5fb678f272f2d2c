-- What is asked and promised of the numbers that are worked out before a pool is packed. Assumes nothing.
use Rattle.std.specs.Prelude.{ℕ, ◌+◌, ◌*◌, ◌≤◌, ◌<◌, ◌≡◌}
use Rattle.model_pack.specs.Pack.{capacity}
use Rattle.pack_plan.specs.Plan.{packed_nodes}

-- an order and a height within the limits, so that every capacity fits a word
pub record ToMeasure (o h : ℕ) : Type 0 where
  pub narrow : o ≤ 32
  pub low : h ≤ 7

-- so many entries as a tree of that height can hold
pub record ToCount (o h n : ℕ) : Type 0 where
  pub some : 0 < o
  pub measured : ToMeasure o h
  pub fit : n ≤ capacity o h

-- an entry has at most one node of its own in each level below the root
pub record Counted (o h n r : ℕ) : Type 0 where
  pub nodes : r ≡ packed_nodes o h n
  pub few : r ≤ 1 + 7 * n
