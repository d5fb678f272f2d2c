-- What looking for the entry of a rank asks, and where it stands. Assumes nothing.
use Rattle.std.specs.Prelude.{ℕ, suc, ◌+◌, ◌<◌, ◌≡◌, List, ◌++◌, map, length, take, drop, get_or}
use Rattle.slots_raw.specs.declared.Row.{Row}
use Rattle.slots_raw.specs.Slots.{blank}
use Rattle.slots.specs.Nodes.{nodes, rows_at, Held}
use Rattle.model.specs.declared.Entry.{Entry}
use Rattle.model.specs.declared.Settings.{Settings}
use Rattle.model.specs.Tree.{entries}
use Rattle.tree.specs.Bridge.{entry_of, child_of, Holds, tree_at}
use Rattle.tree_rank.specs.declared.Spot.{Spot}
use Rattle.tree_rank.specs.declared.Step.{Step}
use Rattle.tree_rank.specs.Rank.{weight, weights}

-- the interior node in slot s has more than r entries below it
pub record ToStep (st : Settings) (W : List ℕ) (s r : ℕ) : Type 0 where
  pub held : Held st W
  pub slot : s < st.nodes
  pub within : r < weights (rows_at st W s)

-- q is the child of some rows that has entry r, and the entry's rank there: the children before it, `at` of them, have the entries before its own
pub record Stepped (rows : List Row) (r : ℕ) (q : Step) : Type 0 where
  pub at : ℕ
  pub inside : at < length rows
  pub child : q.child ≡ child_of (get_or rows at blank)
  pub before : r ≡ weights (take at rows) + q.rank
  pub within : q.rank < weight (get_or rows at blank)

-- the nodes hold the tree of height h in slot s, which has fewer entries than a row can count, and more than r
pub record ToSpot (st : Settings) (W : List ℕ) (h s r : ℕ) : Type 0 where
  pub held : Held st W
  pub stands : Holds (nodes st W) h (tree_at (nodes st W) h s)
  pub light : length (entries (suc h) (tree_at (nodes st W) h s)) < 1048576
  pub within : r < length (entries (suc h) (tree_at (nodes st W) h s))

-- q is where entry r of es stands: from that row on the leaf's rows are the entries from r on, and others come after them
pub record Spotted (st : Settings) (W : List ℕ) (es : List Entry) (r : ℕ) (q : Spot) : Type 0 where
  pub slot : q.leaf < st.nodes
  pub row : q.row < length (rows_at st W q.leaf)
  pub rest : List Entry
  pub from : drop r es ≡ map entry_of (drop q.row (rows_at st W q.leaf)) ++ rest
