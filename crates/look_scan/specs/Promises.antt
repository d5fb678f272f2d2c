-- What a scan's walk asks of the pool and of its output, and the place of a row in it. Assumes nothing.
use Rattle.std.specs.Prelude.{ℕ, suc, ◌+◌, ◌*◌, ◌≤◌, ◌<◌, ◌≡◌, false, List, [], ◌∷◌, length}
use Rattle.slots_raw.specs.declared.Row.{Row}
use Rattle.slots.specs.Nodes.{nodes, Held}
use Rattle.model.specs.declared.Entry.{Entry}
use Rattle.model.specs.declared.Settings.{Settings}
use Rattle.model.specs.declared.Request.{Request}
use Rattle.model.specs.Look.{openings}
use Rattle.tree.specs.Bridge.{row_for, child_of, Holds, tree_at}
use Rattle.look_output.specs.declared.Scanned.{Scanned}
use Rattle.look_scan.specs.Walk.{place_in, openings_of}

-- i is the place of the row that comes after j others, of n
pub record Placed (q : Request) (n j i : ℕ) : Type 0 where
  pub is : i ≡ place_in q.direction n j
  pub inside : i < n

-- WHAT THE WALK ASKS of its output: there is room for so many entries, the listing has not ended, and the nodes opened can be counted
pub record Open (out : List ℕ) (room : ℕ) (w : Scanned) (nodes : List (List Entry)) : Type 0 where
  pub fits : 24 * room ≤ length out
  pub fresh : w.more ≡ false
  pub few : w.opened + length nodes ≤ 16384

-- .. and of the tree: the nodes hold it
pub record ToScan (st : Settings) (W : List ℕ) (h s : ℕ) (q : Request) (out : List ℕ) (room : ℕ) (w : Scanned) : Type 0 where
  pub held : Held st W
  pub tree : Holds (nodes st W) h (tree_at (nodes st W) h s)
  pub ready : Open out room w (openings q h (tree_at (nodes st W) h s))

-- the same of the child that a row names: the row is right
pub record ToEnter (st : Settings) (W : List ℕ) (h : ℕ) (r : Row) (q : Request) (out : List ℕ) (room : ℕ) (w : Scanned) : Type 0 where
  pub held : Held st W
  pub tree : Holds (nodes st W) h (tree_at (nodes st W) h (child_of r))
  pub row : r ≡ row_for (suc h) (tree_at (nodes st W) h (child_of r))
  pub ready : Open out room w (openings_of q h (tree_at (nodes st W) h (child_of r) ∷ []))
