-- What the contract of the copy between pools asks. Assumes nothing.
use Rattle.std.specs.Prelude.{ℕ, ◌+◌, ◌≤◌, ◌<◌, List, length}
use Rattle.model.specs.declared.Settings.{Settings}
use Rattle.slots.specs.Nodes.{rows_at, Held}

-- n rows of node s of the pool U, from row `from` on, fit behind those of node t of the pool W
pub record ToCopy (st : Settings) (W : List ℕ) (t : ℕ) (su : Settings) (U : List ℕ) (s from n : ℕ) : Type 0 where
  pub held : Held st W
  pub slot : t < st.nodes
  pub room : length (rows_at st W t) + n ≤ st.rows
  pub other : Held su U
  pub theirs : s < su.nodes
  pub has : from + n ≤ length (rows_at su U s)
