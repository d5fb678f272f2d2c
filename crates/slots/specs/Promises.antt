-- What the contracts of the functions on nodes ask and say. Assumes nothing.
use Rattle.std.specs.Prelude.{ℕ, ◌+◌, ◌≤◌, ◌<◌, ◌≡◌, ◌≢◌, List, length}
use Rattle.model.specs.declared.Settings.{Settings}
use Rattle.slots_raw.specs.Slots.{head_in}
use Rattle.slots.specs.Nodes.{Node, unused, nodes, nth, rows_at, Held}

-- ---- what contracts require

-- node s can be read and changed: its slot is one of the pool's
pub record ToTouch (st : Settings) (W : List ℕ) (s : ℕ) : Type 0 where
  pub held : Held st W
  pub slot : s < st.nodes

-- .. and n rows of it from row i on
pub record ToTouchRows (st : Settings) (W : List ℕ) (s i n : ℕ) : Type 0 where
  pub held : Held st W
  pub slot : s < st.nodes
  pub within : i + n ≤ length (rows_at st W s)

-- n more rows fit at place i of node s
pub record ToPutIn (st : Settings) (W : List ℕ) (s i n : ℕ) : Type 0 where
  pub held : Held st W
  pub slot : s < st.nodes
  pub within : i ≤ length (rows_at st W s)
  pub room : length (rows_at st W s) + n ≤ st.rows

-- n rows of node s from row `from` on can go to place i of node t
pub record ToPass (st : Settings) (W : List ℕ) (s from t i n : ℕ) : Type 0 where
  pub held : Held st W
  pub slot : s < st.nodes
  pub slot2 : t < st.nodes
  pub apart : s ≢ t
  pub has : from + n ≤ length (rows_at st W s)
  pub within : i ≤ length (rows_at st W t)
  pub room : length (rows_at st W t) + n ≤ st.rows

-- node s can keep k rows and leave the others to an unused slot
pub record ToSplit (st : Settings) (W : List ℕ) (s new k : ℕ) : Type 0 where
  pub held : Held st W
  pub slot : s < st.nodes
  pub slot2 : new < st.nodes
  pub apart : s ≢ new
  pub free : nth (nodes st W) new ≡ unused
  pub within : k ≤ length (rows_at st W s)

-- a rows of node s fit into node t
pub record ToGive (st : Settings) (W : List ℕ) (s t a : ℕ) : Type 0 where
  pub held : Held st W
  pub slot : s < st.nodes
  pub slot2 : t < st.nodes
  pub apart : s ≢ t
  pub has : a ≤ length (rows_at st W s)
  pub room : length (rows_at st W t) + a ≤ st.rows

-- ---- what contracts ensure

-- r is the number of rows of node s
pub record Counted (st : Settings) (W : List ℕ) (s r : ℕ) : Type 0 where
  pub is : r ≡ length (rows_at st W s)
  pub fits : r ≤ st.rows

-- W is W₀ with the nodes `ns`
pub record NodesPut (st : Settings) (W₀ W : List ℕ) (ns : List Node) : Type 0 where
  pub held : Held st W
  pub is : nodes st W ≡ ns
  pub header : head_in W ≡ head_in W₀
