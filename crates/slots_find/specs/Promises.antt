-- What looking for a key and for an unused slot asks, and what it promises. Assumes nothing.
use Rattle.std.specs.Prelude.{ℕ, ◌≤◌, ◌<◌, ◌≡◌, ◌≢◌, List, length}
use Rattle.model.specs.declared.Settings.{Settings}
use Rattle.slots_raw.specs.declared.Row.{Row}
use Rattle.slots.specs.Nodes.{unused_kind, Node, Held, nth, rows_at}
use Rattle.std.specs.Prelude.{Result, Ok, Err}
use Rattle.slots_find.specs.Search.{Ascending, find_row}

-- ---- a key

-- node s can be searched
pub record ToSearch (st : Settings) (W : List ℕ) (s : ℕ) : Type 0 where
  pub held : Held st W
  pub slot : s < st.nodes
  pub keys : Ascending (rows_at st W s)

-- a place among l's rows, or after them
abbrev pub Within : List Row → Result ℕ ℕ → Type 0
Within l (Ok i) = i < length l
Within l (Err i) = i ≤ length l

-- r is where key k stands among l's rows
pub record Sought (l : List Row) (k : ℕ) (r : Result ℕ ℕ) : Type 0 where
  pub is : r ≡ find_row k l
  pub within : Within l r

-- ---- an unused slot

-- no slot below `from` is unused
abbrev pub Below : List Node → ℕ → Type 0
Below ns from = (t : ℕ) → t < from → (nth ns t).kind ≢ unused_kind

-- r is the lowest unused slot, or the number of slots
pub record Lowest (ns : List Node) (r : ℕ) : Type 0 where
  pub within : r ≤ length ns
  pub before : Below ns r
  pub here : r < length ns → (nth ns r).kind ≡ unused_kind
