-- What the contracts of the functions on slots ask and say. Assumes nothing.
use Rattle.std.specs.Prelude.{ℕ, ◌+◌, ◌*◌, ◌≤◌, ◌<◌, ◌≡◌, List, length}
use Rattle.model.specs.declared.Settings.{Settings}
use Rattle.model.specs.Sound.{InLimits}
use Rattle.slots_raw.specs.Slots.{head_len, width}

-- the settings are in limits, a slot has room for a node that is about to be split, and W is as long as they say
pub record Shape (st : Settings) (W : List ℕ) : Type 0 where
  pub limits : InLimits st
  pub roomy : 2 * st.order ≤ st.rows
  pub most : st.rows ≤ 64
  pub size : length W ≡ head_len + st.nodes * width st.rows

-- n rows of slot s from row i on can be read and written
pub record ToTouchCells (st : Settings) (W : List ℕ) (s i n : ℕ) : Type 0 where
  pub shape : Shape st W
  pub slot : s < st.nodes
  pub within : i + n ≤ st.rows

-- slot s starts at word b. `small` is what sums of places want
pub record Based (st : Settings) (W : List ℕ) (s b : ℕ) : Type 0 where
  pub start : b ≡ head_len + s * width st.rows
  pub inside : b + width st.rows ≤ length W
  pub small : length W ≤ 4000000
