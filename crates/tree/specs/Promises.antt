-- What the functions on rows and nodes of a tree ask, what opening a pool promises, and what is known of a pool that is looked into.
-- Assumes nothing.
use Rattle.std.specs.Prelude.{ℕ, ◌+◌, ◌/◌, ◌^◌, ◌≤◌, ◌<◌, List, ◌≡◌, Bool, true, false, length}
use Rattle.slots.specs.Nodes.{Held, rows_at}
use Rattle.model.specs.declared.Settings.{Settings}
use Rattle.model.specs.declared.Totals.{Totals}
use Rattle.model.specs.declared.Limits.{Limits}
use Rattle.model.specs.declared.PoolSettings.{PoolSettings}
use Rattle.model.specs.Forest.{new_forest}
use Rattle.model.specs.Answer.{Tells}
use Rattle.model.specs.Sound.{PoolLimits}
use Rattle.tree.specs.Pool.{pool_len, image_of, settings_in, index_of, SoundPool}
use Rattle.tree.specs.Sums.{Sums}

-- ROWS AND NODES

-- totals whose sums fit their fields
pub record ToAdd (a b : Totals) : Type 0 where
  pub live : a.live + b.live < 2 ^ 32
  pub dead : a.dead + b.dead < 2 ^ 32
  pub size : a.size + b.size < 2 ^ 64

-- a slot and totals that fit a child's row
pub record ToPack (s : ℕ) (t : Totals) : Type 0 where
  pub slot : s < 16384
  pub live : t.live < 1048576
  pub dead : t.dead < 1048576

-- the node of height h in slot s can be weighed
pub record ToWeigh (st : Settings) (W : List ℕ) (h s : ℕ) : Type 0 where
  pub held : Held st W
  pub slot : s < st.nodes
  pub sums : Sums h (rows_at st W s)

-- OPENING

-- the limits of a tree are right: the order is 4 to 32, and the minimum 1 up to (order + 1) / 2 rounded down
pub record LimitsRight (t : Limits) : Type 0 where
  pub wide : 4 ≤ t.order
  pub narrow : t.order ≤ 32
  pub some : 1 ≤ t.minimum
  pub least : t.minimum ≤ (t.order + 1) / 2

-- A pool of the bytes l₀ is opened with some settings: r is the answer, and l are the bytes afterwards.
pub record Opened (given : PoolSettings) (l₀ : List ℕ) (r : Bool) (l : List ℕ) : Type 0 where
  pub answer : Tells r (PoolLimits given × (length l₀ ≡ pool_len given))
  -- the pool of a new forest, whatever it held
  pub new : r ≡ true → l ≡ image_of given (new_forest given.nodes)
  -- no byte changes
  pub kept : r ≡ false → l ≡ l₀

-- LOOKING

-- a sound pool, with the settings and the height of one of its trees. The number of a tree is the slot of its root.
pub record InPool (l : List ℕ) (st : Settings) (height : ℕ) : Type 0 where
  pub sound : SoundPool l
  pub own : st ≡ settings_in l st.root
  pub tall : height ≡ (index_of l st.root).height
