-- What is known of the unused slots of a pool, and how that changes where one is taken or released. Assumes nothing.
use Rattle.std.specs.Prelude.{ℕ, suc, ◌+◌, ◌<◌, min, ◌≡◌, List, length}
use Rattle.slots.specs.Nodes.{Held, nodes}
use Rattle.slots.specs.Nodes as S
use Rattle.slots_find.specs.Promises.{Below, Lowest}
use Rattle.model.specs.declared.Settings.{Settings}
use Rattle.tree.specs.Bridge.{unused_of}
use Rattle.tree_spare.specs.declared.Spare.{Spare}

pub record Spared (ns : List S.Node) (x : Spare) : Type 0 where
  pub lowest : Lowest ns x.low
  pub count : x.unused ≡ length (unused_of ns)

-- x was known, and the lowest slot of it was taken since
pub record ToTake (st : Settings) (W : List ℕ) (x : Spare) : Type 0 where
  pub held : Held st W
  pub slot : x.low < st.nodes
  pub below : Below (nodes st W) (x.low + 1)
  pub count : x.unused ≡ suc (length (unused_of (nodes st W)))

-- slot s is unused too
abbrev pub freeing : Spare → ℕ → Spare
freeing x s = record { low = min x.low s; unused = x.unused + 1 }
