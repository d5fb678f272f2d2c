-- What writing to a slot promises. Assumes nothing.
use Rattle.std.specs.Prelude.{ℕ, ◌≡◌, List}
use Rattle.model.specs.declared.Settings.{Settings}
use Rattle.slots_raw.specs.Slots.{head_in, Raw, slots}
use Rattle.slots_raw.specs.Promises.{Shape}

-- W is W₀ with the slots `rs`
pub record SlotsPut (st : Settings) (W₀ W : List ℕ) (rs : List Raw) : Type 0 where
  pub shape : Shape st W
  pub is : slots st W ≡ rs
  pub header : head_in W ≡ head_in W₀
