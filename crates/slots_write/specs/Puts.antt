-- The slots of a pool's words with one of them changed. Assumes nothing.
use Rattle.std.specs.Prelude.{ℕ, List, set}
use Rattle.model.specs.declared.Settings.{Settings}
use Rattle.slots_raw.specs.declared.Row.{Row}
use Rattle.slots_raw.specs.Slots.{Raw, slots, raw_at}

-- a slot with another kind, with another count, and with other rows
abbrev pub with_kind : Raw → ℕ → Raw
with_kind r k = record { kind = k; count = r.count; cells = r.cells }

abbrev pub with_count : Raw → ℕ → Raw
with_count r c = record { kind = r.kind; count = c; cells = r.cells }

abbrev pub with_cells : Raw → List Row → Raw
with_cells r l = record { kind = r.kind; count = r.count; cells = l }

-- the slots with slot s so changed
abbrev pub put_slot_kind : Settings → List ℕ → ℕ → ℕ → List Raw
put_slot_kind st W s k = set (slots st W) s (with_kind (raw_at st W s) k)

abbrev pub put_count : Settings → List ℕ → ℕ → ℕ → List Raw
put_count st W s c = set (slots st W) s (with_count (raw_at st W s) c)

abbrev pub put_cells : Settings → List ℕ → ℕ → List Row → List Raw
put_cells st W s l = set (slots st W) s (with_cells (raw_at st W s) l)
