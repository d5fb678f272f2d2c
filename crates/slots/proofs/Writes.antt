-- A slot written three times in a row: what its node is then. Assumes nothing.
use mathlib.Core.Path.{◌≡◌}
use Prim.Native.Nat.{ℕ, ◌+◌, ◌-◌, ◌≤◌, ◌<◌}
use mathlib.Core.List.{List}
use lib.ListN.{length, replicate}
use Rattle.model.specs.declared.Settings.{Settings}
use Rattle.slots_raw.specs.declared.Row.{Row}
use Rattle.slots_raw.specs.Over.{over, part}
use Rattle.slots_raw.specs.Slots.{Raw, raw_at, blank}
use Rattle.slots_write.specs.Puts.{with_count, with_cells, put_count, put_cells}
use Rattle.slots_write.specs.Promises.{SlotsPut}
use Rattle.slots.specs.Nodes.{nodes, rows_at, put_rows, Held, put_in, without}
use Rattle.slots.specs.Promises.{NodesPut}
use Rattle.slots.proofs.Nodes.{again, opened_now, closed_now}

module _ (st : Settings) (W₀ W₁ W₂ W : List ℕ) (s n : ℕ) (h : s < st.nodes) (held : Held st W₀) (en : n ≡ length (rows_at st W₀ s)) where
  -- the rows from i on moved up, the gap filled, and counted
  pub opened_by : (i a : ℕ) (new : List Row) → i ≤ n → length new ≡ a → n + a ≤ st.rows
      → SlotsPut st W₀ W₁ (put_cells st W₀ s (over (raw_at st W₀ s).cells (i + a) (n - i) (part (raw_at st W₀ s).cells i (n - i))))
      → SlotsPut st W₁ W₂ (put_cells st W₁ s (over (raw_at st W₁ s).cells i a new)) → SlotsPut st W₂ W (put_count st W₂ s (n + a))
      → NodesPut st W₀ W (put_rows (nodes st W₀) s (put_in (rows_at st W₀ s) i new))
  opened_by i a new hi ea g moved filled counted =
      let r = raw_at st W₀ s in
      let gap = with_cells r (over r.cells (i + a) (n - i) (part r.cells i (n - i))) in
      let fill : Raw → Raw = λ r. with_cells r (over r.cells i a new) in
      opened_now st W₀ W s n h held en i a new hi ea g
      (again (λ r. with_count r (n + a)) st W₀ W₂ W s (fill gap) h (again fill st W₀ W₁ W₂ s gap h moved filled) counted)

  -- the rows behind those from i on moved down, blank ones set after them, and counted
  pub closed_by : (i a : ℕ) → i + a ≤ n
      → SlotsPut st W₀ W₁ (put_cells st W₀ s (over (raw_at st W₀ s).cells i (n - (i + a)) (part (raw_at st W₀ s).cells (i + a) (n - (i + a)))))
      → SlotsPut st W₁ W₂ (put_cells st W₁ s (over (raw_at st W₁ s).cells (n - a) a (replicate a blank))) → SlotsPut st W₂ W (put_count st W₂ s (n - a))
      → NodesPut st W₀ W (put_rows (nodes st W₀) s (without (rows_at st W₀ s) i a))
  closed_by i a hi moved blanked counted =
      let r = raw_at st W₀ s in
      let down = with_cells r (over r.cells i (n - (i + a)) (part r.cells (i + a) (n - (i + a)))) in
      let blanks : Raw → Raw = λ r. with_cells r (over r.cells (n - a) a (replicate a blank)) in
      closed_now st W₀ W s n h held en i a hi
      (again (λ r. with_count r (n - a)) st W₀ W₂ W s (blanks down) h (again blanks st W₀ W₁ W₂ s down h moved blanked) counted)
