-- A pool is in order where each of its slots is, and a slot is where its rows fit and those past its count are blank. Assumes nothing.
use mathlib.Core.Path.{◌≡◌, refl, sym, ap, ◌∙◌}
use Prim.Native.Nat.{ℕ, zero, suc, ◌-◌, ◌≤◌, ◌<◌}
use native.Mathlib.Nat.{sub-zero}
use native.Mathlib.Decide.{dec_lt}
use native.Mathlib.Omega.{arith}
use mathlib.Core.List.{List, [], ◌∷◌, ◌++◌}
use lib.ListN.{length, take, drop, get_or, replicate, take-append-drop, length-map, get_or-map, get_or-eq_default}
use lib.Seq.{length-take-le}
use Rattle.model.specs.declared.Settings.{Settings}
use Rattle.slots_raw.specs.Slots.{chunks, row_of, rows_of, blank, width, head_len, slot_head, row_len, Raw, raw_of, seen, slot_of, slots, raw_at}
use Rattle.slots_raw.specs.Promises.{Shape}
use Rattle.slots.specs.Nodes.{unused, node_of, nodes, nth, pad, raw_for, Canon, Held}
use Rattle.slots_raw.proofs.Chunks.{length_chunks}
use Rattle.slots.proofs.Pads.{drop_pad}
use Rattle.slots.proofs.Nodes.{length_slots, node_raw, node_back, canon_for}

-- ---- one slot

-- every slot has room for as many rows as the settings say
pub length_cells : (st : Settings) (W : List ℕ) (s : ℕ) → length (raw_at st W s).cells ≡ st.rows
unfolding raw_at slots raw_of rows_of seen
length_cells st W s =
    let cs = chunks (width st.rows) st.nodes (drop head_len W) in
    ap (λ (r : Raw). length r.cells) (get_or-map (slot_of st) cs s [])
    ∙ length-map (chunks row_len st.rows (drop slot_head (get_or cs s []))) row_of ∙ length_chunks row_len st.rows (drop slot_head (get_or cs s []))

-- a slot whose rows fit, and are blank past its count
pub canon_tail : (st : Settings) (W : List ℕ) (s : ℕ) → (raw_at st W s).count ≤ st.rows
    → drop (raw_at st W s).count (raw_at st W s).cells ≡ replicate (st.rows - (raw_at st W s).count) blank → Canon st.rows (raw_at st W s)
unfolding node_of raw_for pad
canon_tail st W s h e =
    let r = raw_at st W s in
    let n = r.count in
    let m = st.rows in
    let l = take n r.cells in
    let size : length l ≡ n = length-take-le n r.cells (omega (arith, length_cells st W s)) in
    let cells : r.cells ≡ l ++ replicate (m - length l) blank =
    sym (take-append-drop n r.cells) ∙ ap (l ++◌) e ∙ ap (λ (j : ℕ). l ++ replicate (m - j) blank) (sym size) in
    record { fits = omega arith; same = λ j. record { kind = r.kind; count = sym size j; cells = cells j } }

-- and conversely
pub canon_count : (m : ℕ) (r : Raw) → Canon m r → r.count ≤ m
unfolding raw_for
canon_count m r c = omega (arith, c.fits, ap (λ (q : Raw). q.count) c.same)

pub canon_blank : (m : ℕ) (r : Raw) → Canon m r → drop r.count r.cells ≡ replicate (m - r.count) blank
unfolding raw_for
canon_blank m r c =
    let l = (node_of r).rows in
    ap (λ (q : Raw). drop q.count q.cells) c.same
    ∙ drop_pad (m) (length l) l (omega arith) c.fits ∙ ap (λ (q : Raw). replicate (m - q.count) blank) (sym c.same)

-- ---- an unused slot

empty_rows : (n : ℕ) → rows_of n [] ≡ replicate n blank
unfolding rows_of chunks
empty_rows zero = refl
empty_rows (suc n) = ap (blank ∷◌) (empty_rows n)

-- where there are no words, there is an unused slot
pub raw_empty : (m : ℕ) → raw_of m [] ≡ raw_for m unused
unfolding raw_of raw_for pad
raw_empty m =
    let cells : rows_of (m) [] ≡ replicate (m - 0) blank =
    empty_rows (m) ∙ ap (λ (n : ℕ). replicate n blank) (sym (sub-zero (m))) in
    λ j. record { kind = 0; count = 0; cells = cells j }

canon_unused : (m : ℕ) (r : Raw) → r ≡ raw_for m unused → Canon m r
canon_unused m r e = rw e (canon_for m unused (omega arith))

module _ (st : Settings) (W : List ℕ) (s : ℕ) where
  -- a slot of zeros is in order, and is an unused node
  pub canon_zero : raw_at st W s ≡ raw_for st.rows unused → Canon st.rows (raw_at st W s)
  canon_zero = canon_unused st.rows (raw_at st W s)

  pub zero_unused : raw_at st W s ≡ raw_for st.rows unused → nth (nodes st W) s ≡ unused
  zero_unused e = sym (node_raw st W s) ∙ ap node_of e ∙ node_back st.rows unused

-- ---- all slots

-- past the last slot there are unused ones
pub past_raw : (st : Settings) (W : List ℕ) (s : ℕ) → (s < st.nodes → ⊥) → raw_at st W s ≡ raw_for st.rows unused
unfolding raw_at
past_raw st W s h = get_or-eq_default (slots st W) (raw_of st.rows []) (omega (arith, length_slots st W)) ∙ raw_empty st.rows

each_slot : (st : Settings) (W : List ℕ) → ((s : ℕ) → s < st.nodes → Canon st.rows (raw_at st W s)) → (s : ℕ) → Dec (s < st.nodes) → Canon st.rows (raw_at st W s)
each_slot st W c s (yes h) = c s h
each_slot st W c s (no h) = canon_zero st W s (past_raw st W s h)

-- a pool whose slots are in order is
pub held_each : (st : Settings) (W : List ℕ) → Shape st W → ((s : ℕ) → s < st.nodes → Canon st.rows (raw_at st W s)) → Held st W
held_each st W sh c = record { shape = sh; each = λ s. each_slot st W c s (dec_lt s st.nodes) }
