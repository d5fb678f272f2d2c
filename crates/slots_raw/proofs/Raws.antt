-- What reading words is to the slots of a pool. All sums and products of places that are read end here. Assumes nothing.
use mathlib.Core.Path.{◌≡◌, refl, sym, ap, ◌∙◌}
use Prim.Native.Nat.{ℕ, zero, suc, ◌+◌, ◌*◌, ◌≤◌, ◌<◌}
use native.Mathlib.Nat.{suc-mul, mul-le-mul, mul-le-mul_right}
use native.Mathlib.Omega.{arith}
use mathlib.Core.List.{List, [], ◌∷◌, map}
use lib.ListN.{length, take, drop, get_or, replicate, length-drop, get_or-map}
use lib.Seq.{get_or-drop, get_or-take}
use Rattle.model.specs.declared.Settings.{Settings}
use Rattle.slots_raw.specs.declared.Row.{Row}
use Rattle.slots_raw.specs.Over.{part}
use Rattle.slots_raw.specs.Slots.{chunks, row_of, rows_of, blank, Raw, raw_of, seen, slot_of, width, head_len, slot_head, row_len, slots, raw_at}
use Rattle.slots_raw.specs.Promises.{Shape, Based}
use Rattle.slots_raw.proofs.Over.{length_part, get_d_part, part_inside, part_drop, map_part}
use Rattle.slots_raw.proofs.Chunks.{chunks_part, get_d_chunks, piece_room}

-- where slot s starts
pub base_of : (st : Settings) (W : List ℕ) (s : ℕ) → Shape st W → s < st.nodes → Based st W s (head_len + s * width st.rows)
base_of st W s sh h = record {
  start = refl;
  inside = omega (arith, suc-mul s (width st.rows), mul-le-mul_right (width st.rows) h);
  small = omega (arith, mul-le-mul {n₁ = st.nodes} {m₁ = width st.rows} {n₂ = 16384} {m₂ = 194} sh.limits.bounded (omega (arith, sh.most)));
}

-- zero words are blank rows
pub zero_rows : (n : ℕ) → rows_of n (replicate (n * row_len) 0) ≡ replicate n blank
unfolding rows_of chunks
zero_rows zero = refl
zero_rows (suc n) =
    let e : suc n * row_len ≡ suc (suc (suc (n * row_len))) = omega arith in
    rw e (ap (blank ∷◌) (zero_rows n))

-- ---- the words of one slot

-- rows are read
rows_read_lem : (rows : ℕ) (b : List ℕ) (i n : ℕ) → length b ≡ width rows → i + n ≤ rows
    → rows_of n (part (drop slot_head b) (i * row_len) (n * row_len)) ≡ part (raw_of rows b).cells i n
unfolding rows_of raw_of
rows_read_lem rows b i n e g =
    ap (map row_of) (chunks_part row_len i n (rows) (drop slot_head b) g (omega (arith, length-drop slot_head b))) ∙ map_part row_of (chunks row_len (rows) (drop slot_head b)) i n

-- ---- slot s of a pool

module _ (st : Settings) (W : List ℕ) (s : ℕ) (sh : Shape st W) (h : s < st.nodes) where
  -- its words
  unfoldable pub block : List ℕ
  block = get_or (chunks (width st.rows) st.nodes (drop head_len W)) s []

  pub rest : st.nodes * width st.rows ≤ length (drop head_len W)
  rest = omega (arith, length-drop head_len W)

  room : s * width st.rows + width st.rows ≤ length (drop head_len W)
  room = piece_room (width st.rows) st.nodes (drop head_len W) s h rest

  block_part : block ≡ part (drop head_len W) (s * width st.rows) (width st.rows)
  unfolding block
  block_part = get_d_chunks (width st.rows) st.nodes (drop head_len W) s h

  pub length_block : length block ≡ width st.rows
  length_block = ap length block_part ∙ length_part (drop head_len W) (s * width st.rows) (width st.rows) room

  pub raw_block : raw_at st W s ≡ slot_of st block
  unfolding raw_at slots block raw_of seen
  raw_block = get_or-map (slot_of st) (chunks (width st.rows) st.nodes (drop head_len W)) s []

  -- the slot is what its words spell
  pub raw_words : (b : ℕ) → b ≡ head_len + s * width st.rows → raw_at st W s ≡ slot_of st (part W b (width st.rows))
  raw_words b e =
      let S = width st.rows in
      raw_block ∙ ap (slot_of st) (block_part ∙ sym (part_drop W head_len (s * S) S) ∙ ap (λ (j : ℕ). part W j S) (sym e))

  word_at : (o : ℕ) → o < width st.rows → get_or block o 0 ≡ get_or W (head_len + s * width st.rows + o) 0
  word_at o k =
      let S = width st.rows in
      let p : head_len + (s * width st.rows + o) ≡ head_len + s * width st.rows + o = omega arith in
      ap (λ (l : List ℕ). get_or l o 0) block_part
      ∙ get_d_part (drop head_len W) (s * S) S o 0 k ∙ get_or-drop head_len W (s * S + o) 0 ∙ ap (λ (j : ℕ). get_or W j 0) p

  pub kind_at : seen st.root (get_or W (head_len + s * width st.rows) 0) ≡ (raw_at st W s).kind
  unfolding raw_of
  kind_at =
      let z : head_len + s * width st.rows + 0 ≡ head_len + s * width st.rows = omega arith in
      sym (ap (λ (r : Raw). r.kind) raw_block ∙ ap (seen st.root) (word_at 0 (omega arith) ∙ ap (λ (j : ℕ). get_or W j 0) z))

  pub count_at : get_or W (head_len + s * width st.rows + 1) 0 ≡ (raw_at st W s).count
  unfolding raw_of
  count_at = sym (ap (λ (r : Raw). r.count) raw_block ∙ word_at 1 (omega arith))

  -- n rows from row i on
  pub rows_part : (b i n : ℕ) → b ≡ head_len + s * width st.rows → i + n ≤ st.rows
      → rows_of n (part W (b + (slot_head + i * row_len)) (n * row_len)) ≡ part (raw_at st W s).cells i n
  rows_part b i n eb g =
      let S = width st.rows in
      let p : b + (slot_head + i * row_len) ≡ head_len + (s * width st.rows + (slot_head + i * row_len)) = omega arith in
      let words : part W (b + (slot_head + i * row_len)) (n * row_len) ≡ part (drop slot_head block) (i * row_len) (n * row_len) =
      ap (λ (j : ℕ). part W j (n * row_len)) p ∙ part_drop W head_len (s * S + (slot_head + i * row_len)) (n * row_len)
      ∙ part_inside (drop head_len W) (s * S) S (slot_head + i * row_len) (n * row_len) room (omega arith)
      ∙ ap (λ (l : List ℕ). part l (slot_head + i * row_len) (n * row_len)) (sym block_part) ∙ part_drop block slot_head (i * row_len) (n * row_len) in
      ap (rows_of n) words ∙ rows_read_lem st.rows block i n length_block g ∙ ap (λ (r : Raw). part r.cells i n) (sym raw_block)

  -- row i, word by word
  pub row_at : (p i : ℕ) → p ≡ head_len + s * width st.rows + (slot_head + i * row_len) → i < st.rows
      → record { key = get_or W p 0; body = get_or W (p + 1) 0; size = get_or W (p + 2) 0 } ≡ get_or (raw_at st W s).cells i blank
  unfolding rows_of chunks
  row_at p i ep g =
      let z : p + 0 ≡ p = omega arith in
      let z' : i + 0 ≡ i = omega arith in
      let word : (k : ℕ) → k < row_len → get_or W (p + k) 0 ≡ get_or (take row_len (part W p row_len)) k 0 =
      λ k g. sym (get_or-take row_len (part W p row_len) k 0 g ∙ get_d_part W p row_len k 0 g) in
      let first : get_or W p 0 ≡ get_or (take row_len (part W p row_len)) 0 0 = ap (λ (j : ℕ). get_or W j 0) (sym z) ∙ word 0 (omega arith) in
      let second : get_or W (p + 1) 0 ≡ get_or (take row_len (part W p row_len)) 1 0 = word 1 (omega arith) in
      let third : get_or W (p + 2) 0 ≡ get_or (take row_len (part W p row_len)) 2 0 = word 2 (omega arith) in
      let row : record { key = get_or W p 0; body = get_or W (p + 1) 0; size = get_or W (p + 2) 0 } ≡ row_of (take row_len (part W p row_len)) =
      λ j. record { key = first j; body = second j; size = third j } in
      row
      ∙ ap (λ (j : ℕ). row_of (take row_len (part W j row_len))) ep
      ∙ ap (λ (l : List Row). get_or l 0 blank) (rows_part (head_len + s * width st.rows) i 1 refl (omega arith))
      ∙ get_d_part (raw_at st W s).cells i 1 0 blank (omega arith) ∙ ap (λ (j : ℕ). get_or (raw_at st W s).cells j blank) z'
