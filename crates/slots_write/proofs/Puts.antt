-- What replacing words is to the slots of a pool. All sums and products of places that are written end here. Assumes nothing.
use mathlib.Core.Path.{◌≡◌, refl, sym, ap, ◌∙◌}
use Prim.Native.Nat.{ℕ, ◌+◌, ◌*◌, ◌≤◌, ◌<◌}
use native.Mathlib.Omega.{arith}
use mathlib.Core.List.{List, [], ◌∷◌, map}
use lib.ListN.{length, take, drop, get_or, set, replicate, length-drop, length-replicate}
use lib.Seq.{sets, sets-eq}
use Rattle.words_runs.specs.Moves.{brought, cleared}
use Rattle.words.proofs.Laws.{stores, stores_sets}
use Rattle.model.specs.declared.Settings.{Settings}
use Rattle.slots_raw.specs.declared.Row.{Row}
use Rattle.slots_raw.specs.Over.{over, part}
use Rattle.slots_raw.specs.Slots.{chunks, row_of, rows_of, blank, raw_of, seen, viewed, slot_of, width, head_len, slot_head, row_len, slots, raw_at}
use Rattle.slots_write.specs.Puts.{with_kind, with_count, with_cells, put_slot_kind, put_count, put_cells}
use Rattle.slots_raw.specs.Promises.{Shape, ToTouchCells, Based}
use Rattle.slots_write.specs.Promises.{SlotsPut}
use Rattle.slots_raw.proofs.Over.{length_part, length_over, drop_over, take_over, get_d_over, map_over, map_set}
use Rattle.slots_raw.proofs.Chunks.{chunks_over, piece_over}
use Rattle.slots_raw.proofs.Views.{seen_back}
use Rattle.slots_raw.proofs.Raws.{base_of, zero_rows, block, rest, length_block, raw_block, rows_part}

-- words stored one by one are a run replaced
pub stores_over : (vs : List ℕ) (v : ℕ) (l : List ℕ) (p : ℕ) → p + length (v ∷ vs) ≤ length l
    → stores (set l p v) p 1 vs ≡ over l p (length (v ∷ vs)) (v ∷ vs)
unfolding over
stores_over vs v l p h =
    let z : p + 0 ≡ p = omega arith in
    ap (λ (j : ℕ). stores (set l j v) p 1 vs) (sym z)
    ∙ stores_sets (v ∷ vs) l p 0 ∙ ap (λ (j : ℕ). sets l j (v ∷ vs)) z ∙ sets-eq (v ∷ vs) l p h

-- ---- the words of one slot

-- rows are replaced
rows_within : (rows : ℕ) (b : List ℕ) (i n : ℕ) (new : List ℕ) → length b ≡ width rows → i + n ≤ rows → length new ≡ n * row_len
    → raw_of rows (over b (slot_head + i * row_len) (n * row_len) new) ≡ with_cells (raw_of rows b) (over (raw_of rows b).cells i n (rows_of n new))
unfolding raw_of rows_of
rows_within rows b i n new e h k =
    let long : slot_head ≤ length b = omega arith in
    let kind : get_or (over b (slot_head + i * row_len) (n * row_len) new) 0 0 ≡ get_or b 0 0 = get_d_over b slot_head (i * row_len) (n * row_len) new 0 0 long (omega arith) in
    let count : get_or (over b (slot_head + i * row_len) (n * row_len) new) 1 0 ≡ get_or b 1 0 = get_d_over b slot_head (i * row_len) (n * row_len) new 1 0 long (omega arith) in
    let cells : map row_of (chunks row_len (rows) (drop slot_head (over b (slot_head + i * row_len) (n * row_len) new))) ≡ over (map row_of (chunks row_len (rows) (drop slot_head b))) i n (map row_of (chunks row_len n new)) =
    ap (λ (l : List ℕ). map row_of (chunks row_len (rows) l)) (drop_over b slot_head (i * row_len) (n * row_len) new long)
    ∙ ap (map row_of) (chunks_over row_len i n (rows) (drop slot_head b) h (omega (arith, length-drop slot_head b)) new k)
    ∙ map_over row_of (chunks row_len (rows) (drop slot_head b)) i n (chunks row_len n new) in
    λ j. record { kind = kind j; count = count j; cells = cells j }

-- the kind is replaced, by what the tree sees as it
kinded : (st : Settings) (b : List ℕ) (k : ℕ) → slot_of st (over b 0 1 (seen st.root k ∷ [])) ≡ with_kind (slot_of st b) k
unfolding raw_of over
kinded st [] k = ap (with_kind (slot_of st [])) (seen_back st.root k)
kinded st (v ∷ b) k = ap (with_kind (slot_of st (v ∷ b))) (seen_back st.root k)

-- the count is replaced
counted : (st : Settings) (b : List ℕ) (c : ℕ) → 0 < length b → slot_of st (over b 1 1 (c ∷ [])) ≡ with_count (slot_of st b) c
unfolding raw_of over
counted st [] c h = absurd (omega arith)
counted st (v ∷ []) c h = refl
counted st (v ∷ (w ∷ b)) c h = refl

-- ---- slot s of a pool

module _ (st : Settings) (W : List ℕ) (s : ℕ) (sh : Shape st W) (h : s < st.nodes) where
  -- a run of its words is replaced
  block_over : (o n : ℕ) (new : List ℕ) → o + n ≤ width st.rows → length new ≡ n
      → SlotsPut st W (over W (head_len + s * width st.rows + o) n new) (set (slots st W) s (slot_of st (over (block st W s sh h) o n new)))
  unfolding slots block
  block_over o n new k e =
      let b = base_of st W s sh h in
      let S = width st.rows in
      let p : head_len + s * width st.rows + o ≡ head_len + (s * width st.rows + o) = omega arith in
      let long : head_len ≤ length W = omega arith in
      record {
        shape = record { limits = sh.limits; roomy = sh.roomy; most = sh.most; size = length_over W (head_len + s * S + o) n new (omega arith) e ∙ sh.size };
        is = ap (λ (j : ℕ). slots st (over W j n new)) p
            ∙ ap (λ (l : List ℕ). map (slot_of st) (chunks S st.nodes l)) (drop_over W head_len (s * S + o) n new long)
            ∙ ap (map (slot_of st)) (piece_over S st.nodes (drop head_len W) s o n new h (rest st W s sh h) k e)
            ∙ map_set (slot_of st) (chunks S st.nodes (drop head_len W)) s (over (block st W s sh h) o n new);
        header = ap (λ (j : ℕ). take head_len (over W j n new)) p ∙ take_over W head_len (s * S + o) n new long;
      }

  -- ---- what is replaced

  pub kind_over : (b k : ℕ) → b ≡ head_len + s * width st.rows → SlotsPut st W (over W b 1 (seen st.root k ∷ [])) (put_slot_kind st W s k)
  kind_over b k eb =
      let z : b ≡ head_len + s * width st.rows + 0 = omega arith in
      rw (z, raw_block st W s sh h) (rw (kinded st (block st W s sh h) k) at (block_over 0 1 (seen st.root k ∷ []) (omega arith) refl))

  pub count_over : (b c : ℕ) → b ≡ head_len + s * width st.rows → SlotsPut st W (over W (b + 1) 1 (c ∷ [])) (put_count st W s c)
  count_over b c eb =
      rw (eb, raw_block st W s sh h)
      (rw (counted st (block st W s sh h) c (omega (arith, length_block st W s sh h))) at (block_over 1 1 (c ∷ []) (omega arith) refl))

  -- n rows from row i on
  pub rows_over : (b i n : ℕ) (new : List ℕ) → b ≡ head_len + s * width st.rows → i + n ≤ st.rows → length new ≡ n * row_len
      → SlotsPut st W (over W (b + (slot_head + i * row_len)) (n * row_len) new) (put_cells st W s (over (raw_at st W s).cells i n (rows_of n new)))
  rows_over b i n new eb g e =
      rw (eb, raw_block st W s sh h) (rw (ap (viewed st.root) (rows_within st.rows (block st W s sh h) i n new (length_block st W s sh h) g e)) at (block_over (slot_head + i * row_len) (n * row_len) new (omega arith) e))

  -- ---- what the functions of `words` leave

  pub kind_put : (b k : ℕ) → Based st W s b → SlotsPut st W (set W b (seen st.root k)) (put_slot_kind st W s k)
  kind_put b k bs = rw (stores_over [] (seen st.root k) W b (omega arith)) (kind_over b k bs.start)

  pub count_put : (b c : ℕ) → Based st W s b → SlotsPut st W (set W (b + 1) c) (put_count st W s c)
  count_put b c bs = rw (stores_over [] c W (b + 1) (omega arith)) (count_over b c bs.start)

  pub row_put : (b i : ℕ) (r : Row) → Based st W s b → i + 1 ≤ st.rows
      → SlotsPut st W (set (set (set W (b + (slot_head + i * row_len)) r.key) (b + (slot_head + i * row_len) + 1) r.body) (b + (slot_head + i * row_len) + 2) r.size)
      (put_cells st W s (over (raw_at st W s).cells i 1 (r ∷ [])))
  unfolding rows_of chunks
  row_put b i r bs g =
      rw (stores_over (r.body ∷ r.size ∷ []) r.key W (b + (slot_head + i * row_len)) (omega arith))
      (rows_over b i 1 (r.key ∷ r.body ∷ r.size ∷ []) bs.start g refl)

  pub rows_cleared : (b i n : ℕ) → Based st W s b → i + n ≤ st.rows
      → SlotsPut st W (cleared W (b + (slot_head + i * row_len)) (n * row_len)) (put_cells st W s (over (raw_at st W s).cells i n (replicate n blank)))
  unfolding cleared over
  rows_cleared b i n bs g = rw (zero_rows n) at (rows_over b i n (replicate (n * row_len) 0) bs.start g (length-replicate (n * row_len) 0))

-- rows of slot s of some pool, this one or another, go to slot t
pub rows_brought : (su st : Settings) (U W : List ℕ) (s t a b from to n : ℕ) → ToTouchCells su U s from n → ToTouchCells st W t to n → Based su U s a → Based st W t b
    → SlotsPut st W (brought U W (a + (slot_head + from * row_len)) (b + (slot_head + to * row_len)) (n * row_len))
    (put_cells st W t (over (raw_at st W t).cells to n (part (raw_at su U s).cells from n)))
unfolding brought over part
rows_brought su st U W s t a b from to n cs ct ba bb =
    let p = a + (slot_head + from * row_len) in
    rw (rows_part su U s cs.shape cs.slot a from n ba.start cs.within)
    at (rows_over st W t ct.shape ct.slot b to n (part U p (n * row_len)) bb.start ct.within (length_part U p (n * row_len) (omega arith)))
