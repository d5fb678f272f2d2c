-- What a test for zero words tells of rows and of a slot. Assumes nothing.
use mathlib.Core.Path.{◌≡◌, refl, sym, ap, ◌∙◌}
use mathlib.Core.Bool.{true}
use Prim.Native.Nat.{ℕ, zero, suc, ◌+◌, ◌-◌, ◌*◌, ◌≤◌, ◌<◌}
use native.Mathlib.Nat.{sub-zero}
use native.Mathlib.Omega.{arith}
use mathlib.Core.List.{List, [], ◌∷◌}
use lib.ListN.{length, take, drop, replicate}
use lib.Dec.{eqb}
use borrow.Author.Tests.{eqb-true}
use Rattle.words_runs.specs.Moves.{all_zero}
use Rattle.model.specs.declared.Settings.{Settings}
use Rattle.model.proofs.Lists.{both_left, both_right}
use Rattle.slots_raw.specs.Over.{part}
use Rattle.model.specs.Answer.{Tells}
use Rattle.slots_raw.specs.Slots.{rows_of, blank, width, slot_head, row_len, Raw, raw_of, seen, viewed, slot_of, raw_at}
use Rattle.slots_raw.specs.Promises.{Shape, Based}
use Rattle.slots.specs.Nodes.{unused, pad, raw_for}
use Rattle.slots_pool.specs.Image.{flat_rows, block}
use Rattle.slots_raw.proofs.Over.{length_part}
use Rattle.slots_raw.proofs.Views.{viewed_back}
use Rattle.slots_raw.proofs.Raws.{zero_rows, rows_part, raw_words}
use Rattle.slots.proofs.Pads.{last_part}
use Rattle.slots_pool.proofs.Canons.{length_cells}
use Rattle.slots_pool.proofs.Images.{flat_rows_lem, block_back, raw_back}

-- ---- zero words

zeros_of : (l : List ℕ) → all_zero l ≡ true → l ≡ replicate (length l) 0
unfolding all_zero
zeros_of [] e = refl
zeros_of (x ∷ l) e =
    ap (◌∷ l) (eqb-true x 0 (both_left (eqb x 0) (all_zero l) e)) ∙ ap (0 ∷◌) (zeros_of l (both_right (eqb x 0) (all_zero l) e))

all_zeros : (n : ℕ) → all_zero (replicate n 0) ≡ true
unfolding all_zero
all_zeros zero = refl
all_zeros (suc n) = all_zeros n

-- the test of n words tells whether they are n zeros, and so whatever that comes to
tells : (l : List ℕ) (n : ℕ) {A : Type 0} → length l ≡ n → (l ≡ replicate n 0 → A) → (A → l ≡ replicate n 0) → Tells (all_zero l) A
tells l n e f g = record {
  holds = λ t. f (zeros_of l t ∙ ap (λ (j : ℕ). replicate j 0) e);
  told = λ a. ap all_zero (g a) ∙ all_zeros n;
}

-- ---- blank rows and unused slots

flat_blank : (n : ℕ) → flat_rows (replicate n blank) ≡ replicate (n * row_len) 0
unfolding flat_rows
flat_blank zero = refl
flat_blank (suc n) =
    let e : suc n * row_len ≡ suc (suc (suc (n * row_len))) = omega arith in
    rw e (ap (λ (l : List ℕ). 0 ∷ 0 ∷ 0 ∷ l) (flat_blank n))

pub block_unused : (root m : ℕ) → block (viewed root (raw_for m unused)) ≡ replicate (width m) 0
unfolding block raw_for pad seen
block_unused root m =
    let e : width m ≡ suc (suc (m * row_len)) = omega arith in
    rw e (ap (λ (l : List ℕ). 0 ∷ 0 ∷ l) (ap (λ (n : ℕ). flat_rows (replicate n blank)) (sub-zero (m)) ∙ flat_blank (m)))

raw_zeros : (st : Settings) → slot_of st (replicate (width st.rows) 0) ≡ raw_for st.rows unused
raw_zeros st = ap (slot_of st) (sym (block_unused st.root st.rows)) ∙ raw_back st.root st.rows unused (omega arith)

-- ---- the two tests

module _ (st : Settings) (W : List ℕ) (s b : ℕ) (sh : Shape st W) (h : s < st.nodes) (at : Based st W s b) where
  -- the rows from row n on
  pub tail_tells : (n : ℕ) → n ≤ st.rows
      → Tells (all_zero (take ((st.rows - n) * row_len) (drop (b + (slot_head + n * row_len)) W))) (drop n (raw_at st W s).cells ≡ replicate (st.rows - n) blank)
  unfolding part
  tail_tells n g =
      let k = st.rows - n in
      let l = part W (b + (slot_head + n * row_len)) (k * row_len) in
      let size : length l ≡ k * row_len = length_part W (b + (slot_head + n * row_len)) (k * row_len) (omega arith) in
      let rows : rows_of k l ≡ drop n (raw_at st W s).cells =
      rows_part st W s sh h b n k at.start (omega arith) ∙ last_part (raw_at st W s).cells n k (omega (arith, length_cells st W s)) in
      tells l (k * row_len) size (λ z. sym rows ∙ ap (rows_of k) z ∙ zero_rows k) (λ a. sym (flat_rows_lem k l size) ∙ ap flat_rows (rows ∙ a) ∙ flat_blank k)

  -- the whole slot
  pub slot_tells : Tells (all_zero (take (width st.rows) (drop b W))) (raw_at st W s ≡ raw_for st.rows unused)
  unfolding part
  slot_tells =
      let m = st.rows in
      let l = part W b (width m) in
      let size : length l ≡ width m = length_part W b (width m) at.inside in
      let raw : raw_at st W s ≡ slot_of st l = raw_words st W s sh h b at.start in
      tells l (width m) size (λ z. raw ∙ ap (slot_of st) z ∙ raw_zeros st)
      (λ a. sym (block_back m l size) ∙ ap block (sym (viewed_back st.root (raw_of m l)))
      ∙ ap (λ (r : Raw). block (viewed st.root r)) (sym raw ∙ a) ∙ block_unused st.root m)
