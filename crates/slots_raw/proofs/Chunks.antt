-- The laws of `chunks`, at any width S: a list of words seen piece by piece. A replaced part within a piece is that piece replaced (`piece_over`).
-- Assumes nothing.
use mathlib.Core.Path.{◌≡◌, refl, sym, ap, ◌∙◌}
use Prim.Native.Nat.{ℕ, zero, suc, ◌+◌, ◌-◌, ◌*◌, ◌≤◌, ◌<◌}
use native.Mathlib.Nat.{suc-mul, add-mul, zero-mul, suc-add, zero-add, not-suc-le-zero, le_of_suc-le-suc, mul-le-mul_right}
use native.Mathlib.Omega.{arith}
use mathlib.Core.List.{List, [], ◌∷◌, ◌++◌}
use lib.ListN.{length, take, drop, get_or, set, length-append, length-drop}
use lib.Seq.{take-append-le, drop-append-le, drop-drop, length-take-le, take_all}
use Rattle.words.proofs.Laws.{nil_of_length}
use Rattle.slots_raw.specs.Over.{over, part}
use Rattle.slots_raw.specs.Slots.{chunks}
use Rattle.slots_raw.proofs.Over.{over_seam, part_seam, split3, over_inside, length_part, length_over, set_over}

module _ (S : ℕ) where
  -- ---- pieces one after the other

  pub length_chunks : (n : ℕ) (l : List ℕ) → length (chunks S n l) ≡ n
  unfolding chunks
  length_chunks zero l = refl
  length_chunks (suc n) l = ap suc (length_chunks n (drop S l))

  -- the pieces of two lists
  pub chunks_append : (k m : ℕ) (a b : List ℕ) → length a ≡ k * S → chunks S (k + m) (a ++ b) ≡ chunks S k a ++ chunks S m b
  unfolding chunks
  chunks_append zero m a b e = rw (nil_of_length a (e ∙ zero-mul S), zero-add)
  chunks_append (suc k) m a b e =
      let h : S ≤ length a = omega (arith, suc-mul k S) in
      let e' : length (drop S a) ≡ k * S = length-drop S a ∙ omega (arith, suc-mul k S) in
      rw (suc-add, take-append-le S a b h, drop-append-le S a b h, chunks_append k m (drop S a) b e')

  -- of three
  chunks3 : (i n k : ℕ) (a b c : List ℕ) → length a ≡ i * S → length b ≡ n * S
      → chunks S (i + n + k) (a ++ b ++ c) ≡ chunks S i a ++ chunks S n b ++ chunks S k c
  chunks3 i n k a b c ea eb =
      let e : length (a ++ b) ≡ (i + n) * S = length-append a b ∙ omega (arith, add-mul i n S) in
      chunks_append (i + n) k (a ++ b) c e ∙ ap (◌++ chunks S k c) (chunks_append i n a b ea)

  -- ---- n pieces from piece i on

  module _ (i n m : ℕ) (l : List ℕ) (h : i + n ≤ m) (g : m * S ≤ length l) where
    fits : i * S + n * S ≤ length l
    fits = omega (arith, add-mul i n S, mul-le-mul_right S h)

    pieces : (new : List ℕ) → length new ≡ n * S
        → chunks S m (take (i * S) l ++ new ++ drop (i * S + n * S) l)
        ≡ chunks S i (take (i * S) l) ++ chunks S n new ++ chunks S (m - (i + n)) (drop (i * S + n * S) l)
    pieces new e =
        let front = take (i * S) l in
        let rest = drop (i * S + n * S) l in
        let m' : m ≡ i + n + (m - (i + n)) = omega arith in
        let t : length (take (i * S) l) ≡ i * S = length-take-le (i * S) l (omega (arith, fits)) in
        ap (λ (j : ℕ). chunks S j (front ++ new ++ rest)) m' ∙ chunks3 i n (m - (i + n)) front new rest t e

    whole : chunks S m l ≡ chunks S i (take (i * S) l) ++ chunks S n (part l (i * S) (n * S)) ++ chunks S (m - (i + n)) (drop (i * S + n * S) l)
    whole = ap (chunks S m) (split3 l (i * S) (n * S)) ∙ pieces (part l (i * S) (n * S)) (length_part l (i * S) (n * S) fits)

    -- they are replaced, and read
    pub chunks_over : (new : List ℕ) → length new ≡ n * S → chunks S m (over l (i * S) (n * S) new) ≡ over (chunks S m l) i n (chunks S n new)
    unfolding over
    chunks_over new e =
        let front = take (i * S) l in
        let mid = part l (i * S) (n * S) in
        let rest = drop (i * S + n * S) l in
        pieces new e
        ∙ sym (ap (λ (r : List (List ℕ)). over r i n (chunks S n new)) whole
        ∙ over_seam (chunks S i front) (chunks S n mid) (chunks S (m - (i + n)) rest) (chunks S n new) i n (length_chunks i front) (length_chunks n mid))

    pub chunks_part : chunks S n (part l (i * S) (n * S)) ≡ part (chunks S m l) i n
    chunks_part =
        let front = take (i * S) l in
        let mid = part l (i * S) (n * S) in
        let rest = drop (i * S + n * S) l in
        sym (ap (λ (r : List (List ℕ)). part r i n) whole
        ∙ part_seam (chunks S i front) (chunks S n mid) (chunks S (m - (i + n)) rest) i n (length_chunks i front) (length_chunks n mid))

  -- ---- piece s

  pub get_d_chunks : (n : ℕ) (l : List ℕ) (s : ℕ) → s < n → get_or (chunks S n l) s [] ≡ part l (s * S) S
  unfolding chunks part
  get_d_chunks zero l s h = absurd (not-suc-le-zero h)
  get_d_chunks (suc n) l zero h = rw (zero-mul S)
  get_d_chunks (suc n) l (suc s) h =
      let e : suc s * S ≡ S + s * S = omega (arith, suc-mul s S) in
      get_d_chunks n (drop S l) s (le_of_suc-le-suc h) ∙ rw (drop-drop, e)

  -- it ends within the list
  pub piece_room : (n : ℕ) (l : List ℕ) (s : ℕ) → s < n → n * S ≤ length l → s * S + S ≤ length l
  piece_room n l s h g = omega (arith, suc-mul s S, mul-le-mul_right S h)

  one_piece : (x : List ℕ) → length x ≡ S → chunks S 1 x ≡ x ∷ []
  unfolding chunks
  one_piece x e = ap (◌∷ []) (take_all S x (omega arith))

  -- THE law: a replaced part within piece s is piece s replaced, and no other
  pub piece_over : (m : ℕ) (l : List ℕ) (s o n : ℕ) (new : List ℕ) → s < m → m * S ≤ length l → o + n ≤ S → length new ≡ n
      → chunks S m (over l (s * S + o) n new) ≡ set (chunks S m l) s (over (get_or (chunks S m l) s []) o n new)
  piece_over m l s o n new h g k e =
      let room : s * S + S ≤ length l = piece_room m l s h g in
      let x = over (part l (s * S) S) o n new in
      let size : length (over (part l (s * S) S) o n new) ≡ S =
      length_over (part l (s * S) S) o n new (omega (arith, length_part l (s * S) S room)) e ∙ length_part l (s * S) S room in
      let one : 1 * S ≡ S = omega arith in
      ap (chunks S m) (over_inside l (s * S) S o n new room k ∙ ap (λ (j : ℕ). over l (s * S) j x) (sym one))
      ∙ chunks_over s 1 m l (omega arith) g x (size ∙ sym one)
      ∙ ap (over (chunks S m l) s 1) (one_piece x size)
      ∙ sym (set_over (chunks S m l) s x (omega (arith, length_chunks m l)))
      ∙ ap (λ (r : List ℕ). set (chunks S m l) s (over r o n new)) (sym (get_d_chunks m l s h))
