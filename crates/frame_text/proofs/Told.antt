-- What writing and reading owe in each of their cases. Assumes nothing.
use mathlib.Core.Path.{◌≡◌, refl, sym, ap, subst, ◌∙◌}
use mathlib.Core.Logic.{◌≢◌}
use mathlib.Core.Bool.{true, false}
use mathlib.Core.List.{List, [], ◌∷◌, ◌++◌}
use mathlib.Core.Option.{some}
use Prim.Native.Nat.{ℕ, ◌-◌, ◌*◌, ◌/◌, ◌%◌, ◌≤◌, ◌<◌}
use native.Mathlib.Omega.{arith}
use lib.ListN.{length, drop, length-map, length-drop}
use borrow.Author.Tests.{lt-ltb, le-ltb, eq-eqb, ne_eqb}
use Rattle.std.specs.Prelude.{Result, Ok, Err}
use Rattle.model.specs.declared.Refusal.{Refusal}
use Rattle.model.specs.declared.Refusal.TheVariants as Why
use Rattle.model.specs.Answer.{Answer, refused, done, number}
use Rattle.model.specs.Frame.{Frame, keys_of, line_of, fitted, rising, write_frame}
use Rattle.model.specs.ReadFrame.{field, read_bytes, read_line}
use Rattle.frame_text.specs.declared.Kind.{Kind}
use Rattle.frame_text.specs.declared.Kind.TheVariants.{Leaf, Interior}
use Rattle.frame_text.specs.declared.FrameEntry.{FrameEntry}
use Rattle.frame_text.specs.declared.Contents.{Contents}
use Rattle.frame_text.specs.Contents.{first, framed, frame_of, contents_of, held}
use Rattle.frame_text.specs.Digits.{is_hex, pairs}
use Rattle.frame_text.specs.Entries.{header_of, width_of, start_of, entries_in, rest_of}
use Rattle.frame_text.specs.Answers.{Writes, Reads}
use Rattle.frame_text.proofs.Spelt.{unhex_pairs, pairs_long}
use Rattle.frame_text.proofs.Coded.{start_end, first_long, keys_framed, framed_in, entries_long, rest_framed, contents_framed, frame_held}

-- WRITING

pub write_short : (l : List ℕ) (f : Frame) → length l < length (line_of f) → Writes (fitted (length l) (line_of f)) l (Err Why.LineTooShort) l
write_short l f h = rw (lt-ltb (length l) (length (line_of f)) h) (record { answer = refl; line = refl })

pub write_done : (l m : List ℕ) (f : Frame) (n : ℕ) → length (line_of f) ≤ length l → n ≡ length (line_of f) → m ≡ line_of f ++ drop (length (line_of f)) l
    → Writes (fitted (length l) (line_of f)) l (Ok n) m
write_done l m f n h e g = rw (le-ltb (length l) (length (line_of f)) h) (record { answer = ap done e; line = g })

keys_long : (c : Contents) → length (keys_of (frame_of c)) ≡ c.count
keys_long c =
    ap length (keys_framed c.kind (first c.count c.entries)) ∙ length-map (first c.count c.entries) (λ (e : FrameEntry). e.key)
    ∙ first_long c.count c.entries

pub write_many : (l : List ℕ) (c : Contents) → 32 < c.count → Writes (write_frame (length l) (frame_of c)) l (Err Why.TooManyEntries) l
write_many l c h = rw (lt-ltb 32 (length (keys_of (frame_of c))) (omega (arith, keys_long c))) (record { answer = refl; line = refl })

pub write_fall : (l : List ℕ) (c : Contents) → c.count ≤ 32 → rising (keys_of (frame_of c)) ≡ false
    → Writes (write_frame (length l) (frame_of c)) l (Err Why.KeysNotAscending) l
write_fall l c h e = rw (le-ltb 32 (length (keys_of (frame_of c))) (omega (arith, keys_long c)), e) (record { answer = refl; line = refl })

pub write_on : (room : ℕ) (c : Contents) → c.count ≤ 32 → rising (keys_of (frame_of c)) ≡ true → write_frame room (frame_of c) ≡ fitted room (line_of (frame_of c))
write_on room c h e = rw (le-ltb 32 (length (keys_of (frame_of c))) (omega (arith, keys_long c)), e) refl

-- READING ENTRIES

module _ (k : Kind) (bs : List ℕ) where
  rest_part : length bs % width_of k ≢ 0 → rest_of k bs ≡ refused 10
  rest_part h = rest_framed k bs ∙ rw (ne_eqb (length bs % width_of k) 0 h) refl

  module _ (whole : length bs % width_of k ≡ 0) where
    abbrev many : ℕ
    many = length bs / width_of k

    framed_long : length (keys_of (framed_in k bs)) ≡ many
    framed_long =
        ap length (keys_framed k (entries_in k many bs)) ∙ length-map (entries_in k many bs) (λ (e : FrameEntry). e.key) ∙ entries_long k many bs

    rest_many : 32 < many → rest_of k bs ≡ refused 11
    rest_many h = rest_framed k bs ∙ rw (eq-eqb (length bs % width_of k) 0 whole, lt-ltb 32 (length (keys_of (framed_in k bs))) (omega (arith, framed_long))) refl

    module _ (few : many ≤ 32) where
      rest_fall : rising (keys_of (framed_in k bs)) ≡ false → rest_of k bs ≡ refused 12
      rest_fall e =
          rest_framed k bs
          ∙ rw (eq-eqb (length bs % width_of k) 0 whole, le-ltb 32 (length (keys_of (framed_in k bs))) (omega (arith, framed_long)), e) refl

      rest_done : rising (keys_of (framed_in k bs)) ≡ true → rest_of k bs ≡ done (framed_in k bs)
      rest_done e =
          rest_framed k bs
          ∙ rw (eq-eqb (length bs % width_of k) 0 whole, le-ltb 32 (length (keys_of (framed_in k bs))) (omega (arith, framed_long)), e) refl

-- the same answer by another name
pub read_as : {a b : Answer Frame} (r : Result Contents Refusal) → a ≡ b → Reads b r → Reads a r
read_as r e h = subst (λ (x : Answer Frame). Reads x r) (sym e) h

-- what is refused gives no contents
pub read_refused : {a : Answer Frame} (r : Refusal) → a ≡ refused (number r) → Reads a (Err r)
read_refused r e = record { answer = sym e; zeros = λ c is. absurd cc }

read_done : (k : Kind) (bs : List ℕ) (n : ℕ) (c : Contents) → n ≡ length bs / width_of k → c ≡ held k (entries_in k n bs) → rest_of k bs ≡ done (framed_in k bs)
    → Reads (rest_of k bs) (Ok c)
read_done k bs n c e h g =
    read_as (Ok c) g
    (rw (← e)
    (record {
      answer = ap done (ap frame_of h ∙ frame_held k (entries_in k n bs));
      zeros = λ x is. let same : c ≡ x = cc in
          let whole : c ≡ contents_of (frame_of c) =
          h ∙ sym (contents_framed k n bs) ∙ ap contents_of (sym (ap frame_of h ∙ frame_held k (entries_in k n bs))) in
          subst (λ (y : Contents). y ≡ contents_of (frame_of y)) same whole;
    }))

-- the keys of what was read
keys_read : (k : Kind) (bs : List ℕ) (n : ℕ) (c : Contents) → n ≡ length bs / width_of k → c ≡ held k (entries_in k n bs)
    → keys_of (frame_of c) ≡ keys_of (framed_in k bs)
keys_read k bs n c e h = ap keys_of (ap frame_of h ∙ frame_held k (entries_in k n bs) ∙ ap (λ (m : ℕ). framed k (entries_in k m bs)) e)

-- the bytes behind the header, in the code's numbers
module _ (l : List ℕ) (k : Kind) (w : ℕ) (e : w ≡ width_of k) where
  abbrev bs : List ℕ
  bs = drop 1 (pairs l)

  rest_long : length l / 2 - 1 ≡ length bs
  rest_long = omega (arith, length-drop 1 (pairs l), pairs_long l)

  rest_over : (length l / 2 - 1) % w ≡ length bs % width_of k
  rest_over = ap (◌% w) rest_long ∙ ap (length bs %◌) e

  rest_count : (length l / 2 - 1) / w ≡ length bs / width_of k
  rest_count = ap (◌/ w) rest_long ∙ ap (length bs /◌) e

  pub rest_ends : 2 ≤ length l → 2 * start_of k ((length l / 2 - 1) / w) ≤ length l
  rest_ends h = omega (arith, start_end k (length l / 2 - 1), ap (λ (x : ℕ). start_of k ((length l / 2 - 1) / x)) e)

  pub over_part : (length l / 2 - 1) % w ≢ 0 → rest_of k (drop 1 (pairs l)) ≡ refused 10
  over_part h = rest_part k bs (λ z. h (rest_over ∙ z))

  module _ (whole : (length l / 2 - 1) % w ≡ 0) where
    pub over_many : 32 < (length l / 2 - 1) / w → rest_of k (drop 1 (pairs l)) ≡ refused 11
    over_many h = rest_many k bs (sym rest_over ∙ whole) (omega (arith, rest_count, h))

    module _ (few : (length l / 2 - 1) / w ≤ 32) (c : Contents) (h : c ≡ held k (entries_in k ((length l / 2 - 1) / w) (drop 1 (pairs l)))) where
      keys : keys_of (frame_of c) ≡ keys_of (framed_in k bs)
      keys = keys_read k bs ((length l / 2 - 1) / w) c rest_count h

      pub count_few : c.count ≤ 32
      count_few = omega (arith, ap (λ (x : Contents). x.count) h, entries_long k ((length l / 2 - 1) / w) bs, few)

      pub read_fall : rising (keys_of (frame_of c)) ≡ false → rest_of k (drop 1 (pairs l)) ≡ refused 12
      read_fall g = rest_fall k bs (sym rest_over ∙ whole) (omega (arith, rest_count, few)) (sym (ap rising keys) ∙ g)

      pub read_whole : rising (keys_of (frame_of c)) ≡ true → Reads (rest_of k (drop 1 (pairs l))) (Ok c)
      read_whole g =
          read_done k bs ((length l / 2 - 1) / w) c rest_count h
          (rest_done k bs (sym rest_over ∙ whole) (omega (arith, rest_count, few)) (sym (ap rising keys) ∙ g))

-- READING A LINE

pub line_empty : (s : List ℕ) → length s ≡ 0 → read_line s ≡ refused 8
line_empty [] h = refl
line_empty (x ∷ s) h = absurd (omega arith)

pub line_other : (s : List ℕ) → is_hex s ≡ false → read_line s ≡ refused 9
line_other s h = ap read_bytes (unhex_pairs s) ∙ rw h refl

module _ (s : List ℕ) (hex : is_hex s ≡ true) (some_there : 2 ≤ length s) where
  line_bytes : read_line s ≡ read_bytes (some (pairs s))
  line_bytes = ap read_bytes (unhex_pairs s) ∙ rw hex refl

  -- the first byte is a kind's
  pub line_kind : (k : Kind) → field 0 1 (pairs s) ≡ header_of k → read_line s ≡ rest_of k (drop 1 (pairs s))
  line_kind k e = line_bytes ∙ by k (pairs s) (omega (arith, pairs_long s)) e
    where
      by : (k : Kind) (bs : List ℕ) → 1 ≤ length bs → field 0 1 bs ≡ header_of k → read_bytes (some bs) ≡ rest_of k (drop 1 bs)
      by k [] h q = absurd (omega arith)
      by Leaf (x ∷ bs) h q = rw (eq-eqb x 1 (omega arith)) refl
      by Interior (x ∷ bs) h q = rw (ne_eqb x 1 (λ z. absurd (omega arith)), eq-eqb x 0 (omega arith)) refl

  -- or of neither
  pub line_unknown : ((k : Kind) → field 0 1 (pairs s) ≢ header_of k) → read_line s ≡ refused 13
  line_unknown e = line_bytes ∙ by (pairs s) (omega (arith, pairs_long s)) (e Leaf) (e Interior)
    where
      by : (bs : List ℕ) → 1 ≤ length bs → field 0 1 bs ≢ 1 → field 0 1 bs ≢ 0 → read_bytes (some bs) ≡ refused 13
      by [] h p q = absurd (omega arith)
      by (x ∷ bs) h p q = rw (ne_eqb x 1 (λ z. p (omega arith)), ne_eqb x 0 (λ z. q (omega arith))) refl
