-- Both kinds of entry at once: their bytes, one behind the other, and the entries that bytes hold. Assumes nothing.
use mathlib.Core.Path.{◌≡◌, refl, sym, ap, ◌∙◌}
use mathlib.Core.Bool.{true, false, ◌&&◌}
use mathlib.Core.List.{List, [], ◌∷◌, ◌++◌, map, append-nil}
use Prim.Native.Nat.{ℕ, zero, suc, ◌+◌, ◌-◌, ◌*◌, ◌/◌, ◌%◌, ◌≤◌, ◌<◌}
use native.Mathlib.Omega.{arith}
use native.Mathlib.Nat.{suc-mul}
use native.Mathlib.Numerals.{add-one}
use lib.Dec.{ltb, eqb}
use lib.ListN.{length, take, drop, get_or, set, replicate, length-append, length-drop, length-map, get_or-map}
use lib.Seq.{drop-cons, take-nil, take-take, drop-drop, set_at, append_snoc}
use borrow.Author.Tests.{lt-ltb, le-ltb}
use Rattle.slots_raw.proofs.Over.{map_append}
use Rattle.model.specs.Lists.{concat}
use Rattle.model.specs.Frame.{Frame, keys_of, frame_bytes, bytes, line_of, rising}
use Rattle.model.specs.ReadFrame.{field, spelt, leaf_entry, branch, parts, read_rest}
use Rattle.model.proofs.Lists.{concat_append}
use Rattle.model.proofs.Frames.{hex_long}
use Rattle.frame_text.specs.declared.Kind.{Kind}
use Rattle.frame_text.specs.declared.Kind.TheVariants.{Leaf, Interior}
use Rattle.frame_text.specs.declared.FrameEntry.{FrameEntry}
use Rattle.frame_text.specs.declared.Contents.{Contents}
use Rattle.frame_text.specs.Contents.{no_entry, entry_of, of_entry, branch_of, of_branch, first, framed, frame_of, padded, held, contents_of}
use Rattle.frame_text.specs.Digits.{spelled}
use Rattle.frame_text.specs.Entries.{header_of, width_of, start_of, code_of, entry_in, entries_in, rest_of}
use Rattle.frame_text.proofs.Lines.{then_on, spelled_whole}

-- WHERE ENTRIES START

pub start_none : (k : Kind) → start_of k 0 ≡ 1
start_none Leaf = refl
start_none Interior = refl

pub start_up : (k : Kind) (i n : ℕ) → i ≤ n → start_of k i ≤ start_of k n
start_up Leaf i n h = omega arith
start_up Interior i n h = omega arith

-- counted in entries, behind the header
pub start_rest : (k : Kind) (i : ℕ) → start_of k i ≡ 1 + i * width_of k
start_rest Leaf i = omega arith
start_rest Interior i = omega arith

-- as many entries as go into some bytes end within them
pub start_end : (k : Kind) (r : ℕ) → start_of k (r / width_of k) ≤ 1 + r
start_end Leaf r = omega arith
start_end Interior r = omega arith

-- THE FIRST OF SOME PLACES

pub first_long : (n : ℕ) (es : List FrameEntry) → length (first n es) ≡ n
first_long zero es = refl
first_long (suc n) [] = ap suc (first_long n [])
first_long (suc n) (e ∷ es) = ap suc (first_long n es)

pub first_at : (n : ℕ) (es : List FrameEntry) (i : ℕ) → i < n → get_or (first n es) i no_entry ≡ get_or es i no_entry
first_at zero es i h = absurd (omega arith)
first_at (suc n) [] zero h = refl
first_at (suc n) [] (suc i) h = first_at n [] i (omega arith)
first_at (suc n) (e ∷ es) zero h = refl
first_at (suc n) (e ∷ es) (suc i) h = first_at n es i (omega arith)

pub first_more : (n : ℕ) (es : List FrameEntry) → first (suc n) es ≡ first n es ++ (get_or es n no_entry ∷ [])
first_more zero [] = refl
first_more zero (e ∷ es) = refl
first_more (suc n) [] = ap (no_entry ∷◌) (first_more n [])
first_more (suc n) (e ∷ es) = ap (e ∷◌) (first_more n es)

pub first_held : (xs ys : List FrameEntry) → first (length xs) (xs ++ ys) ≡ xs
first_held [] ys = refl
first_held (x ∷ xs) ys = ap (x ∷◌) (first_held xs ys)

-- one place more is filled
pub padded_more : (xs : List FrameEntry) (n : ℕ) (v : FrameEntry) → length xs ≡ n → n < 32 → set (padded xs) n v ≡ padded (xs ++ (v ∷ []))
padded_more xs n v e h =
    let m : 32 - length xs ≡ suc (31 - n) = omega arith in
    let r : 32 - length (xs ++ (v ∷ [])) ≡ 31 - n = omega (arith, length-append xs (v ∷ [])) in
    rw (m, r) (set_at xs no_entry (replicate (31 - n) no_entry) v n e ∙ sym (append_snoc xs v (replicate (31 - n) no_entry)))

-- ASCENDING KEYS

module _ (ks : List ℕ) (i : ℕ) where
  pub rising_end : length ks ≤ i + 1 → rising (drop i ks) ≡ true
  rising_end h = short (drop i ks) (omega (arith, length-drop i ks))
    where
      short : (l : List ℕ) → length l ≤ 1 → rising l ≡ true
      short [] g = refl
      short (x ∷ []) g = refl
      short (x ∷ (y ∷ l)) g = absurd (omega arith)

  pub rising_on : i + 1 < length ks → rising (drop i ks) ≡ (ltb (get_or ks i 0) (get_or ks (i + 1) 0) && rising (drop (i + 1) ks))
  rising_on h = rw (drop-cons ks i 0 (omega arith), ← add-one i, drop-cons ks (i + 1) 0 h) refl

-- KEYS AND BYTES OF A FRAME

pub keys_framed : (k : Kind) (es : List FrameEntry) → keys_of (framed k es) ≡ map (λ e. e.key) es
keys_framed Leaf [] = refl
keys_framed Leaf (e ∷ es) = ap (e.key ∷◌) (keys_framed Leaf es)
keys_framed Interior [] = refl
keys_framed Interior (e ∷ es) = ap (e.key ∷◌) (keys_framed Interior es)

pub key_at_lem : (n : ℕ) (es : List FrameEntry) (i : ℕ) → i < n → get_or (map (λ e. e.key) (first n es)) i 0 ≡ (get_or es i no_entry).key
key_at_lem n es i h = get_or-map (λ e. e.key) (first n es) i no_entry ∙ ap (λ (e : FrameEntry). e.key) (first_at n es i h)

-- the keys of the first n places, compared from place i - 1 on
module _ (n : ℕ) (es : List FrameEntry) (i : ℕ) (h : 1 ≤ i) (g : i < n) where
  abbrev keys : List ℕ
  keys = map (λ e. e.key) (first n es)

  compared : rising (drop (i - 1) keys) ≡ (ltb (get_or es (i - 1) no_entry).key (get_or es i no_entry).key && rising (drop (i + 1 - 1) keys))
  compared =
      let e : i - 1 + 1 ≡ i = omega arith in
      let f : i + 1 - 1 ≡ i = omega arith in
      let long : length keys ≡ n = length-map (first n es) (λ e. e.key) ∙ first_long n es in
      rising_on keys (i - 1) (omega arith) ∙ rw (e, f, key_at_lem n es (i - 1) (omega arith), key_at_lem n es i g) refl

  pub keys_fall : (get_or es i no_entry).key ≤ (get_or es (i - 1) no_entry).key → rising (drop (i - 1) keys) ≡ false
  keys_fall le = compared ∙ rw (le-ltb (get_or es (i - 1) no_entry).key (get_or es i no_entry).key le) refl

  pub keys_rise : (get_or es (i - 1) no_entry).key < (get_or es i no_entry).key → rising (drop (i + 1 - 1) keys) ≡ rising (drop (i - 1) keys)
  keys_rise lt = sym (compared ∙ rw (lt-ltb (get_or es (i - 1) no_entry).key (get_or es i no_entry).key lt) refl)

pub keys_end : (n : ℕ) (es : List FrameEntry) (i : ℕ) → n ≤ i → 1 ≤ i → rising (drop (i - 1) (map (λ e. e.key) (first n es))) ≡ true
keys_end n es i h g = rising_end (map (λ e. e.key) (first n es)) (i - 1) (omega (arith, length-map (first n es) (λ e. e.key), first_long n es))

-- entries one behind the other, and a frame's bytes
abbrev pub codes : Kind → List FrameEntry → List ℕ
codes k es = concat (map (code_of k) es)

pub bytes_framed : (k : Kind) (es : List FrameEntry) → frame_bytes (framed k es) ≡ header_of k ∷ codes k es
bytes_framed Leaf [] = refl
bytes_framed Leaf (e ∷ es) = ap (λ (f : List ℕ). 1 ∷ (code_of Leaf e ++ drop 1 f)) (bytes_framed Leaf es)
bytes_framed Interior [] = refl
bytes_framed Interior (e ∷ es) = ap (λ (f : List ℕ). 0 ∷ (code_of Interior e ++ drop 1 f)) (bytes_framed Interior es)

pub header_bytes : (k : Kind) → bytes 1 (header_of k) ≡ header_of k ∷ []
header_bytes Leaf = refl
header_bytes Interior = refl

pub code_long : (k : Kind) (e : FrameEntry) → length (code_of k e) ≡ width_of k
code_long Leaf e = refl
code_long Interior e = refl

pub codes_long : (k : Kind) (es : List FrameEntry) → length (codes k es) ≡ length es * width_of k
codes_long k [] = omega arith
codes_long k (e ∷ es) = omega (arith, length-append (code_of k e) (codes k es), code_long k e, codes_long k es, suc-mul (length es) (width_of k))

pub codes_first : (k : Kind) (i : ℕ) (es : List FrameEntry) → length (codes k (first i es)) ≡ i * width_of k
codes_first k i es = codes_long k (first i es) ∙ ap (◌* width_of k) (first_long i es)

pub codes_more : (k : Kind) (es : List FrameEntry) (i : ℕ) → codes k (first (i + 1) es) ≡ codes k (first i es) ++ code_of k (get_or es i no_entry)
codes_more k es i =
    let e = get_or es i no_entry in
    rw (add-one i, first_more i es, map_append (code_of k) (first i es) (e ∷ []), concat_append (map (code_of k) (first i es)) (code_of k e ∷ []))
    (ap (codes k (first i es) ++◌) (append-nil (code_of k e)))

-- the kind is known
pub spelled_kind : (k j : Kind) (l m : List ℕ) (a i : ℕ) (e : FrameEntry) → k ≡ j → a ≡ start_of k i → m ≡ spelled l a (width_of j) (code_of j e)
    → m ≡ spelled l (start_of k i) (width_of k) (code_of k e)
spelled_kind k j l m a i e p q h = rw (← q, p) h

pub entry_kind : (k j : Kind) (bs : List ℕ) (a i : ℕ) (r : FrameEntry) → k ≡ j → a ≡ start_of k i → r ≡ entry_in j (drop a bs)
    → r ≡ entry_in k (drop (start_of k i) bs)
entry_kind k j bs a i r p q h = rw (← q, p) h

pub line_long : (c : Contents) → length (line_of (frame_of c)) ≡ 2 * start_of c.kind c.count
line_long c =
    let es = first c.count c.entries in
    hex_long (frame_bytes (frame_of c)) ∙ ap (λ (b : List ℕ). 2 * length b) (bytes_framed c.kind es)
    ∙ omega (arith, codes_first c.kind c.count c.entries, start_rest c.kind c.count)

-- one entry more behind the header
pub put_more : (k : Kind) (es : List FrameEntry) (i : ℕ) (l m o : List ℕ) → 2 ≤ length l → m ≡ spelled l 1 (i * width_of k) (codes k (first i es))
    → o ≡ spelled m (start_of k i) (width_of k) (code_of k (get_or es i no_entry)) → o ≡ spelled l 1 ((i + 1) * width_of k) (codes k (first (i + 1) es))
put_more k es i l m o room p q =
    let e : (i + 1) * width_of k ≡ i * width_of k + width_of k = omega (arith, suc-mul i (width_of k), ap (◌* width_of k) (add-one i)) in
    rw (e, codes_more k es i)
    (then_on l m o 1 (i * width_of k) (width_of k) (codes k (first i es)) (code_of k (get_or es i no_entry)) (omega arith) (codes_first k i es) p
    (rw (← start_rest k i) q))

-- header and entries are the line
pub put_all : (c : Contents) (l m o : List ℕ) → m ≡ spelled l 0 1 (bytes 1 (header_of c.kind))
    → o ≡ spelled m 1 (c.count * width_of c.kind) (codes c.kind (first c.count c.entries))
    → o ≡ line_of (frame_of c) ++ drop (length (line_of (frame_of c))) l
put_all c l m o p q =
    let k = c.kind in
    let body = codes k (first c.count c.entries) in
    let whole : frame_bytes (frame_of c) ≡ header_of k ∷ body = bytes_framed k (first c.count c.entries) in
    then_on l m o 0 1 (c.count * width_of k) (header_of k ∷ []) body (omega arith) refl (p ∙ ap (λ (b : List ℕ). spelled l 0 1 b) (header_bytes k)) q
    ∙ spelled_whole l (1 + c.count * width_of k) (header_of k ∷ body) (ap suc (codes_first k c.count c.entries) ∙ omega arith)
    ∙ rw whole refl

-- THE ENTRIES THAT BYTES HOLD

drop_take : (m n : ℕ) (l : List ℕ) → drop m (take n l) ≡ take (n - m) (drop m l)
drop_take zero n l = let z : n - 0 ≡ n = omega arith in rw z refl
drop_take (suc m) zero l = let z : 0 - suc m ≡ 0 = omega arith in rw z refl
drop_take (suc m) (suc n) [] = sym (take-nil (suc n - suc m))
drop_take (suc m) (suc n) (x ∷ l) = let z : suc n - suc m ≡ n - m = omega arith in rw z (drop_take m n l)

-- a number within the first n bytes
field_take : (a w n : ℕ) (l : List ℕ) → a + w ≤ n → field a w (take n l) ≡ field a w l
field_take a w n l h = ap (spelt 0) (ap (take w) (drop_take a n l) ∙ take-take w (n - a) (drop a l) (omega arith))

-- a number behind a bytes
pub field_drop : (a b w : ℕ) (l : List ℕ) → field b w (drop a l) ≡ field (a + b) w l
field_drop a b w l = ap (λ (s : List ℕ). spelt 0 (take w s)) (drop-drop b a l)

pub entry_take : (k : Kind) (l : List ℕ) → entry_in k (take (width_of k) l) ≡ entry_in k l
entry_take Leaf l = rw (field_take 0 8 20 l (omega arith), field_take 8 8 20 l (omega arith), field_take 16 4 20 l (omega arith))
entry_take Interior l =
    rw (
      field_take 0 8 28 l (omega arith),
      field_take 8 4 28 l (omega arith),
      field_take 12 4 28 l (omega arith),
      field_take 16 4 28 l (omega arith),
      field_take 20 8 28 l (omega arith),
    )

parts_more : (n w : ℕ) (bs : List ℕ) → parts (suc n) w bs ≡ parts n w bs ++ (take w (drop (n * w) bs) ∷ [])
parts_more zero w bs = let z : 0 * w ≡ 0 = omega arith in rw z refl
parts_more (suc n) w bs =
    ap (take w bs ∷◌) (parts_more n w (drop w bs)
    ∙ ap (λ (s : List ℕ). parts n w (drop w bs) ++ (take w s ∷ [])) (drop-drop (n * w) w bs ∙ ap (λ (j : ℕ). drop j bs) (w_more n w)))
  where
    w_more : (n w : ℕ) → w + n * w ≡ suc n * w
    w_more n w = omega (arith, suc-mul n w)

parts_long : (n w : ℕ) (bs : List ℕ) → length (parts n w bs) ≡ n
parts_long zero w bs = refl
parts_long (suc n) w bs = ap suc (parts_long n w (drop w bs))

pub entries_long : (k : Kind) (n : ℕ) (bs : List ℕ) → length (entries_in k n bs) ≡ n
entries_long k n bs = length-map (parts n (width_of k) bs) (entry_in k) ∙ parts_long n (width_of k) bs

-- the entry that starts at its place among all the bytes
pub entries_more : (k : Kind) (i : ℕ) (bs : List ℕ) → entries_in k (i + 1) (drop 1 bs) ≡ entries_in k i (drop 1 bs) ++ (entry_in k (drop (start_of k i) bs) ∷ [])
entries_more k i bs =
    let e : entry_in k (take (width_of k) (drop (i * width_of k) (drop 1 bs))) ≡ entry_in k (drop (start_of k i) bs) =
    entry_take k (drop (i * width_of k) (drop 1 bs)) ∙ ap (entry_in k) (drop-drop (i * width_of k) 1 bs ∙ ap (λ (j : ℕ). drop j bs) (sym (start_rest k i))) in
    ap (λ (n : ℕ). entries_in k n (drop 1 bs)) (add-one i) ∙ ap (map (entry_in k)) (parts_more i (width_of k) (drop 1 bs))
    ∙ map_append (entry_in k) (parts i (width_of k) (drop 1 bs)) (take (width_of k) (drop (i * width_of k) (drop 1 bs)) ∷ [])
    ∙ ap (λ (x : FrameEntry). entries_in k i (drop 1 bs) ++ (x ∷ [])) e

-- THE FRAME THAT BYTES HOLD

abbrev pub framed_in : Kind → List ℕ → Frame
framed_in k bs = framed k (entries_in k (length bs / width_of k) bs)

leaf_both : (ps : List (List ℕ)) → map entry_of (map (entry_in Leaf) ps) ≡ map leaf_entry ps
leaf_both [] = refl
leaf_both (p ∷ ps) = ap (leaf_entry p ∷◌) (leaf_both ps)

branch_both : (ps : List (List ℕ)) → map branch_of (map (entry_in Interior) ps) ≡ map branch ps
branch_both [] = refl
branch_both (p ∷ ps) = ap (branch p ∷◌) (branch_both ps)

pub rest_framed : (k : Kind) (bs : List ℕ) → rest_of k bs ≡ read_rest (eqb (length bs % width_of k) 0) (framed_in k bs)
rest_framed Leaf bs = rw (leaf_both (parts (length bs / 20) 20 bs))
rest_framed Interior bs = rw (branch_both (parts (length bs / 28) 28 bs))

leaf_again : (ps : List (List ℕ)) → map of_entry (map entry_of (map (entry_in Leaf) ps)) ≡ map (entry_in Leaf) ps
leaf_again [] = refl
leaf_again (p ∷ ps) = ap (entry_in Leaf p ∷◌) (leaf_again ps)

branch_again : (ps : List (List ℕ)) → map of_branch (map branch_of (map (entry_in Interior) ps)) ≡ map (entry_in Interior) ps
branch_again [] = refl
branch_again (p ∷ ps) = ap (entry_in Interior p ∷◌) (branch_again ps)

-- what is read holds nothing but what its kind has
pub contents_framed : (k : Kind) (n : ℕ) (bs : List ℕ) → contents_of (framed k (entries_in k n bs)) ≡ held k (entries_in k n bs)
contents_framed Leaf n bs = ap (held Leaf) (leaf_again (parts n 20 bs))
contents_framed Interior n bs = ap (held Interior) (branch_again (parts n 28 bs))

pub frame_held : (k : Kind) (es : List FrameEntry) → frame_of (held k es) ≡ framed k es
frame_held k es = ap (framed k) (first_held es (replicate (32 - length es) no_entry))
