-- The laws of `specs/Words.antt`: how many words a pool has, that they go with `++`, `take` and `drop`, that bytes
-- and words determine each other, and what eight reads or stores are to the words. Assumes nothing.
use mathlib.Core.Path.{◌≡◌, refl, sym, ap, ◌∙◌}
use Prim.Native.Nat.{ℕ, zero, suc, ◌+◌, ◌*◌, ◌/◌, ◌%◌, ◌^◌, ◌≤◌, ◌<◌}
use native.Mathlib.Nat.{le_of_suc-le-suc, not-suc-le-zero, zero-add, suc-add, pow-suc}
use native.Mathlib.Omega.{arith}
use mathlib.Core.List.{List, [], ◌∷◌, ◌++◌}
use Rattle.std.specs.Int.{w64, byte_at, bytes_low_first, to_le_bytes}
use Rattle.std.proofs.Math.Nat.{div-one, div-div-eq-div-mul}
use lib.ListN.{length, take, drop, get_or, set, length-set, length-append, length-drop, take-append-drop}
use lib.Seq.{drop-drop, take-append-le, drop-append-le, take_at, drop_at, length-take-le, set_split, drop-cons, sets, sets-eq, append_snoc, get_or-drop, drop-set-lt}
use Rattle.words.specs.Words.{word, words_n, words, behind, spell, bytes_of, Same}

-- ---- how many words there are

length_words_n : (n : ℕ) (l : List ℕ) → length (words_n n l) ≡ n
unfolding words_n
length_words_n zero l = refl
length_words_n (suc n) l = ap suc (length_words_n n (drop 8 l))

pub length_words : (l : List ℕ) → length (words l) ≡ length l / 8
unfolding words
length_words l = length_words_n (length l / 8) l

-- the bytes of word i stand within l
pub room : (l : List ℕ) (i : ℕ) → i < length (words l) → 8 * i + 8 ≤ length l
room l i h = omega (arith, length_words l)

-- words are fewer than bytes, so that a sum of indices of words fits a usize
pub words_short : (l : List ℕ) → length (words l) ≤ length l
words_short l = omega (arith, length_words l)

-- pools of one length have one number of words
pub words_count : (l m : List ℕ) → length l ≡ length m → length (words l) ≡ length (words m)
words_count l m e = omega (arith, length_words l, length_words m)

-- ---- what a loop over a pool keeps: the pool was l₀ where it began, and is l now

same_next : (l₀ l : List ℕ) → length l ≡ length l₀ → behind l ≡ behind l₀ → Same l₀ l
same_next l₀ l e q = record { bytes = e; count = words_count l l₀ e; small = words_short l₀; rest = q }

pub same_refl : (l : List ℕ) → Same l l
same_refl l = same_next l l refl refl

pub same_then : {l₀ l m : List ℕ} → Same l₀ l → Same l m → Same l₀ m
same_then {l₀} {l} {m} s t = same_next l₀ m (t.bytes ∙ s.bytes) (t.rest ∙ s.rest)

-- ---- words and lists: a cut between two words of the bytes is a cut of the words

pub nil_of_length : (l : List ℕ) → length l ≡ 0 → l ≡ []
nil_of_length [] e = refl
nil_of_length (x ∷ l) e = absurd (omega arith)

words_n_append : (k m : ℕ) (a b : List ℕ) → length a ≡ 8 * k → words_n (k + m) (a ++ b) ≡ words_n k a ++ words_n m b
unfolding words_n
words_n_append zero m a b e = rw (nil_of_length a e, zero-add)
words_n_append (suc k) m a b e =
    let h : 8 ≤ length a = omega arith in
    let e' : length (drop 8 a) ≡ 8 * k = length-drop 8 a ∙ omega arith in
    rw (suc-add, take-append-le 8 a b h, drop-append-le 8 a b h, words_n_append k m (drop 8 a) b e')

pub words_append : (k : ℕ) (a b : List ℕ) → length a ≡ 8 * k → words (a ++ b) ≡ words a ++ words b
unfolding words
words_append k a b e =
    let n : length (a ++ b) / 8 ≡ k + length b / 8 = omega (arith, length-append a b) in
    let n' : length a / 8 ≡ k = omega arith in
    rw (n, n', words_n_append k (length b / 8) a b e)

front_length : (i : ℕ) (l : List ℕ) → 8 * i ≤ length l → length (words (take (8 * i) l)) ≡ i
front_length i l h = omega (arith, length_words (take (8 * i) l), length-take-le (8 * i) l h)

words_cut : (i : ℕ) (l : List ℕ) → 8 * i ≤ length l → words l ≡ words (take (8 * i) l) ++ words (drop (8 * i) l)
words_cut i l h =
    ap words (sym (take-append-drop (8 * i) l)) ∙ words_append i (take (8 * i) l) (drop (8 * i) l) (length-take-le (8 * i) l h)

pub words_take : (i : ℕ) (l : List ℕ) → 8 * i ≤ length l → words (take (8 * i) l) ≡ take i (words l)
words_take i l h = sym (ap (take i) (words_cut i l h) ∙ take_at (words (take (8 * i) l)) (words (drop (8 * i) l)) i (front_length i l h))

pub words_drop : (i : ℕ) (l : List ℕ) → 8 * i ≤ length l → words (drop (8 * i) l) ≡ drop i (words l)
words_drop i l h = sym (ap (drop i) (words_cut i l h) ∙ drop_at (words (take (8 * i) l)) (words (drop (8 * i) l)) i (front_length i l h))

get_d_words_n : (n : ℕ) (l : List ℕ) (i : ℕ) → i < n → get_or (words_n n l) i 0 ≡ word (take 8 (drop (8 * i) l))
unfolding words_n
get_d_words_n zero l i h = absurd (not-suc-le-zero h)
get_d_words_n (suc n) l zero h = refl
get_d_words_n (suc n) l (suc i) h =
    let e : 8 * suc i ≡ 8 + 8 * i = omega arith in
    get_d_words_n n (drop 8 l) i (le_of_suc-le-suc h) ∙ rw (drop-drop, e)

pub get_d_words : (l : List ℕ) (i : ℕ) → i < length (words l) → get_or (words l) i 0 ≡ word (take 8 (drop (8 * i) l))
unfolding words
get_d_words l i h = get_d_words_n (length l / 8) l i (omega (arith, length_words l))

-- ---- one word and its bytes

-- every element is a byte: past the end `get_or` gives 0
abbrev pub Bytes : List ℕ → Type 0
Bytes l = (i : ℕ) → get_or l i 0 < 256

bytes_take : (n : ℕ) (l : List ℕ) → Bytes l → Bytes (take n l)
bytes_take zero l h i = omega arith
bytes_take (suc n) [] h i = omega arith
bytes_take (suc n) (x ∷ l) h zero = h zero
bytes_take (suc n) (x ∷ l) h (suc i) = bytes_take n l (λ j. h (suc j)) i

bytes_drop : (n : ℕ) (l : List ℕ) → Bytes l → Bytes (drop n l)
bytes_drop n l h i = rw (get_or-drop n l i 0) (h (n + i))

length_spell : (n v : ℕ) → length (spell n v) ≡ n
unfolding spell
length_spell zero v = refl
length_spell (suc n) v = ap suc (length_spell n (v / 256))

word_spell : (n v : ℕ) → v < 256 ^ n → word (spell n v) ≡ v
unfolding spell word
word_spell zero v h = omega arith
word_spell (suc n) v h =
    let below : v / 256 < 256 ^ n = omega (arith, pow-suc 256 n) in
    omega (arith, word_spell n (v / 256) below)

spell_word : (l : List ℕ) → Bytes l → spell (length l) (word l) ≡ l
unfolding spell word
spell_word [] h = refl
spell_word (b ∷ l) h =
    let small : b < 256 = h zero in
    let low : (b + 256 * word l) % 256 ≡ b = omega arith in
    let high : (b + 256 * word l) / 256 ≡ word l = omega arith in
    rw (low, high, spell_word l (λ i. h (suc i)))

-- ---- all words and their bytes

-- the bytes of some words
pub length_bytes_of : (ws : List ℕ) → length (bytes_of ws) ≡ 8 * length ws
unfolding bytes_of
length_bytes_of [] = refl
length_bytes_of (w ∷ ws) = length-append (spell 8 w) (bytes_of ws) ∙ omega (arith, length_spell 8 w, length_bytes_of ws)

bytes_of_words_n : (k : ℕ) (l : List ℕ) → length l ≡ 8 * k → Bytes l → bytes_of (words_n k l) ≡ l
unfolding words_n bytes_of
bytes_of_words_n zero l e h = sym (nil_of_length l e)
bytes_of_words_n (suc k) l e h =
    let n : length (take 8 l) ≡ 8 = length-take-le 8 l (omega arith) in
    let first : spell 8 (word (take 8 l)) ≡ take 8 l = ap (λ (m : ℕ). spell m (word (take 8 l))) (sym n) ∙ spell_word (take 8 l) (bytes_take 8 l h) in
    rw (first, bytes_of_words_n k (drop 8 l) (length-drop 8 l ∙ omega arith) (bytes_drop 8 l h), take-append-drop)

-- the bytes are got back from the words
pub bytes_of_words : (k : ℕ) (l : List ℕ) → length l ≡ 8 * k → Bytes l → bytes_of (words l) ≡ l
unfolding words
bytes_of_words k l e h =
    let n : length l / 8 ≡ k = omega arith in
    rw n (bytes_of_words_n k l e h)

-- two pools of one length with the same words are the same pool
pub words_injective : (k : ℕ) (a b : List ℕ) → length a ≡ 8 * k → length b ≡ 8 * k → Bytes a → Bytes b → words a ≡ words b → a ≡ b
words_injective k a b ea eb ha hb e = sym (bytes_of_words k a ea ha) ∙ ap bytes_of e ∙ bytes_of_words k b eb hb

words_nil : words [] ≡ []
unfolding words words_n
words_nil = refl

words_spell : (v : ℕ) → v < 2 ^ 64 → words (spell 8 v) ≡ v ∷ []
unfolding words words_n spell
words_spell v h = ap (λ (w : ℕ). w ∷ []) (word_spell 8 v h)

-- the words are got back from the bytes
spell_bytes : (n v : ℕ) (rest : List ℕ) → Bytes rest → Bytes (spell n v ++ rest)
unfolding spell
spell_bytes zero v rest h i = h i
spell_bytes (suc n) v rest h zero = omega arith
spell_bytes (suc n) v rest h (suc i) = spell_bytes n (v / 256) rest h i

pub bytes_of_bytes : (ws : List ℕ) → Bytes (bytes_of ws)
unfolding bytes_of
bytes_of_bytes [] i = omega arith
bytes_of_bytes (w ∷ ws) i = spell_bytes 8 w (bytes_of ws) (bytes_of_bytes ws) i

pub words_bytes_of : (ws : List ℕ) → ((i : ℕ) → get_or ws i 0 < 2 ^ 64) → words (bytes_of ws) ≡ ws
unfolding bytes_of
words_bytes_of [] h = words_nil
words_bytes_of (w ∷ ws) h =
    words_append 1 (spell 8 w) (bytes_of ws) (length_spell 8 w) ∙ rw (words_spell w (h zero), words_bytes_of ws (λ i. h (suc i)))

-- ---- eight reads are a word, and eight stores set one

-- the n elements from p + k on: at numerals k and n it computes to what code reads at `p + 1`, `p + 2`, ..
abbrev pub reads : List ℕ → ℕ → ℕ → ℕ → List ℕ
reads l p k zero = []
reads l p k (suc n) = get_or l (p + k) 0 ∷ reads l p (k + 1) n

pub take_reads : (n : ℕ) (l : List ℕ) (p k : ℕ) → p + k + n ≤ length l → take n (drop (p + k) l) ≡ reads l p k n
take_reads zero l p k h = refl
take_reads (suc n) l p k h =
    let e : suc (p + k) ≡ p + (k + 1) = omega arith in
    let inside : p + k < length l = omega arith in
    rw (drop-cons l (p + k) 0 inside, e, take_reads n l p (k + 1) (omega arith))

-- `vs` stored one by one from p + k on: at a numeral k and a list that is written out it computes to the code's stores
abbrev pub stores : List ℕ → ℕ → ℕ → List ℕ → List ℕ
stores l p k [] = l
stores l p k (v ∷ vs) = stores (set l (p + k) v) p (k + 1) vs

pub stores_sets : (vs l : List ℕ) (p k : ℕ) → stores l p k vs ≡ sets l (p + k) vs
stores_sets [] l p k = refl
stores_sets (v ∷ vs) l p k =
    let e : suc (p + k) ≡ p + (k + 1) = omega arith in
    stores_sets vs (set l (p + k) v) p (k + 1) ∙ rw e

-- the first is read at `p`, which is not `p + 0`
pub words_read : (l : List ℕ) (i p : ℕ) → i < length (words l) → p ≡ 8 * i → get_or (words l) i 0 ≡ word (get_or l p 0 ∷ reads l p 1 7)
words_read l i p h e =
    let z : p + 0 ≡ p = omega arith in
    let e' : 8 * i ≡ p + 0 = omega arith in
    get_d_words l i h
    ∙ ap (λ (k : ℕ). word (take 8 (drop k l))) e'
    ∙ ap word (take_reads 8 l p 0 (omega (arith, room l i h)))
    ∙ ap (λ (k : ℕ). word (get_or l k 0 ∷ reads l p 1 7)) z

words_set : (l : List ℕ) (i v : ℕ) → i < length (words l) → v < 2 ^ 64 → words (take (8 * i) l ++ spell 8 v ++ drop (8 * suc i) l) ≡ set (words l) i v
words_set l i v h hv =
    let inside : 8 * i + 8 ≤ length l = room l i h in
    let a : length (take (8 * i) l) ≡ 8 * i = length-take-le (8 * i) l (omega arith) in
    let b : length (take (8 * i) l ++ spell 8 v) ≡ 8 * suc i = length-append (take (8 * i) l) (spell 8 v) ∙ omega (arith, length_spell 8 v) in
    let cut = words_append (suc i) (take (8 * i) l ++ spell 8 v) (drop (8 * suc i) l) b in
    rw (cut, words_append i (take (8 * i) l) (spell 8 v) a, words_take i l (omega arith), words_spell v hv, words_drop (suc i) l (omega arith), append_snoc, set_split (words l) i v h)

-- the library's bytes of a number are those that spell it

byte_is : (n i : ℕ) → byte_at i n ≡ n / 256 ^ i % 256
byte_is n zero = ap (λ (m : ℕ). m % 256) (sym (div-one n))
byte_is n (suc i) = refl

spelled_from : (n k i : ℕ) → bytes_low_first i k n ≡ spell k (n / 256 ^ i)
unfolding spell
spelled_from n zero i = refl
spelled_from n (suc k) i =
    let e : n / 256 ^ suc i ≡ n / 256 ^ i / 256 = ap (λ (m : ℕ). n / m) (pow-suc 256 i) ∙ sym (div-div-eq-div-mul n (256 ^ i) 256) in
    rw (byte_is n i, spelled_from n k (suc i), e)

pub spelled : (v : ℕ) → to_le_bytes w64 v ≡ spell 8 v
spelled v = spelled_from v 8 0 ∙ ap (spell 8) (div-one v)

pub words_written : (l : List ℕ) (i p v : ℕ) → i < length (words l) → p ≡ 8 * i → v < 2 ^ 64 → words (stores (set l p (v % 256)) p 1 (spell 7 (v / 256))) ≡ set (words l) i v
unfolding spell
words_written l i p v h e hv =
    let z : p ≡ p + 0 = omega arith in
    let e' : p + 0 ≡ 8 * i = omega arith in
    let n : 8 * i + 8 ≡ 8 * suc i = omega arith in
    ap (λ (k : ℕ). words (stores (set l k (v % 256)) p 1 (spell 7 (v / 256)))) z
    ∙ ap words (stores_sets (spell 8 v) l p 0 ∙ ap (λ (k : ℕ). sets l k (spell 8 v)) e' ∙ sets-eq (spell 8 v) l (8 * i) (room l i h))
    ∙ ap (λ (k : ℕ). words (take (8 * i) l ++ spell 8 v ++ drop k l)) n
    ∙ words_set l i v h hv

-- .. and keep the size and what is behind the words

length_stores : (vs l : List ℕ) (p k : ℕ) → length (stores l p k vs) ≡ length l
length_stores [] l p k = refl
length_stores (v ∷ vs) l p k = length_stores vs (set l (p + k) v) p (k + 1) ∙ length-set l (p + k) v

drop_stores : (n : ℕ) (vs l : List ℕ) (p k : ℕ) → p + k + length vs ≤ n → drop n (stores l p k vs) ≡ drop n l
drop_stores n [] l p k h = refl
drop_stores n (v ∷ vs) l p k h = drop_stores n vs (set l (p + k) v) p (k + 1) (omega arith) ∙ drop-set-lt n l (p + k) v (omega arith)

pub same_written : (l : List ℕ) (i p v : ℕ) → i < length (words l) → p ≡ 8 * i → Same l (stores (set l p (v % 256)) p 1 (spell 7 (v / 256)))
unfolding behind
same_written l i p v h e =
    let vs : List ℕ = spell 7 (v / 256) in
    let m : List ℕ = stores (set l p (v % 256)) p 1 vs in
    let n : ℕ = 8 * (length l / 8) in
    let long : length m ≡ length l = length_stores vs (set l p (v % 256)) p 1 ∙ length-set l p (v % 256) in
    let low : p + 1 + length vs ≤ n = omega (arith, length_spell 7 (v / 256), length_words l) in
    let first : p < n = omega arith in
    same_next l m long
    (ap (λ (k : ℕ). drop (8 * (k / 8)) m) long ∙ drop_stores n vs (set l p (v % 256)) p 1 low ∙ drop-set-lt n l p (v % 256) first)
