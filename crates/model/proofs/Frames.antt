-- Reading a frame undoes writing it and writing undoes reading, what is read can be written, and a line is as long as its entries say. Assumes nothing.
use mathlib.Core.Path.{◌≡◌, refl, sym, ap, subst, ◌∙◌}
use mathlib.Core.Bool.{Bool, true, false, ◌&&◌}
use mathlib.Core.List.{List, [], ◌∷◌, ◌++◌, map}
use mathlib.Core.Option.{Option, some, none-ne-some}
use mathlib.Core.Option as O
use Prim.Native.Nat.{ℕ, zero, suc, ◌+◌, ◌-◌, ◌*◌, ◌/◌, ◌%◌, ◌^◌, ◌≤◌, ◌<◌}
use native.Mathlib.Nat.{pow-suc, one-le-pow, div-one, div-div-eq-div-mul, div-add-mod', div-eq_of_lt, div-lt_iff_lt-mul, div-eq_of_eq-mul_left, mul-mod_left}
use native.Mathlib.Omega.{arith}
use lib.Dec.{ltb, leb, eqb}
use lib.ListN.{length, take, drop, length-append, length-take, length-drop, length-map, take-append-drop}
use lib.Seq.{take_all, take_at, drop_at, drop-drop}
use borrow.Author.Tests.{lt-ltb, le-ltb, le-leb, lt-leb, ltb-true, ltb-false, leb-true, eqb-true}
use Rattle.model.specs.declared.Entry.{Entry}
use Rattle.model.specs.Lists.{concat, All, none, one}
use Rattle.model.specs.Answer.{Answer, done}
use Rattle.model.specs.Frame.{Branch, Frame, leaf, interior, keys_of, bytes, leaf_bytes, branch_bytes, frame_bytes, digit, hex, line_of, entries_refusal}
use Rattle.model.specs.ReadFrame.{value_of, is_digit, onto, unhex, spelt, field, leaf_entry, branch, parts, leaf_frame, interior_frame, read_rest, read_bytes, read_line}
use Rattle.model.specs.Sound.{Fits, BranchFits, FrameFits}
use Rattle.model.proofs.Answers.{unless_done, refused_done}
use Rattle.model.proofs.Lists.{by_test, both_left, both_right, all_append, all_take, all_drop}

-- BYTES

abbrev pub Bytes : List ℕ → Type 0
Bytes bs = All (λ b. b < 256) bs

-- A NUMBER IN w BYTES, and the number that bytes spell

pub bytes_long : (w n : ℕ) → length (bytes w n) ≡ w
bytes_long zero n = refl
bytes_long (suc w) n = ap suc (bytes_long w n)

pub bytes_small : (w n : ℕ) → Bytes (bytes w n)
bytes_small zero n = none
bytes_small (suc w) n = let h : n / 256 ^ w % 256 < 256 = omega arith in one h (bytes_small w n)

pub spelt_append : (n : ℕ) (a b : List ℕ) → spelt n (a ++ b) ≡ spelt (spelt n a) b
spelt_append n [] b = refl
spelt_append n (x ∷ a) b = spelt_append (n * 256 + x) a b

one_byte_up : (n w : ℕ) → n / 256 ^ suc w ≡ n / 256 ^ w / 256
one_byte_up n w = ap (n /◌) (pow-suc 256 w) ∙ sym (div-div-eq-div-mul n (256 ^ w) 256)

-- what lies over the last w bytes of n, and these behind it, spell n
pub spelt_behind : (w n : ℕ) → spelt (n / 256 ^ w) (bytes w n) ≡ n
spelt_behind zero n = div-one n
spelt_behind (suc w) n = ap (λ (k : ℕ). spelt k (bytes w n)) (rw one_byte_up (div-add-mod' (n / 256 ^ w) 256)) ∙ spelt_behind w n

pub spelt_bytes : (w n : ℕ) → n < 256 ^ w → spelt 0 (bytes w n) ≡ n
spelt_bytes w n h = ap (λ (k : ℕ). spelt k (bytes w n)) (sym (div-eq_of_lt h)) ∙ spelt_behind w n

-- what stood before the bytes lies over them
pub spelt_over : (n : ℕ) {bs : List ℕ} → Bytes bs → spelt n bs / 256 ^ length bs ≡ n
spelt_over n none = div-one n
spelt_over n (one {x = b} {xs = bs} h hs) =
    one_byte_up (spelt (n * 256 + b) bs) (length bs) ∙ ap (◌/ 256) (spelt_over (n * 256 + b) hs) ∙ omega arith

pub spelt_small : {bs : List ℕ} → Bytes bs → spelt 0 bs < 256 ^ length bs
spelt_small {bs} h =
    let low : spelt 0 bs < 1 * 256 ^ length bs = (div-lt_iff_lt-mul (one-le-pow (length bs) 256 (omega arith))).0 (omega (arith, spelt_over 0 h)) in
    omega arith

bytes_over : (n : ℕ) {bs : List ℕ} → Bytes bs → bytes (length bs) (spelt n bs) ≡ bs
bytes_over n none = refl
bytes_over n (one {x = b} {xs = bs} h hs) = rw (spelt_over (n * 256 + b) hs, bytes_over (n * 256 + b) hs) (ap (◌∷ bs) (omega arith))

pub bytes_spelt : (w : ℕ) {bs : List ℕ} → Bytes bs → length bs ≡ w → bytes w (spelt 0 bs) ≡ bs
bytes_spelt w h e = rw (← e) (bytes_over 0 h)

-- A NUMBER IN ITS PLACE, the w bytes from a on

module _ (a w : ℕ) {bs : List ℕ} (h : Bytes bs) (room : a + w ≤ length bs) where
  field_long : length (take w (drop a bs)) ≡ w
  field_long = omega (arith, length-take w (drop a bs), length-drop a bs)

  pub field_small : field a w bs < 256 ^ w
  field_small = rw field_long at (spelt_small (all_take w (all_drop a h)))

  pub bytes_field : bytes w (field a w bs) ≡ take w (drop a bs)
  bytes_field = bytes_spelt w (all_take w (all_drop a h)) field_long

  -- with all that stands behind it
  pub field_on : (rest : List ℕ) → rest ≡ drop (a + w) bs → bytes w (field a w bs) ++ rest ≡ drop a bs
  field_on rest e = rw (bytes_field, e, ← drop-drop w a bs) (take-append-drop w (drop a bs))

  -- with nothing behind it
  pub field_last : length bs ≤ a + w → bytes w (field a w bs) ≡ drop a bs
  field_last few = bytes_field ∙ take_all w (drop a bs) (omega (arith, length-drop a bs))

-- HEXADECIMAL

pub value_digit : (d : ℕ) → d < 16 → value_of (digit d) ≡ d
value_digit d h = by_test (λ (b : ℕ). value_of b ≡ d) (ltb d 10) (λ q. decimal (ltb-true _ _ q)) (λ q. letter (ltb-false _ _ q))
  where
    decimal : d < 10 → value_of (48 + d) ≡ d
    decimal lt = rw (le-leb 48 (48 + d) (omega arith), le-leb (48 + d) 57 (omega arith)) (omega arith)

    letter : 10 ≤ d → value_of (87 + d) ≡ d
    letter ge =
        rw (
          le-leb 48 (87 + d) (omega arith),
          lt-leb (87 + d) 57 (omega arith),
          le-leb 97 (87 + d) (omega arith),
          le-leb (87 + d) 102 (omega arith),
        )
        (omega arith)

pub digit_value : (b : ℕ) → value_of b < 16 → digit (value_of b) ≡ b
digit_value b =
    by_test Undone (leb 48 b && leb b 57)
    (λ q h. decimal (leb-true _ _ (both_left (leb 48 b) (leb b 57) q)) (leb-true _ _ (both_right (leb 48 b) (leb b 57) q)))
    (λ q. by_test Undone (leb 97 b && leb b 102) (λ p h. letter (leb-true _ _ (both_left (leb 97 b) (leb b 102) p))) (λ p h. absurd (omega arith)))
  where
    Undone : ℕ → Type 0
    Undone d = d < 16 → digit d ≡ b

    decimal : 48 ≤ b → b ≤ 57 → digit (b - 48) ≡ b
    decimal ge le = rw (lt-ltb (b - 48) 10 (omega arith)) (omega arith)

    letter : 97 ≤ b → digit (b - 87) ≡ b
    letter ge = rw (le-ltb (b - 87) 10 (omega arith)) (omega arith)

pub hex_long : (bs : List ℕ) → length (hex bs) ≡ 2 * length bs
hex_long [] = refl
hex_long (b ∷ bs) = omega (arith, hex_long bs)

pub hex_append : (a b : List ℕ) → hex (a ++ b) ≡ hex a ++ hex b
hex_append [] b = refl
hex_append (x ∷ a) b = ap (λ (s : List ℕ). digit (x / 16) ∷ digit (x % 16) ∷ s) (hex_append a b)

pub unhex_hex : {bs : List ℕ} → Bytes bs → unhex (hex bs) ≡ some bs
unhex_hex none = refl
unhex_hex (one {x = b} {xs = bs} h hs) =
    rw (
      value_digit (b / 16) (omega arith),
      value_digit (b % 16) (omega arith),
      lt-ltb (b / 16) 16 (omega arith),
      lt-ltb (b % 16) 16 (omega arith),
      unhex_hex hs,
    )
    (ap (λ (x : ℕ). some (x ∷ bs)) (omega arith))

-- where two bytes of a line and the rest spell bytes, the two are digits and the rest spells bytes
onto_some : (t : Bool) (x : ℕ) (o : Option (List ℕ)) (bs : List ℕ) → onto t x o ≡ some bs → (xs : List ℕ) × (t ≡ true) × (o ≡ some xs) × (x ∷ xs ≡ bs)
onto_some true x (some xs) bs e = (xs, refl, refl, cc)
onto_some true x O.none bs e = absurd (none-ne-some bs e)
onto_some false x o bs e = absurd (none-ne-some bs e)

behind_none : (o : Option (List ℕ)) → o ≡ O.map ([] ++◌) o
behind_none O.none = refl
behind_none (some xs) = refl

behind_one : (t : Bool) (x : ℕ) (o p : Option (List ℕ)) (ys xs : List ℕ) → t ≡ true → x ∷ ys ≡ xs → o ≡ O.map (ys ++◌) p → onto t x o ≡ O.map (xs ++◌) p
behind_one t x o O.none ys xs h q e = rw (h, e)
behind_one t x o (some zs) ys xs h q e = rw (h, e, ← q)

pub unhex_append : (a b : List ℕ) {xs : List ℕ} → unhex a ≡ some xs → unhex (a ++ b) ≡ O.map (xs ++◌) (unhex b)
unhex_append [] b {xs} e = let q : [] ≡ xs = cc in rw (← q) (behind_none (unhex b))
unhex_append (c ∷ []) b {xs} e = absurd (none-ne-some xs e)
unhex_append (c ∷ (d ∷ a)) b {xs} e =
    let (ys, t, rest, q) = onto_some (is_digit c && is_digit d) (value_of c * 16 + value_of d) (unhex a) xs e in
    behind_one (is_digit c && is_digit d) (value_of c * 16 + value_of d) (unhex (a ++ b)) (unhex b) ys xs t q (unhex_append a b rest)

-- what a line spells: bytes, and the line is theirs
pub record Spells (s bs : List ℕ) : Type 0 where
  pub small : Bytes bs
  pub line : hex bs ≡ s

spells_on : (x y c d : ℕ) → x < 16 → y < 16 → digit x ≡ c → digit y ≡ d → {s bs : List ℕ} → Spells s bs → Spells (c ∷ (d ∷ s)) ((x * 16 + y) ∷ bs)
spells_on x y c d hx hy ec ed h =
    let low : x * 16 + y < 256 = omega arith in
    let up : (x * 16 + y) / 16 ≡ x = omega arith in
    let down : (x * 16 + y) % 16 ≡ y = omega arith in
    record { small = one low h.small; line = rw (up, down, ec, ed, h.line) }

pub unhex_spells : (s bs : List ℕ) → unhex s ≡ some bs → Spells s bs
unhex_spells [] bs e = let q : [] ≡ bs = cc in rw (← q) (record { small = none; line = refl })
unhex_spells (a ∷ []) bs e = absurd (none-ne-some bs e)
unhex_spells (a ∷ (b ∷ s)) bs e =
    let (xs, t, rest, q) = onto_some (is_digit a && is_digit b) (value_of a * 16 + value_of b) (unhex s) bs e in
    let ha : value_of a < 16 = ltb-true _ _ (both_left (is_digit a) (is_digit b) t) in
    let hb : value_of b < 16 = ltb-true _ _ (both_right (is_digit a) (is_digit b) t) in
    rw (← q) (spells_on (value_of a) (value_of b) a b ha hb (digit_value a ha) (digit_value b hb) (unhex_spells s xs rest))

pub hex_unhex : (s bs : List ℕ) → unhex s ≡ some bs → hex bs ≡ s
hex_unhex s bs e = (unhex_spells s bs e).line

-- PARTS OF w BYTES EACH

module _ (w : ℕ) where
  pub concat_long : {xs : List (List ℕ)} → All (λ x. length x ≡ w) xs → length (concat xs) ≡ length xs * w
  concat_long none = omega arith
  concat_long (one {x = x} {xs = xs} e es) = omega (arith, length-append x (concat xs), concat_long es)

  pub parts_concat : {xs : List (List ℕ)} → All (λ x. length x ≡ w) xs → parts (length xs) w (concat xs) ≡ xs
  parts_concat none = refl
  parts_concat (one {x = x} {xs = xs} e es) = rw (take_at x (concat xs) w e, drop_at x (concat xs) w e, parts_concat es)

  pub concat_parts : (n : ℕ) (bs : List ℕ) → length bs ≡ n * w → concat (parts n w bs) ≡ bs
  concat_parts zero [] e = refl
  concat_parts zero (b ∷ bs) e = absurd (omega arith)
  concat_parts (suc n) bs e = rw (concat_parts n (drop w bs) (omega (arith, length-drop w bs))) (take-append-drop w bs)

  pub parts_each : (n : ℕ) {bs : List ℕ} → Bytes bs → length bs ≡ n * w → All (λ p. Bytes p × (length p ≡ w)) (parts n w bs)
  parts_each zero h e = none
  parts_each (suc n) {bs} h e = one (all_take w h, omega (arith, length-take w bs)) (parts_each n (all_drop w h) (omega (arith, length-drop w bs)))

-- ENTRIES OF w BYTES EACH

-- X in w bytes: reading undoes writing what is good, writing undoes reading, and what is read is good
pub record Coding (w : ℕ) {X : Type 0} (write : X → List ℕ) (read : List ℕ → X) (Good : X → Type 0) : Type 0 where
  pub long : (x : X) → length (write x) ≡ w
  pub small : (x : X) → Bytes (write x)
  pub again : (x : X) → Good x → read (write x) ≡ x
  pub back : (bs : List ℕ) → Bytes bs → length bs ≡ w → write (read bs) ≡ bs
  pub good : (bs : List ℕ) → Bytes bs → length bs ≡ w → Good (read bs)

module _ {w : ℕ} {X : Type 0} {write : X → List ℕ} {read : List ℕ → X} {Good : X → Type 0} (c : Coding w write read Good) where
  each_long : (xs : List X) → All (λ x. length x ≡ w) (map write xs)
  each_long [] = none
  each_long (x ∷ xs) = one (c.long x) (each_long xs)

  each_again : {xs : List X} → All Good xs → map read (map write xs) ≡ xs
  each_again none = refl
  each_again (one {x = x} g gs) = rw (c.again x g, each_again gs)

  each_back : {ps : List (List ℕ)} → All (λ p. Bytes p × (length p ≡ w)) ps → map write (map read ps) ≡ ps
  each_back none = refl
  each_back (one {x = p} h hs) = rw (c.back p h.0 h.1, each_back hs)

  each_good : {ps : List (List ℕ)} → All (λ p. Bytes p × (length p ≡ w)) ps → All Good (map read ps)
  each_good none = none
  each_good (one {x = p} h hs) = one (c.good p h.0 h.1) (each_good hs)

  pub entries_long : (xs : List X) → length (concat (map write xs)) ≡ length xs * w
  entries_long xs = concat_long w (each_long xs) ∙ ap (◌* w) (length-map xs write)

  pub entries_whole : (xs : List X) → length (concat (map write xs)) % w ≡ 0
  entries_whole xs = rw (entries_long xs) (mul-mod_left (length xs) w)

  pub entries_small : (xs : List X) → Bytes (concat (map write xs))
  entries_small [] = none
  entries_small (x ∷ xs) = all_append (c.small x) (entries_small xs)

  pub entries_again : {xs : List X} → 0 < w → All Good xs → map read (parts (length (concat (map write xs)) / w) w (concat (map write xs))) ≡ xs
  entries_again {xs} pos g = rw (div-eq_of_eq-mul_left pos (concat_long w (each_long xs)), parts_concat w (each_long xs)) (each_again g)

  module _ {bs : List ℕ} (h : Bytes bs) (whole : length bs % w ≡ 0) where
    in_parts : length bs ≡ length bs / w * w
    in_parts = omega (arith, div-add-mod' (length bs) w)

    pub entries_back : concat (map write (map read (parts (length bs / w) w bs))) ≡ bs
    entries_back = rw (each_back (parts_each w (length bs / w) h in_parts)) (concat_parts w (length bs / w) bs in_parts)

    pub entries_good : All Good (map read (parts (length bs / w) w bs))
    entries_good = each_good (parts_each w (length bs / w) h in_parts)

-- THE TWO KINDS OF ENTRY

leaf_again : (e : Entry) → Fits e → leaf_entry (leaf_bytes e) ≡ e
leaf_again e h = rw (spelt_bytes 8 e.key h.key, spelt_bytes 8 e.place h.place, spelt_bytes 4 e.size h.size)

pub leaf_coding : Coding 20 leaf_bytes leaf_entry Fits
leaf_coding =
    record {
      long = λ e. refl;
      small = λ e. all_append (bytes_small 8 e.key) (all_append (bytes_small 8 e.place) (bytes_small 4 e.size));
      again = leaf_again;
      back = λ bs h e. field_on 0 8 h (omega arith) _ (field_on 8 8 h (omega arith) _ (field_last 16 4 h (omega arith) (omega arith)));
      good = λ bs h e. record { key = field_small 0 8 h (omega arith); place = field_small 8 8 h (omega arith); size = field_small 16 4 h (omega arith) };
    }

branch_again : (b : Branch) → BranchFits b → branch (branch_bytes b) ≡ b
branch_again b h =
    rw (
      spelt_bytes 8 b.key h.key,
      spelt_bytes 4 b.child h.child,
      spelt_bytes 4 b.totals.live h.live,
      spelt_bytes 4 b.totals.dead h.dead,
      spelt_bytes 8 b.totals.size h.size,
    )

pub branch_coding : Coding 28 branch_bytes branch BranchFits
branch_coding =
    record {
      long = λ b. refl;
      small = λ b.
          all_append (bytes_small 8 b.key)
          (all_append (bytes_small 4 b.child)
          (all_append (bytes_small 4 b.totals.live) (all_append (bytes_small 4 b.totals.dead) (bytes_small 8 b.totals.size))));
      again = branch_again;
      back = λ bs h e.
          field_on 0 8 h (omega arith) _
          (field_on 8 4 h (omega arith) _
          (field_on 12 4 h (omega arith) _ (field_on 16 4 h (omega arith) _ (field_last 20 8 h (omega arith) (omega arith)))));
      good = λ bs h e. record {
        key = field_small 0 8 h (omega arith);
        child = field_small 8 4 h (omega arith);
        live = field_small 12 4 h (omega arith);
        dead = field_small 16 4 h (omega arith);
        size = field_small 20 8 h (omega arith);
      };
    }

-- FRAMES

pub frame_small : (f : Frame) → Bytes (frame_bytes f)
frame_small (leaf es) = let h : 1 < 256 = omega arith in one h (entries_small leaf_coding es)
frame_small (interior bs) = let h : 0 < 256 = omega arith in one h (entries_small branch_coding bs)

-- reading undoes writing
pub bytes_again : (f : Frame) → FrameFits f → entries_refusal (keys_of f) ≡ 0 → read_bytes (some (frame_bytes f)) ≡ done f
bytes_again (leaf es) h e = rw (entries_whole leaf_coding es, entries_again leaf_coding {xs = es} (omega arith) h, e)
bytes_again (interior bs) h e = rw (entries_whole branch_coding bs, entries_again branch_coding {xs = bs} (omega arith) h, e)

pub read_written : (f : Frame) → FrameFits f → entries_refusal (keys_of f) ≡ 0 → read_line (line_of f) ≡ done f
read_written f h e = ap read_bytes (unhex_hex (frame_small f)) ∙ bytes_again f h e

-- what bytes are read as: the frame whose bytes they are, and it can be written
pub record Reads (bs : List ℕ) (f : Frame) : Type 0 where
  pub written : frame_bytes f ≡ bs
  pub fits : FrameFits f
  pub entries : entries_refusal (keys_of f) ≡ 0

rest_reads : (whole : Bool) (g f : Frame) {bs : List ℕ} → read_rest whole g ≡ done f → (whole ≡ true → (frame_bytes g ≡ bs) × FrameFits g) → Reads bs f
rest_reads true g f {bs} e h =
    let (entries, same) = unless_done (entries_refusal (keys_of g)) g f e in
    subst (Reads bs) same (record { written = (h refl).0; fits = (h refl).1; entries = entries })
rest_reads false g f e h = absurd (refused_done 10 f e)

module _ {bs : List ℕ} (h : Bytes bs) (f : Frame) where
  leaf_reads : read_rest (eqb (length bs % 20) 0) (leaf_frame bs) ≡ done f → Reads (1 ∷ bs) f
  leaf_reads e =
      rest_reads (eqb (length bs % 20) 0) (leaf_frame bs) f e
      (λ t. (ap (1 ∷◌) (entries_back leaf_coding h (eqb-true _ _ t)), entries_good leaf_coding h (eqb-true _ _ t)))

  interior_reads : read_rest (eqb (length bs % 28) 0) (interior_frame bs) ≡ done f → Reads (0 ∷ bs) f
  interior_reads e =
      rest_reads (eqb (length bs % 28) 0) (interior_frame bs) f e
      (λ t. (ap (0 ∷◌) (entries_back branch_coding h (eqb-true _ _ t)), entries_good branch_coding h (eqb-true _ _ t)))

pub bytes_read : {bs : List ℕ} (f : Frame) → Bytes bs → read_bytes (some bs) ≡ done f → Reads bs f
bytes_read f none = λ e. absurd (refused_done 8 f e)
bytes_read f (one {x = x} {xs = bs} h hs) =
    by_test Read (eqb x 1) (λ q e. rw (eqb-true x 1 q) (leaf_reads hs f e))
    (λ p. by_test Read (eqb x 0) (λ q e. rw (eqb-true x 0 q) (interior_reads hs f e)) (λ q e. absurd (refused_done 13 f e)))
  where
    Read : Answer Frame → Type 0
    Read r = r ≡ done f → Reads (x ∷ bs) f

line_read : (s : List ℕ) (f : Frame) → read_line s ≡ done f → (bs : List ℕ) × (hex bs ≡ s) × Reads bs f
line_read s f = go (unhex s) refl
  where
    go : (o : Option (List ℕ)) → unhex s ≡ o → read_bytes o ≡ done f → (bs : List ℕ) × (hex bs ≡ s) × Reads bs f
    go O.none q e = absurd (refused_done 9 f e)
    go (some bs) q e = (bs, hex_unhex s bs q, bytes_read f (unhex_spells s bs q).small e)

-- writing undoes reading
pub write_read : (s : List ℕ) (f : Frame) → read_line s ≡ done f → line_of f ≡ s
write_read s f e = let (bs, line, r) = line_read s f e in ap hex r.written ∙ line

-- what is read can be written
pub read_fits : (s : List ℕ) (f : Frame) → read_line s ≡ done f → FrameFits f × (entries_refusal (keys_of f) ≡ 0)
read_fits s f e = let (bs, line, r) = line_read s f e in (r.fits, r.entries)
