-- Rows with blank rows after them, as a slot holds them: a gap opened and filled, a gap closed, and a row replaced. Assumes nothing.
use mathlib.Core.Path.{◌≡◌, sym, ap, ◌∙◌}
use Prim.Native.Nat.{ℕ, ◌+◌, ◌-◌, ◌≤◌, ◌<◌}
use native.Mathlib.Omega.{arith}
use mathlib.Core.List.{List, [], ◌∷◌, ◌++◌, append_assoc}
use lib.ListN.{length, take, drop, set, replicate, length-append, length-drop, length-set, length-replicate, replicate-append-replicate}
use lib.Seq.{take-append-le, drop-append-le, drop-append-add, take_at, drop_at, drop-drop, length-take-le, take-take, take_all, set-append_left}
use Rattle.slots_raw.specs.declared.Row.{Row}
use Rattle.slots_raw.specs.Over.{over, part}
use Rattle.slots_raw.specs.Slots.{blank}
use Rattle.slots.specs.Nodes.{pad, put_in, without}
use Rattle.slots_raw.proofs.Over.{set_over, length_part, drop_replicate}

-- ---- rows and blank rows

pub length_pad : (m : ℕ) (l : List Row) → length l ≤ m → length (pad m l) ≡ m
unfolding pad
length_pad m l h = length-append l (replicate (m - length l) blank) ∙ omega (arith, length-replicate (m - length l) blank)

pub take_pad : (m i : ℕ) (l : List Row) → i ≤ length l → take i (pad m l) ≡ take i l
unfolding pad
take_pad m i l h = take-append-le i l (replicate (m - length l) blank) h

pub part_pad : (m i k : ℕ) (l : List Row) → i + k ≤ length l → part (pad m l) i k ≡ part l i k
unfolding pad part
part_pad m i k l h =
    ap (take k) (drop-append-le i l (replicate (m - length l) blank) (omega arith))
    ∙ take-append-le k (drop i l) (replicate (m - length l) blank) (omega (arith, length-drop i l))

pub drop_pad : (m j : ℕ) (l : List Row) → length l ≤ j → j ≤ m → drop j (pad m l) ≡ replicate (m - j) blank
unfolding pad
drop_pad m j l h k =
    let s : j ≡ length l + (j - length l) = omega arith in
    let e : m - length l - (j - length l) ≡ m - j = omega arith in
    ap (λ (i : ℕ). drop i (l ++ replicate (m - length l) blank)) s
    ∙ drop-append-add l (replicate (m - length l) blank) (j - length l)
    ∙ drop_replicate blank (j - length l) (m - length l) (omega arith) ∙ ap (λ (i : ℕ). replicate i blank) e

-- as many blank rows as make m
pad_by : (m j : ℕ) (l : List Row) → length l + j ≡ m → l ++ replicate j blank ≡ pad m l
unfolding pad
pad_by m j l h =
    let e : j ≡ m - length l = omega arith in
    ap (λ (i : ℕ). l ++ replicate i blank) e

pub last_part : (l : List Row) (i k : ℕ) → i + k ≡ length l → part l i k ≡ drop i l
unfolding part
last_part l i k h = take_all k (drop i l) (omega (arith, length-drop i l))

pub length_put_in : (l : List Row) (i : ℕ) (new : List Row) → i ≤ length l → length (put_in l i new) ≡ length l + length new
length_put_in l i new h = simp (length-append, length-drop) (omega (arith, length-take-le i l h))

pub length_without : (l : List Row) (i n : ℕ) → i + n ≤ length l → length (without l i n) ≡ length l - n
length_without l i n h = simp (length-append, length-drop) (omega (arith, length-take-le i l (omega arith)))

-- ---- a gap opened and filled

-- n rows stand in l: those from i on are moved up by a, and `new` is put into the gap
abbrev pub opening : ℕ → List Row → ℕ → ℕ → List Row → List Row
opening n l i a new = over (over l (i + a) (n - i) (part l i (n - i))) i a new

pub opened : (m i a n : ℕ) (l new : List Row) → n ≡ length l → i ≤ n → length new ≡ a → n + a ≤ m
    → opening n (pad m l) i a new ≡ pad m (put_in l i new)
unfolding over
opened m i a n l new en h e g =
    let L = pad m l in
    let B = part (pad m l) i (n - i) in
    let D = drop (i + a + (n - i)) (pad m l) in
    let whole : length (pad m l) ≡ m = length_pad m l (omega arith) in
    let head : length (take (i + a) (pad m l)) ≡ i + a = length-take-le (i + a) (pad m l) (omega arith) in
    let first : take i (take (i + a) L ++ B ++ D) ≡ take i l =
    ap (take i) (append_assoc (take (i + a) L) B D) ∙ take-append-le i (take (i + a) L) (B ++ D) (omega arith)
    ∙ take-take i (i + a) L (omega arith) ∙ take_pad m i l (omega arith) in
    let last : drop (i + a) (take (i + a) L ++ B ++ D) ≡ drop i l ++ replicate (m - (i + a + (n - i))) blank =
    ap (drop (i + a)) (append_assoc (take (i + a) L) B D) ∙ drop_at (take (i + a) L) (B ++ D) (i + a) head
    ∙ ap (◌++ D) (part_pad m i (n - i) l (omega arith) ∙ last_part l i (n - i) (omega arith))
    ∙ ap (drop i l ++◌) (drop_pad m (i + a + (n - i)) l (omega arith) (omega arith)) in
    ap (λ (r : List Row). r ++ new ++ drop (i + a) (take (i + a) L ++ B ++ D)) first
    ∙ ap (λ (r : List Row). take i l ++ new ++ r) last
    ∙ sym (append_assoc (take i l ++ new) (drop i l) (replicate (m - (i + a + (n - i))) blank))
    ∙ pad_by m (m - (i + a + (n - i))) (put_in l i new) (omega (arith, length_put_in l i new (omega arith)))

-- ---- rows put after the last

pub appended : (m a n : ℕ) (l new : List Row) → n ≡ length l → length new ≡ a → n + a ≤ m → over (pad m l) n a new ≡ pad m (l ++ new)
unfolding over
appended m a n l new en e g =
    let first : take n (pad m l) ≡ l = take_pad m n l (omega arith) ∙ take_all n l (omega arith) in
    ap (λ (r : List Row). r ++ new ++ drop (n + a) (pad m l)) first
    ∙ ap (l ++ new ++◌) (drop_pad m (n + a) l (omega arith) g) ∙ pad_by m (m - (n + a)) (l ++ new) (omega (arith, length-append l new))

-- ---- a gap closed

-- n rows stand in l: those behind the a from i on are moved down, and a blank ones put after them
abbrev pub closing : ℕ → List Row → ℕ → ℕ → List Row
closing n l i a = over (over l i (n - (i + a)) (part l (i + a) (n - (i + a)))) (n - a) a (replicate a blank)

pub closed : (m i a n : ℕ) (l : List Row) → n ≡ length l → i + a ≤ n → n ≤ m → closing n (pad m l) i a ≡ pad m (without l i a)
unfolding over
closed m i a n l en h g =
    let L = pad m l in
    let B = part (pad m l) (i + a) (n - (i + a)) in
    let D = drop (i + (n - (i + a))) (pad m l) in
    let whole : length (pad m l) ≡ m = length_pad m l (omega arith) in
    let size : length (part (pad m l) (i + a) (n - (i + a))) ≡ n - (i + a) = length_part (pad m l) (i + a) (n - (i + a)) (omega arith) in
    let head : length (take i (pad m l) ++ part (pad m l) (i + a) (n - (i + a))) ≡ n - a =
    length-append (take i L) B ∙ omega (arith, length-take-le i (pad m l) (omega arith)) in
    let first : take (n - a) (take i L ++ B ++ D) ≡ without l i a =
    take_at (take i L ++ B) D (n - a) head
    ∙ ap (◌++ B) (take_pad m i l (omega arith))
    ∙ ap (take i l ++◌) (part_pad m (i + a) (n - (i + a)) l (omega arith) ∙ last_part l (i + a) (n - (i + a)) (omega arith)) in
    let s : n - a + a ≡ length (take i (pad m l) ++ part (pad m l) (i + a) (n - (i + a))) + a = omega arith in
    let d : i + (n - (i + a)) + a ≡ n = omega arith in
    let last : drop (n - a + a) (take i L ++ B ++ D) ≡ replicate (m - n) blank =
    ap (λ (j : ℕ). drop j (take i L ++ B ++ D)) s ∙ drop-append-add (take i L ++ B) D a
    ∙ drop-drop a (i + (n - (i + a))) L ∙ ap (λ (j : ℕ). drop j L) d ∙ drop_pad m n l (omega arith) g in
    ap (λ (r : List Row). r ++ replicate a blank ++ drop (n - a + a) (take i L ++ B ++ D)) first
    ∙ ap (λ (r : List Row). without l i a ++ replicate a blank ++ r) last
    ∙ append_assoc (without l i a) (replicate a blank) (replicate (m - n) blank)
    ∙ ap (without l i a ++◌) (replicate-append-replicate a (m - n) blank)
    ∙ pad_by m (a + (m - n)) (without l i a) (omega (arith, length_without l i a (omega arith)))

-- ---- a row replaced

pub replaced : (m i : ℕ) (l : List Row) (r : Row) → i < length l → length l ≤ m → over (pad m l) i 1 (r ∷ []) ≡ pad m (set l i r)
unfolding pad
replaced m i l r h g =
    sym (set_over (pad m l) i r (omega (arith, length_pad m l g)))
    ∙ set-append_left l (replicate (m - length l) blank) i r h ∙ ap (λ (j : ℕ). set l i r ++ replicate (m - j) blank) (sym (length-set l i r))
