-- A text is served part by part: the lines that are kept are its lines, however it is cut. Assumes nothing.
use Prim.Native.Nat.{ℕ, suc, ◌+◌, ◌≤◌, ◌<◌}
use native.Mathlib.Omega.{arith}
use mathlib.Core.Path.{◌≡◌, refl, sym, ap, ◌∙◌, subst}
use mathlib.Core.Bool.{Bool, true, false, cond}
use mathlib.Core.List.{List, [], ◌∷◌, ◌++◌, append_assoc, append-nil, map}
use lib.Dec.{eqb, leb}
use lib.ListN.{length, take, drop, length-append}
use lib.Seq.{take-length, drop-length, length-take-le}
use borrow.Author.Tests.{leb-true}
use Rattle.model.specs.Lists.{concat}
use Rattle.model.proofs.Lists.{cons_nil}
use Rattle.desk_text.specs.Texts.{over as put}
use Rattle.desk_text.proofs.Overs.{length_over}
use Rattle.desk_lines.specs.Lines.{onto, lines_of, up_to, first_line}
use Rattle.desk_lines.specs.Parts.{longest, Kept, whole, too_long, kept, joined, Place, held, keeping}
use Rattle.desk_orders.specs.Orders.{Wanted, set, drops, dump, malformed, ordered}
use Rattle.desk_lines.proofs.Finds.{up_to_take, up_to_length}
use Rattle.desk_lines.proofs.Keeps.{keeps_the_parts, cut_anyhow}
use Rattle.tree.specs.Pool.{settings_in, index_of}
use Rattle.index_promise.specs.Promise.{holds, fails}
use Rattle.desk_promise.specs.Replies.{Reply, refusing, reply}
use Rattle.desk_promise.specs.Promise.{opened, Outcome, outcome, with_first, Replies, Answers, Session, rest, next}
use Rattle.desk_promise.specs.Turns.{Turned, Turns, goes_on, ends, Serves, over, last, read, turn, ServesAnyText, OneTurn}
use Rattle.desk_promise.proofs.Sessions.{one_answer, writes_the_program}

-- A TURN OF THE CODE

module _ (p : Place) (l t rest : List ℕ) where
  all_of_it : length (first_line rest) ≡ length rest → first_line rest ≡ rest
  all_of_it e = sym (up_to_take 10 rest) ∙ ap (λ n. take n rest) e ∙ take-length rest

  pub line_goes_on : (part : List ℕ) (q : Place) → part ≡ first_line rest → length part ≡ length rest → q ≡ keeping p part
      → Turns p l t rest (record { taken = length part; place = q; left = record { count = 0; pool = l; text = t } })
  line_goes_on part q e same kept =
      let all : first_line rest ≡ rest = all_of_it (sym (ap length e) ∙ same) in
      goes_on all (rw (kept, e, all) refl)

  pub line_ends : (part : List ℕ) (q : Place) (a : Outcome) → part ≡ first_line rest → (length part ≡ length rest → ⊥) → q ≡ keeping p part
      → Answers (ordered (held q)) l t a
      → Turns p l t rest (record { taken = length part + 1; place = record { count = 0; bytes = q.bytes }; left = a })
  line_ends part q a e more kept ans =
      let is : q ≡ keeping p (first_line rest) = kept ∙ ap (keeping p) e in
      let less : length (first_line rest) ≤ length rest = up_to_length 10 rest in
      let short : length (first_line rest) < length rest = lt_of (λ z. more (ap length e ∙ z)) less in
      ends short (ap (λ x. length x + 1) e) (ap (λ (x : Place). record { count = 0; bytes = x.bytes }) is)
      (subst (λ x. Answers (ordered (held x)) l t a) is ans)
    where
      lt_of : {m n : ℕ} → (m ≡ n → ⊥) → m ≤ n → m < n
      lt_of {m} {n} f h = omega (arith, f)

abbrev turned : ℕ → Place → Outcome → Turned
turned n q o = record { taken = n; place = q; left = o }

pub one_turn : OneTurn
one_turn p l t more u v (goes_on a b) (goes_on c d) = b ∙ sym d
one_turn p l t more u v (goes_on a b) (ends c d e f) = absurd (omega (arith, ap length a, c))
one_turn p l t more u v (ends c d e f) (goes_on a b) = absurd (omega (arith, ap length a, c))
one_turn p l t more u v (ends a b c d) (ends e f g h) =
    let left : u.left ≡ v.left = one_answer (ordered (held (keeping p (first_line more)))) l t u.left v.left d h in
    both (b ∙ sym f) (c ∙ sym g) left
  where
    both : u.taken ≡ v.taken → u.place ≡ v.place → u.left ≡ v.left → u ≡ v
    both x y z =
        ap (λ (n : ℕ). turned n u.place u.left) x ∙ ap (λ (q : Place). turned v.taken q u.left) y
        ∙ ap (λ (o : Outcome). turned v.taken v.place o) z

-- THE LINES OF A TEXT that is cut

-- some bytes before the first of some lines
abbrev before : List ℕ → List (List ℕ) → List (List ℕ)
before a [] = a ∷ []
before a (l ∷ ls) = (a ++ l) ∷ ls

onto_before : (b : ℕ) (ls : List (List ℕ)) → onto b ls ≡ before (b ∷ []) ls
onto_before b [] = refl
onto_before b (l ∷ ls) = refl

onto_more : (b : ℕ) (a : List ℕ) (ls : List (List ℕ)) → onto b (before a ls) ≡ before (b ∷ a) ls
onto_more b a [] = refl
onto_more b a (l ∷ ls) = refl

-- bytes without a line feed
lines_free : (a more : List ℕ) → first_line a ≡ a → 0 < length a → lines_of (a ++ more) ≡ before a (lines_of more)
unfolding lines_of up_to
lines_free [] more e h = absurd (omega arith)
lines_free (b ∷ a) more e h = by (eqb b 10) refl e (lines_free a more)
  where
    tail : b ∷ up_to 10 a ≡ b ∷ a → up_to 10 a ≡ a
    tail g = ap (drop 1) g

    on : (c : List ℕ) → c ≡ a → (0 < length c → lines_of (c ++ more) ≡ before c (lines_of more)) → onto b (lines_of (c ++ more)) ≡ before (b ∷ c) (lines_of more)
    on [] s f = onto_before b (lines_of more)
    on (d ∷ c) s f = ap (onto b) (f (omega arith)) ∙ onto_more b (d ∷ c) (lines_of more)

    by : (t : Bool) → eqb b 10 ≡ t → cond t [] (b ∷ up_to 10 a) ≡ b ∷ a → (up_to 10 a ≡ a → 0 < length a → lines_of (a ++ more) ≡ before a (lines_of more))
        → cond t ([] ∷ lines_of (a ++ more)) (onto b (lines_of (a ++ more))) ≡ before (b ∷ a) (lines_of more)
    by true d g f = absurd (cons_nil (sym g))
    by false d g f = on a refl (f (tail g))

-- a line that ends in them
lines_end : (a more : List ℕ) → length (first_line a) < length a → lines_of (a ++ more) ≡ first_line a ∷ lines_of (drop (length (first_line a) + 1) a ++ more)
unfolding lines_of up_to
lines_end [] more h = absurd (omega arith)
lines_end (b ∷ a) more h = by (eqb b 10) h (lines_end a more)
  where
    by : (t : Bool) → length (cond t [] (b ∷ up_to 10 a)) < length (b ∷ a)
        → (length (up_to 10 a) < length a → lines_of (a ++ more) ≡ up_to 10 a ∷ lines_of (drop (length (up_to 10 a) + 1) a ++ more))
        → cond t ([] ∷ lines_of (a ++ more)) (onto b (lines_of (a ++ more)))
        ≡ cond t [] (b ∷ up_to 10 a) ∷ lines_of (drop (length (cond t [] (b ∷ up_to 10 a)) + 1) (b ∷ a) ++ more)
    by true g f = refl
    by false g f =
        let n : length (b ∷ up_to 10 a) + 1 ≡ suc (length (up_to 10 a) + 1) = omega arith in
        ap (onto b) (f (omega arith)) ∙ ap (λ k. (b ∷ up_to 10 a) ∷ lines_of (drop k (b ∷ a) ++ more)) (sym n)

-- WHAT IS KEPT, and the text behind it, as lines

abbrev pending : Kept → List Kept
pending (whole []) = []
pending (whole (b ∷ l)) = whole (b ∷ l) ∷ []
pending too_long = too_long ∷ []

abbrev kept_lines : Kept → List (List ℕ) → List Kept
kept_lines k [] = pending k
kept_lines k (l ∷ ls) = joined k l ∷ map kept ls

-- from nothing, they are the lines of the text
from_nothing : (ls : List (List ℕ)) → kept_lines (whole []) ls ≡ map kept ls
from_nothing [] = refl
from_nothing (l ∷ ls) = refl

-- bytes more of a line
pending_one : (b a : List ℕ) → 0 < length a → pending (kept (b ++ a)) ≡ kept (b ++ a) ∷ []
pending_one b a h = by (leb (length (b ++ a)) longest) (b ++ a) (omega (arith, h, length-append b a))
  where
    by : (t : Bool) (c : List ℕ) → 0 < length c → pending (cond t (whole c) too_long) ≡ cond t (whole c) too_long ∷ []
    by true [] g = absurd (omega arith)
    by true (d ∷ c) g = refl
    by false c g = refl

joined_on : (k : Kept) (a l : List ℕ) → joined k (a ++ l) ≡ joined (joined k a) l
joined_on (whole b) a l = ap kept (sym (append_assoc b a l)) ∙ sym (cut_anyhow (b ++ a) l)
joined_on too_long a l = refl

more_kept : (k : Kept) (a : List ℕ) (ls : List (List ℕ)) → 0 < length a → kept_lines (joined k a) ls ≡ kept_lines k (before a ls)
more_kept (whole b) a [] h = pending_one b a h
more_kept too_long a [] h = refl
more_kept k a (l ∷ ls) h = ap (◌∷ map kept ls) (sym (joined_on k a l))

-- THE PLACE

nothing_held : (p : Place) → p.count ≡ 0 → held p ≡ whole []
nothing_held p e = ap (λ n. cond (leb n longest) (whole (take n p.bytes)) too_long) e

something_held : (p : Place) → length p.bytes ≡ longest → 0 < p.count → pending (held p) ≡ held p ∷ []
something_held p full h = by (leb p.count longest) refl
  where
    some_bytes : (c : List ℕ) → 0 < length c → pending (whole c) ≡ whole c ∷ []
    some_bytes [] g = absurd (omega arith)
    some_bytes (d ∷ c) g = refl

    by : (t : Bool) → leb p.count longest ≡ t
        → pending (cond t (whole (take p.count p.bytes)) too_long) ≡ cond t (whole (take p.count p.bytes)) too_long ∷ []
    by true e = some_bytes (take p.count p.bytes) (omega (arith, h, length-take-le p.count p.bytes (omega (arith, leb-true p.count longest e))))
    by false e = refl

keep_full : (p : Place) (part : List ℕ) → length p.bytes ≡ longest → length (keeping p part).bytes ≡ longest
keep_full p part full = by (leb (p.count + length part) longest) refl
  where
    by : (t : Bool) → leb (p.count + length part) longest ≡ t
        → length (cond {A = Place} t (record { count = p.count + length part; bytes = put p.count part p.bytes })
        (record { count = 256; bytes = p.bytes })).bytes ≡ longest
    by true e = length_over p.count part p.bytes (omega (arith, leb-true (p.count + length part) longest e)) ∙ full
    by false e = full

-- THE TEXT

run : {p : Place} {l more : List ℕ} {parts : List (List ℕ)} {written : List ℕ} → length p.bytes ≡ longest → Serves p l more parts written
    → Session (kept_lines (held p) (lines_of (more ++ concat parts))) l written
unfolding lines_of
run {p} {l} full (over z) = subst (λ k. Session (pending k) l []) (sym (nothing_held p z)) rest
run {p} {l} full (last t a h ans) =
    subst (λ w. Session (pending (held p)) l w) (append-nil (take a.count a.text))
    (subst (λ ks. Session ks l (take a.count a.text ++ [])) (sym (something_held p full h)) (next t a ans rest))
run full (read s) = run full s
run {p} {l} {more} {parts} full (turn {written = written} t u h (goes_on a b) s) =
    let ih = run (ap (λ (x : Turned). length x.place.bytes) b ∙ keep_full p more full) s in
    let place : held u.place ≡ joined (held p) more = ap (λ (x : Turned). held x.place) b ∙ keeps_the_parts p more full in
    let gone : drop u.taken more ≡ [] = ap (λ (x : Turned). drop x.taken more) b ∙ drop-length more in
    let lines : kept_lines (held u.place) (lines_of (drop u.taken more ++ concat parts)) ≡ kept_lines (held p) (lines_of (more ++ concat parts)) =
    ap (λ k. kept_lines k (lines_of (drop u.taken more ++ concat parts))) place
    ∙ ap (λ r. kept_lines (joined (held p) more) (lines_of (r ++ concat parts))) gone
    ∙ more_kept (held p) more (lines_of (concat parts)) h
    ∙ ap (kept_lines (held p)) (sym (lines_free more (concat parts) a h)) in
    let pool : u.left.pool ≡ l = ap (λ (x : Turned). x.left.pool) b in
    let text : take u.left.count u.left.text ++ written ≡ written = ap (λ (x : Turned). take x.left.count x.left.text ++ written) b in
    let ks = kept_lines (held p) (lines_of (more ++ concat parts)) in
    subst (λ w. Session ks l w) (sym text) (subst (λ m. Session ks m written) pool (subst (λ js. Session js u.left.pool written) lines ih))
run {p} {l} {more} {parts} full (turn {written = written} t u h (ends a b c ans) s) =
    let ih = run (ap (λ (x : Place). length x.bytes) c ∙ keep_full p (first_line more) full) s in
    let behind = drop (length (first_line more) + 1) more in
    let place : held u.place ≡ whole [] = nothing_held u.place (ap (λ (x : Place). x.count) c) in
    let lines : kept_lines (held u.place) (lines_of (drop u.taken more ++ concat parts)) ≡ map kept (lines_of (behind ++ concat parts)) =
    ap (λ k. kept_lines k (lines_of (drop u.taken more ++ concat parts))) place
    ∙ ap (λ n. kept_lines (whole []) (lines_of (drop n more ++ concat parts))) b
    ∙ from_nothing (lines_of (behind ++ concat parts)) in
    let all : held (keeping p (first_line more)) ∷ map kept (lines_of (behind ++ concat parts)) ≡ kept_lines (held p) (lines_of (more ++ concat parts)) =
    ap (◌∷ map kept (lines_of (behind ++ concat parts))) (keeps_the_parts p (first_line more) full)
    ∙ ap (kept_lines (held p)) (sym (lines_end more (concat parts) a)) in
    subst (λ ks. Session ks l (take u.left.count u.left.text ++ written)) all
    (next t u.left ans (subst (λ ks. Session ks u.left.pool written) lines ih))

pub serves_any_text : ServesAnyText
serves_any_text parts bytes written full s =
    writes_the_program (concat parts) written
    (subst (λ ks. Session ks opened written) (from_nothing (lines_of (concat parts))) (run full s))

-- FOR THE LOOP OVER A PART: a turn takes some of it, and its answer stands in the text

counted : (t : List ℕ) (y : Reply (List ℕ)) (a : Outcome) → a ≡ outcome t y → a.count ≤ length a.text
counted t y a e = omega (
  arith,
  ap (λ (o : Outcome). o.count) e,
  ap (λ (o : Outcome). length o.text) e,
  length-append y.text (drop (length y.text) t),
)

replied : (w : Wanted) (l t : List ℕ) (a : Outcome) → Replies w l t a → a.count ≤ length a.text
replied w l t a (holds s e) = counted t (reply (with_first l) l (settings_in l 0) w (index_of l 0)) a e
replied w l t a (fails s e) = counted t (refusing l 2) a e

pub answer_inside : (w : Wanted) (l t : List ℕ) (a : Outcome) → Answers w l t a → a.count ≤ length a.text
answer_inside (set es) l t a p = replied (set es) l t a p
answer_inside (drops ks) l t a p = replied (drops ks) l t a p
answer_inside dump l t a p = replied dump l t a p
answer_inside malformed l t a p = counted t (refusing l 15) a p

pub turn_inside : (p : Place) (l t more : List ℕ) (u : Turned) → Turns p l t more u → u.left.count ≤ length u.left.text
turn_inside p l t more u (goes_on a b) = omega (arith, ap (λ (x : Turned). x.left.count) b)
turn_inside p l t more u (ends a b c d) = answer_inside (ordered (held (keeping p (first_line more)))) l t u.left d

pub turn_takes : (p : Place) (l t more : List ℕ) (u : Turned) → Turns p l t more u → 0 < length more → (0 < u.taken) × (u.taken ≤ length more)
turn_takes p l t more u (goes_on a b) h = let n = ap (λ (x : Turned). x.taken) b in (omega (arith, n, h), omega (arith, n))
turn_takes p l t more u (ends a b c d) h = (omega (arith, b), omega (arith, a, b))
