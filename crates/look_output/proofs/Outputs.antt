-- An output that fills entry by entry holds at the end the first entries that fit, and is as it was behind them. Assumes nothing.
use mathlib.Core.Path.{◌≡◌, refl, sym, ap, ◌∙◌, subst}
use mathlib.Core.Bool.{true, false}
use mathlib.Core.List.{List, [], ◌∷◌, ◌++◌, append_assoc, append-nil}
use Prim.Native.Nat.{ℕ, ◌+◌, ◌*◌, ◌≤◌, ◌<◌}
use native.Mathlib.Omega.{arith}
use native.Mathlib.Decide.{dec_lt}
use lib.ListN.{length, take, drop, set, length-append, length-drop}
use lib.Seq.{take_all, take-nil, take_at, drop-append-add, drop-drop, take-append-le}
use lib.Dec.{ltb}
use borrow.Author.Tests.{lt-ltb, le-ltb}
use Rattle.words.specs.Words.{words, bytes_of, spell}
use Rattle.words.proofs.Laws.{Bytes, bytes_of_words, length_bytes_of, words_append, words_bytes_of}
use Rattle.model.specs.declared.Entry.{Entry}
use Rattle.model.specs.Lists.{All, none, one}
use Rattle.model.specs.Sound.{Fits}
use Rattle.tree.proofs.Fitting.{Word, word_at}
use Rattle.look_output.specs.declared.Listed.{Listed}
use Rattle.look_output.specs.Output.{entry_words, read_entries, output_of, Page, page, put_entry, enlist, enlist_all}

-- THE BYTES OF AN ENTRY

-- three words set are three words
three : (W : List ℕ) (a b c : ℕ) → length W ≡ 3 → set (set (set W 0 a) 1 b) 2 c ≡ a ∷ b ∷ c ∷ []
three [] a b c e = absurd (omega arith)
three (x ∷ []) a b c e = absurd (omega arith)
three (x ∷ y ∷ []) a b c e = absurd (omega arith)
three (x ∷ y ∷ z ∷ []) a b c e = refl
three (x ∷ y ∷ z ∷ w ∷ W) a b c e = absurd (omega arith)

-- 24 bytes whose words were set are the bytes of those words
pub spelled : (W : List ℕ) (l : List ℕ) (a b c : ℕ) → length W ≡ 3 → length l ≡ 24 → Bytes l → words l ≡ set (set (set W 0 a) 1 b) 2 c
    → l ≡ bytes_of (a ∷ b ∷ c ∷ [])
spelled W l a b c n m h e = sym (bytes_of_words 3 l m h) ∙ ap bytes_of (e ∙ three W a b c n)

bytes_append : (v w : List ℕ) → bytes_of (v ++ w) ≡ bytes_of v ++ bytes_of w
unfolding bytes_of
bytes_append [] w = refl
bytes_append (x ∷ v) w = ap (λ (l : List ℕ). spell 8 x ++ l) (bytes_append v w) ∙ sym (append_assoc (spell 8 x) (bytes_of v) (bytes_of w))

words_of : (es fs : List Entry) → entry_words (es ++ fs) ≡ entry_words es ++ entry_words fs
words_of [] fs = refl
words_of (e ∷ es) fs = ap (λ (l : List ℕ). e.key ∷ e.place ∷ e.size ∷ l) (words_of es fs)

words_long : (es : List Entry) → length (entry_words es) ≡ 3 * length es
words_long [] = refl
words_long (e ∷ es) = omega (arith, words_long es)

bytes_long : (es : List Entry) → length (bytes_of (entry_words es)) ≡ 24 * length es
bytes_long es = omega (arith, length_bytes_of (entry_words es), words_long es)

-- ONE MORE ENTRY behind the others
put_next : (es : List Entry) (e : Entry) (out : List ℕ) → put_entry (length es) e (output_of es out) ≡ output_of (es ++ (e ∷ [])) out
put_next es e out =
    let old : List ℕ = bytes_of (entry_words es) in
    let new : List ℕ = bytes_of (entry_words (e ∷ [])) in
    let front : take (24 * length es) (output_of es out) ≡ bytes_of (entry_words es) =
    take_at (bytes_of (entry_words es)) (drop (24 * length es) out) (24 * length es) (bytes_long es) in
    let long : 24 * length es + 24 ≡ length (bytes_of (entry_words es)) + 24 = omega (arith, bytes_long es) in
    let back : drop (24 * length es + 24) (output_of es out) ≡ drop (24 * length es + 24) out =
    ap (λ (n : ℕ). drop n (output_of es out)) long ∙ drop-append-add (bytes_of (entry_words es)) (drop (24 * length es) out) 24
    ∙ drop-drop 24 (24 * length es) out in
    let all : 24 * length es + 24 ≡ 24 * length (es ++ (e ∷ [])) = omega (arith, length-append es (e ∷ [])) in
    let joined : old ++ new ≡ bytes_of (entry_words (es ++ (e ∷ []))) =
    sym (bytes_append (entry_words es) (entry_words (e ∷ []))) ∙ ap bytes_of (sym (words_of es (e ∷ []))) in
    ap (λ (l : List ℕ). l ++ (new ++ drop (24 * length es + 24) (output_of es out))) front
    ∙ ap (λ (l : List ℕ). old ++ (new ++ l)) (back ∙ ap (λ (n : ℕ). drop n out) all)
    ∙ sym (append_assoc old new (drop (24 * length (es ++ (e ∷ []))) out))
    ∙ ap (λ (l : List ℕ). l ++ drop (24 * length (es ++ (e ∷ []))) out) joined

-- ENLISTING

pub enlist_put : (room : ℕ) (e : Entry) (out : List ℕ) (l : Listed) → l.more ≡ false → l.written < room
    → page (put_entry l.written e out) (record { written = l.written + 1; more = false }) ≡ enlist room e (page out l)
enlist_put room e out l f h = rw (f, lt-ltb l.written room h) refl

pub enlist_full : (room : ℕ) (e : Entry) (out : List ℕ) (l : Listed) → l.more ≡ false → room ≤ l.written
    → page out (record { written = l.written; more = true }) ≡ enlist room e (page out l)
enlist_full room e out l f h = rw (f, le-ltb l.written room h) refl

-- a listing that has ended stays as it is
enlist_ended : (room : ℕ) (e : Entry) (p : Page) → p.listed.more ≡ true → enlist room e p ≡ p
enlist_ended room e p t = rw t refl

pub ended : (room : ℕ) (es : List Entry) (p : Page) → p.listed.more ≡ true → enlist_all room es p ≡ p
ended room [] p t = refl
ended room (e ∷ es) p t = ap (enlist_all room es) (enlist_ended room e p t) ∙ ended room es p t

pub enlist_append : (room : ℕ) (es fs : List Entry) (p : Page) → enlist_all room (es ++ fs) p ≡ enlist_all room fs (enlist_all room es p)
enlist_append room [] fs p = refl
enlist_append room (e ∷ es) fs p = enlist_append room es fs (enlist room e p)

-- WHAT A PAGE SHOWS of the entries that were due

pub record Shows (room : ℕ) (out : List ℕ) (es : List Entry) (p : Page) : Type 0 where
  pub bytes : p.bytes ≡ output_of (take room es) out
  pub written : p.listed.written ≡ length (take room es)
  pub more : p.listed.more ≡ ltb room (length es)

pub shows_none : (room : ℕ) (out : List ℕ) → Shows room out [] (page out (record { written = 0; more = false }))
unfolding bytes_of
shows_none room out =
    record { bytes = rw (take-nil {A = Entry} room) refl; written = rw (take-nil {A = Entry} room) refl; more = sym (le-ltb room 0 (omega arith)) }

module _ (room : ℕ) (out : List ℕ) where
  -- one that is full shows no more
  past : (es : List Entry) (e : Entry) (p : Page) → room ≤ length es → Shows room out es p → p.listed.more ≡ true → Shows room out (es ++ (e ∷ [])) p
  past es e p le s t =
      let same : take room (es ++ (e ∷ [])) ≡ take room es = take-append-le room es (e ∷ []) le in
      record {
        bytes = s.bytes ∙ ap (λ (l : List Entry). output_of l out) (sym same);
        written = s.written ∙ ap length (sym same);
        more = t ∙ sym (lt-ltb room (length (es ++ (e ∷ []))) (omega (arith, length-append es (e ∷ []))));
      }

  shows_next : (es : List Entry) (e : Entry) (p : Page) → Shows room out es p → Shows room out (es ++ (e ∷ [])) (enlist room e p)
  shows_next es e p s = by (dec_lt room (length es)) (dec_lt (length es) room)
    where
      by : Dec (room < length es) → Dec (length es < room) → Shows room out (es ++ (e ∷ [])) (enlist room e p)
      by (yes h) d =
          let t : p.listed.more ≡ true = s.more ∙ lt-ltb room (length es) h in
          let le : room ≤ length es = omega arith in
          subst (Shows room out (es ++ (e ∷ []))) (sym (enlist_ended room e p t)) (past es e p le s t)
      by (no h) (yes g) =
          let f : p.listed.more ≡ false = s.more ∙ le-ltb room (length es) (omega arith) in
          let all : take room es ≡ es = take_all room es (omega arith) in
          let n : p.listed.written ≡ length es = s.written ∙ ap length all in
          let more : take room (es ++ (e ∷ [])) ≡ es ++ (e ∷ []) = take_all room (es ++ (e ∷ [])) (omega (arith, length-append es (e ∷ []))) in
          let was : p.bytes ≡ output_of es out = s.bytes ∙ ap (λ (l : List Entry). output_of l out) all in
          subst (Shows room out (es ++ (e ∷ []))) (enlist_put room e p.bytes p.listed f (omega arith))
          (record {
            bytes =
                ap (λ (k : ℕ). put_entry k e p.bytes) n ∙ ap (put_entry (length es) e) was ∙ put_next es e out
                ∙ ap (λ (l : List Entry). output_of l out) (sym more);
            written = omega (arith, length-append es (e ∷ []), ap length more);
            more = sym (le-ltb room (length (es ++ (e ∷ []))) (omega (arith, length-append es (e ∷ []))));
          })
      by (no h) (no g) =
          let f : p.listed.more ≡ false = s.more ∙ le-ltb room (length es) (omega arith) in
          let all : take room es ≡ es = take_all room es (omega arith) in
          let n : p.listed.written ≡ length es = s.written ∙ ap length all in
          let same : take room (es ++ (e ∷ [])) ≡ take room es = take-append-le room es (e ∷ []) (omega arith) in
          subst (Shows room out (es ++ (e ∷ []))) (enlist_full room e p.bytes p.listed f (omega arith))
          (record {
            bytes = s.bytes ∙ ap (λ (l : List Entry). output_of l out) (sym same);
            written = s.written ∙ ap length (sym same);
            more = sym (lt-ltb room (length (es ++ (e ∷ []))) (omega (arith, length-append es (e ∷ []))));
          })

  pub shows_all : (es fs : List Entry) (p : Page) → Shows room out es p → Shows room out (es ++ fs) (enlist_all room fs p)
  shows_all es [] p s = subst (λ (l : List Entry). Shows room out l p) (sym (append-nil es)) s
  shows_all es (f ∷ fs) p s =
      subst (λ (l : List Entry). Shows room out l (enlist_all room fs (enlist room f p))) (append_assoc es (f ∷ []) fs)
      (shows_all (es ++ (f ∷ [])) fs (enlist room f p) (shows_next es f p s))

-- READ BACK

read_words : (es : List Entry) (ws : List ℕ) → read_entries (length es) (entry_words es ++ ws) ≡ es
read_words [] ws = refl
read_words (e ∷ es) ws = ap (e ∷◌) (read_words es ws)

words_fit : {es : List Entry} → All Fits es → All Word (entry_words es)
words_fit none = none
words_fit (one {x = e} f fs) =
    let size : Word e.size = omega (arith, f.size) in
    one f.key (one f.place (one size (words_fit fs)))

-- the entries that were written stand in the output
pub read_back : (es : List Entry) (out : List ℕ) → All Fits es → read_entries (length es) (words (output_of es out)) ≡ es
read_back es out fit =
    let rest : List ℕ = drop (24 * length es) out in
    let bytes : List ℕ = bytes_of (entry_words es) in
    let front : words (output_of es out) ≡ entry_words es ++ words rest =
    words_append (3 * length es) bytes rest (omega (arith, bytes_long es))
    ∙ ap (λ (l : List ℕ). l ++ words rest) (words_bytes_of (entry_words es) (word_at (words_fit fit))) in
    ap (read_entries (length es)) front ∙ read_words es (words rest)

-- an output keeps its length
pub output_long : (es : List Entry) (out : List ℕ) → 24 * length es ≤ length out → length (output_of es out) ≡ length out
output_long es out fits =
    omega (arith, length-append (bytes_of (entry_words es)) (drop (24 * length es) out), bytes_long es, length-drop (24 * length es) out)
