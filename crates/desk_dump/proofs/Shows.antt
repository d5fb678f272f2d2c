-- A dump, one frame a turn: the frames before it stand in the text, and there is room for the rest. Assumes nothing.
use Prim.Native.Nat.{ℕ, zero, suc, ◌+◌, ◌-◌, ◌≤◌, ◌<◌}
use native.Mathlib.Omega.{arith}
use native.Mathlib.Numerals.{add-one}
use mathlib.Core.Path.{◌≡◌, refl, sym, ap, ◌∙◌, subst}
use mathlib.Core.Logic.{◌⊎◌, inl, inr, ⊎_elim}
use mathlib.Core.Bool.{Bool, true, false, cond}
use mathlib.Core.List.{List, [], ◌∷◌, ◌++◌, append_assoc, append-nil}
use mathlib.Core.Option.{Option, none, some}
use lib.Dec.{ltb}
use borrow.Rule.Slice.PartMut.{put_mid}
use lib.ListN.{length, take, drop, drop_of_length-le, set, get_elem?, length-append, length-drop, length-set, take-append-drop}
use lib.Seq.{take_all, set_split, drop-drop, append_snoc}
use borrow.Author.Tests.{ltb-true, ltb-false}
use Rattle.std.specs.Prelude.{Result, Ok, Err}
use Rattle.model.specs.declared.Refusal.{Refusal}
use Rattle.model.specs.declared.Refusal.TheVariants.{NoSuchNode}
use Rattle.model.specs.Answer.{Answer, refused, done, unless, number}
use Rattle.model.specs.Frame.{Frame, frames_of, line_of, written}
use Rattle.model.proofs.Answers.{refused_done}
use Rattle.model.proofs.Refusals.{number_only}
use Rattle.model.proofs.Lists.{parts_append}
use Rattle.tree.specs.Pool.{SoundPool, index_of}
use Rattle.index_promise.specs.Promise.{holds, fails, Left, ◌leaving◌, leaves, Frames}
use Rattle.desk_text.specs.Texts.{over, refused_text}
use Rattle.desk_text.proofs.Overs.{Put, behind, put_length, over_first}
use Rattle.desk_orders.specs.Orders.{dump}
use Rattle.desk_promise.specs.Replies.{frame_text, dump_text}
use Rattle.desk_promise.specs.Promise.{Replies}
use Rattle.desk_dump.proofs.Rooms.{frames_16, frames_fit}

-- THE I-TH FRAME is drawn ..
record Drawn (l : List ℕ) (i n : ℕ) (line line' : List ℕ) : Type 0 where
  frame : Frame
  sound : SoundPool l
  found : get_elem? (frames_of (index_of l 0)) i ≡ some frame
  count : n ≡ length (line_of frame)
  room : length (line_of frame) ≤ length line
  bytes : line' ≡ line_of frame ++ drop (length (line_of frame)) line

-- .. or it is not, and then the line is as it was
data Undrawn (l : List ℕ) (i m : ℕ) (line : List ℕ) : Type 0 where
  unsound : (SoundPool l → ⊥) → m ≡ 2 → Undrawn l i m line
  past : SoundPool l → m ≡ 14 → get_elem? (frames_of (index_of l 0)) i ≡ none → Undrawn l i m line
  short : SoundPool l → m ≡ 16 → (f : Frame) → get_elem? (frames_of (index_of l 0)) i ≡ some f → length line < length (line_of f) → Undrawn l i m line

module _ (l : List ℕ) (i : ℕ) (line line' : List ℕ) where
  abbrev fs : List Frame
  fs = frames_of (index_of l 0)

  abbrev left : Answer (List ℕ) → Left ℕ
  left a = leaves length (λ s. s ++ drop (length s) line) line a

  drawn : (n : ℕ) → Frames l 0 i line (Ok n) line' → Drawn l i n line line'
  drawn n (fails u e) = absurd (refused_done 2 n (sym (ap (λ (w : Left ℕ). w.answer) e)))
  drawn n (holds s e) = by (get_elem? fs i) refl e
    where
      fit : (f : Frame) (t : Bool) → get_elem? fs i ≡ some f → ltb (length line) (length (line_of f)) ≡ t
          → (done n leaving line') ≡ left (unless (cond t 16 0) (line_of f)) → Drawn l i n line line'
      fit f true q g e = absurd (refused_done 16 n (sym (ap (λ (w : Left ℕ). w.answer) e)))
      fit f false q g e =
          record {
            frame = f;
            sound = s;
            found = q;
            count = told (ap (λ (w : Left ℕ). w.answer) e);
            room = ltb-false _ _ g;
            bytes = ap (λ (w : Left ℕ). w.bytes) e;
          }
        where
          told : done n ≡ done (length (line_of f)) → n ≡ length (line_of f)
          told h = cc

      by : (o : Option Frame) → get_elem? fs i ≡ o → (done n leaving line') ≡ left (written (length line) o) → Drawn l i n line line'
      by none q e = absurd (refused_done 14 n (sym (ap (λ (w : Left ℕ). w.answer) e)))
      by (some f) q e = fit f (ltb (length line) (length (line_of f))) q refl e

  undrawn : (why : Refusal) → Frames l 0 i line (Err why) line' → (line' ≡ line) × Undrawn l i (number why) line
  undrawn why (fails u e) = (ap (λ (w : Left ℕ). w.bytes) e, unsound u (is (ap (λ (w : Left ℕ). w.answer) e)))
    where
      is : ◌≡◌ {A = Answer ℕ} (refused (number why)) (refused 2) → number why ≡ 2
      is h = cc
  undrawn why (holds s e) = by (get_elem? fs i) refl e
    where
      is : (k : ℕ) → ◌≡◌ {A = Answer ℕ} (refused (number why)) (refused k) → number why ≡ k
      is k h = cc

      fit : (f : Frame) (t : Bool) → get_elem? fs i ≡ some f → ltb (length line) (length (line_of f)) ≡ t
          → (refused (number why) leaving line') ≡ left (unless (cond t 16 0) (line_of f)) → (line' ≡ line) × Undrawn l i (number why) line
      fit f true q g e = (ap (λ (w : Left ℕ). w.bytes) e, short s (is 16 (ap (λ (w : Left ℕ). w.answer) e)) f q (ltb-true _ _ g))
      fit f false q g e = absurd (refused_done (number why) (length (line_of f)) (ap (λ (w : Left ℕ). w.answer) e))

      by : (o : Option Frame) → get_elem? fs i ≡ o → (refused (number why) leaving line') ≡ left (written (length line) o) → (line' ≡ line) × Undrawn l i (number why) line
      by none q e = (ap (λ (w : Left ℕ). w.bytes) e, past s (is 14 (ap (λ (w : Left ℕ). w.answer) e)) q)
      by (some f) q e = fit f (ltb (length line) (length (line_of f))) q refl e

-- a part that is lent from a place on is all the rest, and stands there again afterwards
rest : (t : List ℕ) (at : ℕ) → take (length t - at) (drop at t) ≡ drop at t
rest t at = take_all (length t - at) (drop at t) (omega (arith, length-drop at t))

pub rest_put : (t : List ℕ) (at : ℕ) (line : List ℕ) → put_mid at (length t - at) t line ≡ take at t ++ line
rest_put t at line =
    let over : drop (length t - at) (drop at t) ≡ [] = drop_of_length-le (drop at t) {i = length t - at} (omega (arith, length-drop at t)) in
    ap (λ x. take at t ++ (line ++ x)) over ∙ ap (take at t ++◌) (append-nil line)

pub of_the_rest : (l : List ℕ) (i : ℕ) {r q : Result ℕ Refusal} (t : List ℕ) (at : ℕ) {line' : List ℕ} → r ≡ q
    → Frames l 0 i (take (length t - at) (drop at t)) r line'
    → Frames l 0 i (drop at t) q line'
of_the_rest l i {r} t at {line'} e f = subst (λ q. Frames l 0 i (drop at t) q line') e (subst (λ line. Frames l 0 i line r line') (rest t at) f)

-- THE FRAMES BEFORE IT

module _ {A : Type 0} where
  elem_next : (xs : List A) (i : ℕ) (x : A) → get_elem? xs i ≡ some x → (i < length xs) × (take (i + 1) xs ≡ take i xs ++ (x ∷ []))
  elem_next [] i x e = absurd (no e)
    where
      no : ◌≡◌ {A = Option A} none (some x) → ⊥
      no h = let z : ◌≡◌ {A = ℕ} 0 1 = cc in omega arith
  elem_next (y ∷ xs) zero x e = (omega arith, ap (◌∷ []) (same e))
    where
      same : some y ≡ some x → y ≡ x
      same h = cc
  elem_next (y ∷ xs) (suc i) x e =
      let on = elem_next xs i x e in
      let more : suc i + 1 ≡ suc (i + 1) = omega arith in
      (omega (arith, on.0), ap (λ n. take n (y ∷ xs)) more ∙ ap (y ∷◌) on.1)

  elem_none : (xs : List A) (i : ℕ) → get_elem? xs i ≡ none → length xs ≤ i
  elem_none [] i e = omega arith
  elem_none (y ∷ xs) zero e = absurd (no e)
    where
      no : some y ≡ none → ⊥
      no h = let z : ◌≡◌ {A = ℕ} 0 1 = cc in omega arith
  elem_none (y ∷ xs) (suc i) e = omega (arith, elem_none xs i e)

part_fits : (fs : List Frame) (i : ℕ) → length (dump_text (take i fs)) ≤ length (dump_text fs)
part_fits fs i =
    let e : dump_text fs ≡ dump_text (take i fs) ++ dump_text (drop i fs) =
    ap dump_text (sym (take-append-drop i fs)) ∙ parts_append frame_text (take i fs) (drop i fs) in
    omega (arith, ap length e, length-append (dump_text (take i fs)) (dump_text (drop i fs)))

module _ (l t₀ : List ℕ) where
  abbrev all : List Frame
  all = frames_of (index_of l 0)

  -- so many frames stand in the text t, and end before a place
  pub record Shown (t : List ℕ) (at i : ℕ) : Type 0 where
    pub long : length l ≡ 3392
    pub room : length t₀ ≡ 4096
    pub sound : (i ≡ 0) ⊎ SoundPool l
    pub put : Put 0 (dump_text (take i all)) t₀ at t
    pub inside : at ≤ length t
    pub same : length t ≡ length t₀

  pub none_shown : length l ≡ 3392 → length t₀ ≡ 4096 → Shown t₀ 0 0
  none_shown a b =
      record { long = a; room = b; sound = inl refl; put = record { room = omega arith; ends = refl; bytes = refl }; inside = omega arith; same = refl }

  module _ {t : List ℕ} {at i : ℕ} (h : Shown t at i) where
    -- one more
    module _ {n : ℕ} {line' : List ℕ} (f : Frames l 0 i (drop at t) (Ok n) line') where
      abbrev d : Drawn l i n (drop at t) line'
      d = drawn l i (drop at t) line' n f

      text : dump_text (take (i + 1) all) ≡ (dump_text (take i all) ++ line_of d.frame) ++ (10 ∷ [])
      text =
          ap dump_text (elem_next all i d.frame d.found).1 ∙ parts_append frame_text (take i all) (d.frame ∷ [])
          ∙ ap (dump_text (take i all) ++◌) (append-nil (frame_text d.frame)) ∙ sym (append_assoc (dump_text (take i all)) (line_of d.frame) (10 ∷ []))

      pub fits : at + n + 1 ≤ 4096
      fits =
          let a : length (dump_text (take (i + 1) all)) ≤ 4096 = omega (arith, part_fits all (i + 1), frames_fit l d.sound h.long) in
          omega (
            arith,
            a,
            ap length text,
            length-append (dump_text (take i all) ++ line_of d.frame) (10 ∷ []),
            length-append (dump_text (take i all)) (line_of d.frame),
            h.put.ends,
            d.count,
          )

      -- its line stands in the text ..
      line_put : (t₁ : List ℕ) → t₁ ≡ take at t ++ line' → Put at (line_of d.frame) t (at + n) t₁
      line_put t₁ e =
          let p = line_of d.frame in
          let behind-it : line' ≡ p ++ drop (at + length p) t = d.bytes ∙ ap (p ++◌) (drop-drop (length p) at t) in
          record {
            room = omega (arith, d.room, length-drop at t, h.inside);
            ends = ap (at +◌) d.count;
            bytes = e ∙ ap (take at t ++◌) behind-it ∙ sym (append_assoc (take at t) p (drop (at + length p) t));
          }

      pub feed_inside : (t₁ : List ℕ) → t₁ ≡ take at t ++ line' → at + n < length t₁
      feed_inside t₁ e = omega (arith, fits, put_length (line_put t₁ e), h.same, h.room)

      -- .. and a line feed behind it
      pub one_more : (t₁ : List ℕ) → t₁ ≡ take at t ++ line' → Shown (set t₁ (at + n) 10) (at + n + 1) (i + 1)
      one_more t₁ e =
          let line = line_put t₁ e in
          let inside : at + n + 1 ≤ length t₁ = omega (arith, feed_inside t₁ e) in
          let feed : Put (at + n) (10 ∷ []) t₁ (at + n + 1) (set t₁ (at + n) 10) =
          record {
            room = inside;
            ends = refl;
            bytes = set_split t₁ (at + n) 10 (omega (arith, inside)) ∙ ap (λ k. take (at + n) t₁ ++ 10 ∷ drop k t₁) (sym (add-one (at + n)))
                ∙ sym (append_snoc (take (at + n) t₁) 10 (drop (at + n + 1) t₁));
          } in
          let both = behind (behind h.put line) feed in
          record {
            long = h.long;
            room = h.room;
            sound = inr d.sound;
            put = subst (λ s. Put 0 s t₀ (at + n + 1) (set t₁ (at + n) 10)) (sym text) both;
            inside = omega (arith, inside, length-set t₁ (at + n) 10);
            same = put_length both;
          }

    -- the last was shown
    module _ (s : SoundPool l) (last : length all ≤ i) where
      pub all_shown : Replies dump l t₀ (record { count = at; pool = l; text = t })
      all_shown =
          let whole : take i all ≡ all = take_all i all last in
          let count : at ≡ length (dump_text all) = omega (arith, h.put.ends, ap (λ x. length (dump_text x)) whole) in
          let bytes : t ≡ dump_text all ++ drop (length (dump_text all)) t₀ =
          h.put.bytes ∙ ap (λ x. over 0 (dump_text x) t₀) whole ∙ over_first (dump_text all) t₀ in
          holds s (rw (count, bytes) refl)

    -- after 16 turns
    pub sixteen : 16 ≤ i → Replies dump l t₀ (record { count = at; pool = l; text = t })
    sixteen g = by h.sound
      where
        by : (i ≡ 0) ⊎ SoundPool l → Replies dump l t₀ (record { count = at; pool = l; text = t })
        by (inl z) = absurd (omega arith)
        by (inr s) = all_shown s (omega (arith, frames_16 l s h.long))

    -- no frame was drawn: there is none, or the pool is not sound
    module _ (why : Refusal) {line' : List ℕ} (f : Frames l 0 i (drop at t) (Err why) line') where
      abbrev m : ℕ
      m = number why

      as_it_was : take at t ++ line' ≡ t
      as_it_was = ap (take at t ++◌) (undrawn l i (drop at t) line' why f).0 ∙ take-append-drop at t

      undone : Undrawn l i m (drop at t)
      undone = (undrawn l i (drop at t) line' why f).1

      no_room : SoundPool l → (g : Frame) → get_elem? all i ≡ some g → length (drop at t) < length (line_of g) → ⊥
      no_room s g e lt =
          let text : dump_text (take (i + 1) all) ≡ dump_text (take i all) ++ frame_text g =
          ap dump_text (elem_next all i g e).1 ∙ parts_append frame_text (take i all) (g ∷ []) ∙ ap (dump_text (take i all) ++◌) (append-nil (frame_text g)) in
          omega (
            arith,
            lt,
            length-drop at t,
            h.same,
            h.room,
            h.put.ends,
            part_fits all (i + 1),
            frames_fit l s h.long,
            ap length text,
            length-append (dump_text (take i all)) (frame_text g),
            length-append (line_of g) (10 ∷ []),
          )

      pub ended : (t₁ : List ℕ) → t₁ ≡ take at t ++ line' → why ≡ NoSuchNode → Replies dump l t₀ (record { count = at; pool = l; text = t₁ })
      ended t₁ same is = rw (same ∙ as_it_was) (by undone)
        where
          e : m ≡ 14
          e = ap number is

          by : Undrawn l i m (drop at t) → Replies dump l t₀ (record { count = at; pool = l; text = t })
          by (unsound u z) = absurd (omega (arith, z, e))
          by (past s z none_there) = all_shown s (elem_none all i none_there)
          by (short s z g q lt) = absurd (omega (arith, z, e))

      pub refused_at_once : (k : ℕ) (t₁ t' : List ℕ) → t₁ ≡ take at t ++ line' → (why ≡ NoSuchNode → ⊥) → k ≡ length (refused_text m) → t' ≡ over 0 (refused_text m) t₁
          → Replies dump l t₀ (record { count = k; pool = l; text = t' })
      refused_at_once k t₁ t' same other c b = by undone
        where
          by : Undrawn l i m (drop at t) → Replies dump l t₀ (record { count = k; pool = l; text = t' })
          by (past s z none_there) = absurd (other (number_only why NoSuchNode z))
          by (short s z g e lt) = absurd (no_room s g e lt)
          by (unsound u z) =
              let first : i ≡ 0 = ⊎_elim (λ x. x) (λ s. absurd (u s)) h.sound in
              let new : t₁ ≡ t₀ = same ∙ as_it_was ∙ h.put.bytes ∙ ap (λ j. over 0 (dump_text (take j all)) t₀) first in
              fails u (rw (c, b, new, z) (ap (λ x. record { count = length (refused_text 2); pool = l; text = x }) (over_first (refused_text 2) t₀)))
