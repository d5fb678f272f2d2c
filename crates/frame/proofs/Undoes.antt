-- The answers of `write`, `write_node` and `read` are the only ones that meet their promises, and writing and reading undo each other.
-- Assumes nothing.
use mathlib.Core.Path.{◌≡◌, refl, sym, ap, subst, ◌∙◌}
use mathlib.Core.Bool.{Bool, true, false}
use mathlib.Core.List.{List, [], ◌∷◌}
use mathlib.Core.Option.{Option, some, none-ne-some}
use mathlib.Core.Option as O
use Prim.Native.Nat.{ℕ, zero, suc}
use native.Mathlib.Omega.{arith}
use lib.Dec.{ltb}
use lib.ListN.{length, take, drop, get_elem?}
use lib.Seq.{take_at}
use borrow.Author.Tests.{le-ltb}
use Rattle.std.specs.Prelude.{Result, Ok, Err}
use Rattle.model.specs.declared.Refusal.{Refusal}
use Rattle.model.specs.Answer.{Answer, done, refused, number}
use Rattle.model.specs.Lists.{All, none, one}
use Rattle.model.specs.Frame.{Frame, keys_of, line_of, frames_of, rising, entries_refusal, fitted, written, write_frame}
use Rattle.model.specs.ReadFrame.{read_line}
use Rattle.model.proofs.Answers.{refused_done}
use Rattle.model.proofs.Refusals.{number_only, told_only}
use Rattle.model.proofs.Frames.{read_written, write_read, read_fits}
use Rattle.model.proofs.Readable.{frames_read_lem}
use Rattle.model.specs.Forest.{elsewhere}
use Rattle.tree.specs.Pool.{index_of, settings_in, forest_of}
use Rattle.tree.proofs.Pools.{sound_index}
use Rattle.frame_text.specs.declared.Contents.{Contents}
use Rattle.frame_text.specs.Contents.{frame_of, contents_of}
use Rattle.frame_text.specs.Answers.{length_in, line_after, Writes, frame_told, Reads}
use Rattle.frame.specs.Undo.{OneWritten, OneRead, ReadsWritten, ReadsNode, WritesRead}

-- ONE ANSWER

pub one_written : OneWritten
one_written a l₀ l m r q f g = (told_only r q (f.answer ∙ sym g.answer), f.line ∙ sym g.line)

pub one_read : OneRead
one_read a (Ok c) (Ok d) f g =
    let same : done (frame_of c) ≡ done (frame_of d) = f.answer ∙ sym g.answer in
    let frame : frame_of c ≡ frame_of d = cc in
    ap Ok (f.zeros c refl ∙ ap contents_of frame ∙ sym (g.zeros d refl))
one_read a (Ok c) (Err q) f g = absurd (refused_done (number q) (frame_of c) (g.answer ∙ sym f.answer))
one_read a (Err r) (Ok d) f g = absurd (refused_done (number r) (frame_of d) (f.answer ∙ sym g.answer))
one_read a (Err r) (Err q) f g =
    let same : ◌≡◌ {A = Answer Frame} (refused (number r)) (refused (number q)) = f.answer ∙ sym g.answer in
    ap Err (number_only r q cc)

-- WHAT WAS WRITTEN

-- a frame that was written had room, and it is the line
fitted_line : (room : ℕ) (f : Frame) (n : ℕ) → done n ≡ length_in (fitted room (line_of f)) → (fitted room (line_of f) ≡ done (line_of f)) × (n ≡ length (line_of f))
fitted_line room f n = go (ltb room (length (line_of f))) refl
  where
    go : (b : Bool) → ltb room (length (line_of f)) ≡ b → done n ≡ length_in (fitted room (line_of f))
        → (fitted room (line_of f) ≡ done (line_of f)) × (n ≡ length (line_of f))
    go true e h = absurd (refused_done 16 n (sym (rw e at h)))
    go false e h = let q : done n ≡ done (length (line_of f)) = rw e at h in (rw e refl, cc)

-- and its entries were not refused
record Passed (room : ℕ) (f : Frame) : Type 0 where
  entries : entries_refusal (keys_of f) ≡ 0
  on : write_frame room f ≡ fitted room (line_of f)

passed_by : (room : ℕ) (f : Frame) → ltb 32 (length (keys_of f)) ≡ false → rising (keys_of f) ≡ true → Passed room f
passed_by room f e g = record { entries = rw (e, g) refl; on = rw (e, g) refl }

written_passed : (room : ℕ) (f : Frame) (n : ℕ) → done n ≡ length_in (write_frame room f) → Passed room f
written_passed room f n = go (ltb 32 (length (keys_of f))) (rising (keys_of f)) refl refl
  where
    go : (b t : Bool) → ltb 32 (length (keys_of f)) ≡ b → rising (keys_of f) ≡ t → done n ≡ length_in (write_frame room f) → Passed room f
    go true t e g h = absurd (refused_done 11 n (sym (rw e at h)))
    go false false e g h = absurd (refused_done 12 n (sym (rw (e, g) at h)))
    go false true e g h = passed_by room f e g

-- entries that are not refused pass
zero_passed : (room : ℕ) (f : Frame) → entries_refusal (keys_of f) ≡ 0 → Passed room f
zero_passed room f = go (ltb 32 (length (keys_of f))) (rising (keys_of f)) refl refl
  where
    go : (b t : Bool) → ltb 32 (length (keys_of f)) ≡ b → rising (keys_of f) ≡ t → entries_refusal (keys_of f) ≡ 0 → Passed room f
    go true t e g h = let z : ◌≡◌ {A = ℕ} 11 0 = rw e at h in absurd (omega arith)
    go false false e g h = let z : ◌≡◌ {A = ℕ} 12 0 = rw (e, g) at h in absurd (omega arith)
    go false true e g h = passed_by room f e g

-- READ BACK

-- a line that was written is read as its frame
line_back : (f : Frame) (a : Answer (List ℕ)) (l₀ l : List ℕ) (n : ℕ) (r : Result Contents Refusal) → a ≡ done (line_of f) → n ≡ length (line_of f)
    → l ≡ line_after a l₀ → read_line (line_of f) ≡ done f → Reads (read_line (take n l)) r → r ≡ Ok (contents_of f)
line_back f a l₀ l n r e k w h g =
    let front : take n l ≡ line_of f =
    ap (take n) (w ∙ ap (λ (x : Answer (List ℕ)). line_after x l₀) e) ∙ take_at (line_of f) (drop (length (line_of f)) l₀) n (sym k) in
    let same : read_line (take n l) ≡ done f = ap read_line front ∙ h in
    holds r (g.answer ∙ same) g.zeros
  where
    holds : (x : Result Contents Refusal) → frame_told x ≡ done f → ((c : Contents) → x ≡ Ok c → c ≡ contents_of (frame_of c)) → x ≡ Ok (contents_of f)
    holds (Ok c) q z = let frame : frame_of c ≡ f = cc in ap Ok (z c refl ∙ ap contents_of frame)
    holds (Err m) q z = absurd (refused_done (number m) f q)

pub reads_written : ReadsWritten
reads_written c l₀ l n r fit w g =
    let f : Frame = frame_of c in
    let p : Passed (length l₀) (frame_of c) = written_passed (length l₀) f n w.answer in
    let q = fitted_line (length l₀) f n (w.answer ∙ ap length_in p.on) in
    line_back f (write_frame (length l₀) f) l₀ l n r (p.on ∙ q.0) q.1 w.line (read_written f fit p.entries) g

pub reads_node : ReadsNode
reads_node p tree i l₀ l n r sound w g =
    go (frames_of (index_of p tree)) i (get_elem? (frames_of (index_of p tree)) i) refl
    (frames_read_lem (settings_in p tree) (elsewhere tree (forest_of p)) (index_of p tree) (sound_index p sound tree)) w
  where
    found : (fs : List Frame) (i : ℕ) (f : Frame) → All (λ x. read_line (line_of x) ≡ done x) fs → get_elem? fs i ≡ some f → read_line (line_of f) ≡ done f
    found [] i f none e = absurd (none-ne-some f e)
    found (x ∷ fs) zero f (one h hs) e = let q : x ≡ f = cc in subst (λ (y : Frame). read_line (line_of y) ≡ done y) q h
    found (x ∷ fs) (suc i) f (one h hs) e = found fs i f hs e

    go : (fs : List Frame) (i : ℕ) (o : Option Frame) → get_elem? fs i ≡ o → All (λ x. read_line (line_of x) ≡ done x) fs
        → Writes (written (length l₀) (get_elem? fs i)) l₀ (Ok n) l
        → (f : Frame) × ((get_elem? fs i ≡ some f) × (r ≡ Ok (contents_of f)))
    go fs i O.none e all v = absurd (refused_done 14 n (sym (v.answer ∙ ap (λ (o : Option Frame). length_in (written (length l₀) o)) e)))
    go fs i (some f) e all v =
        let on : written (length l₀) (get_elem? fs i) ≡ fitted (length l₀) (line_of f) = ap (written (length l₀)) e in
        let q = fitted_line (length l₀) f n (v.answer ∙ ap length_in on) in
        (f, (e, line_back f (written (length l₀) (get_elem? fs i)) l₀ l n r (on ∙ q.0) q.1 v.line (found fs i f all e) g))

-- WRITTEN BACK

pub writes_read : WritesRead
writes_read s l₀ l c w g room v =
    let f : Frame = frame_of c in
    let e : read_line s ≡ done (frame_of c) = sym g.answer in
    let same : line_of (frame_of c) ≡ s = write_read s f e in
    let p : Passed (length l₀) (frame_of c) = zero_passed (length l₀) f (read_fits s f e).1 in
    let fits : fitted (length l₀) (line_of (frame_of c)) ≡ done (line_of (frame_of c)) =
    rw (le-ltb (length l₀) (length (line_of (frame_of c))) (omega (arith, ap length same))) refl in
    let owed : write_frame (length l₀) (frame_of c) ≡ done s = p.on ∙ fits ∙ ap done same in
    (told_only w (Ok (length s)) (v.answer ∙ ap length_in owed), v.line ∙ ap (λ (x : Answer (List ℕ)). line_after x l₀) owed)
