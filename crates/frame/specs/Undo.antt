-- What follows from the promises of `write`, `write_node` and `read` alone: there is one answer, and writing and reading undo each other.
-- proofs/Undoes.antt proves each statement here. Assumes nothing.
use Rattle.std.specs.Prelude.{◌≡◌, List, ◌++◌, ℕ, ◌≤◌, length, take, drop, Result, Ok}
use Rattle.std.proofs.Math.Option.{some}
use Rattle.std.proofs.Math.ListN.{get_elem?}
use Rattle.model.specs.declared.Refusal.{Refusal}
use Rattle.model.specs.Answer.{Answer}
use Rattle.model.specs.Frame.{Frame, frames_of, write_frame, write_node}
use Rattle.model.specs.ReadFrame.{read_line}
use Rattle.model.specs.Sound.{FrameFits}
use Rattle.tree.specs.Pool.{index_of, SoundPool}
use Rattle.frame_text.specs.declared.Contents.{Contents}
use Rattle.frame_text.specs.Contents.{frame_of, contents_of}
use Rattle.frame_text.specs.Answers.{Writes, Reads}

-- ONE ANSWER

abbrev pub OneWritten : Type 0
OneWritten = (a : Answer (List ℕ)) (l₀ l m : List ℕ) (r q : Result ℕ Refusal) → Writes a l₀ r l → Writes a l₀ q m → (r ≡ q) × (l ≡ m)

abbrev pub OneRead : Type 0
OneRead = (a : Answer Frame) (r q : Result Contents Refusal) → Reads a r → Reads a q → r ≡ q

-- WHAT WAS WRITTEN IS READ BACK

-- from a kind and entries, which are numbers of their types
abbrev pub ReadsWritten : Type 0
ReadsWritten =
    (c : Contents) (l₀ l : List ℕ) (n : ℕ) (r : Result Contents Refusal) → FrameFits (frame_of c)
    → Writes (write_frame (length l₀) (frame_of c)) l₀ (Ok n) l → Reads (read_line (take n l)) r → r ≡ Ok (contents_of (frame_of c))

-- from a sound pool: frame i of one of its trees
abbrev pub ReadsNode : Type 0
ReadsNode =
    (p : List ℕ) (tree i : ℕ) (l₀ l : List ℕ) (n : ℕ) (r : Result Contents Refusal) → SoundPool p
    → Writes (write_node i (length l₀) (index_of p tree)) l₀ (Ok n) l → Reads (read_line (take n l)) r
    → (f : Frame) × ((get_elem? (frames_of (index_of p tree)) i ≡ some f) × (r ≡ Ok (contents_of f)))

-- WHAT WAS READ IS WRITTEN BACK, wherever its line has room
abbrev pub WritesRead : Type 0
WritesRead =
    (s l₀ l : List ℕ) (c : Contents) (w : Result ℕ Refusal) → Reads (read_line s) (Ok c) → length s ≤ length l₀
    → Writes (write_frame (length l₀) (frame_of c)) l₀ w l → (w ≡ Ok (length s)) × (l ≡ s ++ drop (length s) l₀)
