-- What writing and reading a frame promise: document 01's number and values for each case of an answer, and every lent byte afterwards.
-- Assumes nothing.
use Rattle.std.specs.Prelude.{◌≡◌, List, ◌++◌, ℕ, length, drop, Result, Ok, Err}
use Rattle.model.specs.declared.Refusal.{Refusal}
use Rattle.model.specs.Answer.{Answer, refused, done, number, told}
use Rattle.model.specs.Frame.{Frame}
use Rattle.frame_text.specs.declared.Contents.{Contents}
use Rattle.frame_text.specs.Contents.{frame_of, contents_of}

-- WRITING gives the line's length

abbrev pub length_in : Answer (List ℕ) → Answer ℕ
length_in (done s) = done (length s)
length_in (refused n) = refused n

-- the lent line afterwards: nothing behind what was written is touched, and nothing at all by a refusal
abbrev pub line_after : Answer (List ℕ) → List ℕ → List ℕ
line_after (done s) l = s ++ drop (length s) l
line_after (refused n) l = l

-- a call that owes the answer a, and was lent the line l₀, gives r and leaves l
pub record Writes (a : Answer (List ℕ)) (l₀ : List ℕ) (r : Result ℕ Refusal) (l : List ℕ) : Type 0 where
  pub answer : told r ≡ length_in a
  pub line : l ≡ line_after a l₀

-- READING gives a kind and entries by value

abbrev pub frame_told : Result Contents Refusal → Answer Frame
frame_told (Ok c) = done (frame_of c)
frame_told (Err r) = refused (number r)

-- a call that owes the answer a gives r, in which every place that holds nothing is zero
pub record Reads (a : Answer Frame) (r : Result Contents Refusal) : Type 0 where
  pub answer : frame_told r ≡ a
  pub zeros : (c : Contents) → r ≡ Ok c → c ≡ contents_of (frame_of c)
