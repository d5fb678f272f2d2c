-- The bytes of a frame by its kind: header, entries, and what a reader makes of them. Assumes nothing.
use Rattle.std.specs.Prelude.{◌≡◌, ◌≢◌, List, map, ℕ, ◌+◌, ◌*◌, ◌%◌, eqb, length, Result, Ok, Err}
use Rattle.model.specs.declared.Refusal.{Refusal}
use Rattle.model.specs.declared.Refusal.TheVariants as Why
use Rattle.model.specs.Answer.{Answer}
use Rattle.model.specs.Frame.{Frame, leaf_bytes, branch_bytes}
use Rattle.model.specs.ReadFrame.{leaf_entry, branch, parts, leaf_frame, interior_frame, read_rest}
use Rattle.frame_text.specs.declared.Kind.{Kind}
use Rattle.frame_text.specs.declared.Kind.TheVariants.{Leaf, Interior}
use Rattle.frame_text.specs.declared.FrameEntry.{FrameEntry}
use Rattle.frame_text.specs.Contents.{entry_of, of_entry, branch_of, of_branch}

abbrev pub header_of : Kind → ℕ
header_of Leaf = 1
header_of Interior = 0

-- what a first byte says: a kind, or refusal 13 where it is no kind's
abbrev pub Heads : ℕ → Result Kind Refusal → Type 0
Heads n (Ok k) = n ≡ header_of k
Heads n (Err why) = (why ≡ Why.UnknownHeader) × ((k : Kind) → n ≢ header_of k)

-- how many bytes an entry has
abbrev pub width_of : Kind → ℕ
width_of Leaf = 20
width_of Interior = 28

-- the byte at which entry i starts, behind the header
abbrev pub start_of : Kind → ℕ → ℕ
start_of Leaf i = 1 + 20 * i
start_of Interior i = 1 + 28 * i

-- an entry's bytes, and the entry that bytes begin with
abbrev pub code_of : Kind → FrameEntry → List ℕ
code_of Leaf e = leaf_bytes (entry_of e)
code_of Interior e = branch_bytes (branch_of e)

abbrev pub entry_in : Kind → List ℕ → FrameEntry
entry_in Leaf bs = of_entry (leaf_entry bs)
entry_in Interior bs = of_branch (branch bs)

-- n entries, one behind the other
abbrev pub entries_in : Kind → ℕ → List ℕ → List FrameEntry
entries_in k n bs = map (entry_in k) (parts n (width_of k) bs)

-- what reading owes where these bytes stand behind a header
abbrev pub rest_of : Kind → List ℕ → Answer Frame
rest_of Leaf bs = read_rest (eqb (length bs % 20) 0) (leaf_frame bs)
rest_of Interior bs = read_rest (eqb (length bs % 28) 0) (interior_frame bs)
