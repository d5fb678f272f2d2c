-- A listing in portions: what document 02 says of it (A5), of the calls, whatever answers keep the promises. Assumes nothing.
use Rattle.std.specs.Prelude.{ℕ, ◌+◌, ◌<◌, ◌≡◌, Bool, true, false, List, [], ◌∷◌, map, take, Result, Ok}
use Rattle.words.specs.Words.{words}
use Rattle.model.specs.declared.Entry.{Entry}
use Rattle.model.specs.declared.Bound.{Bound}
use Rattle.model.specs.declared.Sift.{Sift}
use Rattle.model.specs.Lists.{concat, times, All}
use Rattle.model.specs.Tree.{entries_of}
use Rattle.model.specs.declared.Refusal.{Refusal}
use Rattle.model.specs.Answer.{done, told}
use Rattle.model.specs.Look.{due_in}
use Rattle.model.specs.Sound.{Sorted}
use Rattle.tree.specs.Pool.{index_of}
use Rattle.look_output.specs.declared.Scanned.{Scanned}
use Rattle.look_output.specs.Output.{read_entries, room_in}
use Rattle.look_portion.specs.declared.Portion.{Portion}
use Rattle.look_portion.specs.Portion.{upwards, next_start, entry_keys}
use Rattle.index_promise.specs.Promise.{Scans, Portions}

-- A MOMENT of a listing: the pool as it is then, the output that is lent, what the portion tells, and the output after it
pub record Moment : Type 0 where
  pub pool : List ℕ
  pub out : List ℕ
  pub told : Portion
  pub after : List ℕ

-- the size of the portion, and the entries that stand in the output: what the caller is shown
abbrev pub size_of : Moment → ℕ
size_of m = room_in m.out

abbrev pub shown_at : Moment → List Entry
shown_at m = read_entries m.told.scanned.written (words m.after)

-- of all moments together
abbrev pub sizes : List Moment → ℕ
sizes [] = 0
sizes (m ∷ ms) = size_of m + sizes ms

abbrev pub shown_in : List Moment → List Entry
shown_in ms = concat (map shown_at ms)

-- what tree i of a pool holds
abbrev pub held_in : ℕ → List ℕ → List Entry
held_in i l = entries_of (index_of l i)

-- A LISTING of tree i up to some end, of the sizes that a sift lets pass
module _ (i : ℕ) (end : Bound) (sift : Sift) where
  -- the portion from a start was done at a moment
  abbrev pub DoneAt : Bound → Moment → Type 0
  DoneAt start m = Portions m.pool i start end sift m.out (Ok m.told) m.after

  -- Each portion starts where the one before it said, and the first that ends the listing is the last. It may not have ended yet. No word is said of the
  -- pools: whatever happened between two moments, each is a pool of which the portion was done.
  pub data InPortions : Bound → Bool → List Moment → Type 0 where
    begun : {start : Bound} → InPortions start false []
    goes_on : {start : Bound} {b : Bool} {m : Moment} {ms : List Moment} → DoneAt start m → m.told.ended ≡ false → InPortions m.told.next b ms
        → InPortions start b (m ∷ ms)
    over : {start : Bound} {m : Moment} → DoneAt start m → m.told.ended ≡ true → InPortions start true (m ∷ [])

  -- what is due from a start on in tree i of a pool: live, in range, and over the sift
  abbrev pub due_of : Bound → List ℕ → List Entry
  due_of start l = due_in (upwards start end sift) (held_in i l)

  -- a key is live, in range and over the sift at a moment
  abbrev pub DueAt : Bound → ℕ → Moment → Type 0
  DueAt start k m = 0 < times k (entry_keys (due_of start m.pool))

-- EACH PORTION IS RIGHT for the tree at its moment: it tells and writes what a scan of that pool from its start does
abbrev pub EachRight : Type 0
EachRight =
    (i : ℕ) (start end : Bound) (sift : Sift) (m : Moment) (r : Result Scanned Refusal) (out' : List ℕ) → DoneAt i end sift start m
    → Scans m.pool i (upwards start end sift) m.out r out' → (told r ≡ done m.told.scanned) × (out' ≡ m.after)

-- EACH STARTS AFTER THE LAST KEY SHOWN, and where none was shown it starts where the one before it did
abbrev pub StartsAfter : Type 0
StartsAfter = (i : ℕ) (start end : Bound) (sift : Sift) (m : Moment) → DoneAt i end sift start m → m.told.next ≡ next_start start (shown_at m)

-- WITH NO BATCH BETWEEN THEM the portions joined are the whole scan: one with room for all of it shows the same entries. So it is wherever the tree holds
-- the same at every moment, also with batches on the other tree and with refused ones between them.
abbrev pub Joined : Type 0
Joined =
    (i : ℕ) (start end : Bound) (sift : Sift) (ms : List Moment) (l out : List ℕ) (s : Scanned) (out' : List ℕ) → InPortions i end sift start true ms
    → All (λ m. held_in i m.pool ≡ held_in i l) ms → Scans l i (upwards start end sift) out (Ok s) out' → s.more ≡ false
    → shown_in ms ≡ read_entries s.written (words out')

-- and while the listing goes on they are as much of it as their sizes together
abbrev pub JoinedSoFar : Type 0
JoinedSoFar =
    (i : ℕ) (start end : Bound) (sift : Sift) (b : Bool) (ms : List Moment) (l : List ℕ) → InPortions i end sift start b ms
    → All (λ m. held_in i m.pool ≡ held_in i l) ms → shown_in ms ≡ take (sizes ms) (due_of i end sift start l)

-- WHATEVER HAPPENED BETWEEN THEM, a key that is live, in range and over the sift at every one of the moments is shown exactly once before the listing ends
abbrev pub ShownOnce : Type 0
ShownOnce =
    (i : ℕ) (start end : Bound) (sift : Sift) (ms : List Moment) (k : ℕ) → InPortions i end sift start true ms → All (DueAt i end sift start k) ms
    → times k (entry_keys (shown_in ms)) ≡ 1

-- and no portion repeats a key: those shown ascend strictly from the first portion to the last, ended or not
abbrev pub NeverTwice : Type 0
NeverTwice = (i : ℕ) (start end : Bound) (sift : Sift) (b : Bool) (ms : List Moment) → InPortions i end sift start b ms → Sorted (shown_in ms)

-- THE LISTING ENDS with the first portion of size above zero that has no more due
pub record EndsThere (m : Moment) : Type 0 where
  pub ended : m.told.ended ≡ true → (0 < size_of m) × (m.told.scanned.more ≡ false)
  pub ends : 0 < size_of m → m.told.scanned.more ≡ false → m.told.ended ≡ true

abbrev pub EndsFirst : Type 0
EndsFirst = (i : ℕ) (start end : Bound) (sift : Sift) (m : Moment) → DoneAt i end sift start m → EndsThere m

-- A PORTION OF SIZE ZERO shows nothing, keeps its starting point, and ends nothing
pub record ShowsNothing (from : Bound) (m : Moment) : Type 0 where
  pub none : m.told.scanned.written ≡ 0
  pub output : m.after ≡ m.out
  pub start : m.told.next ≡ from
  pub onwards : m.told.ended ≡ false

abbrev pub SizeZero : Type 0
SizeZero = (i : ℕ) (start end : Bound) (sift : Sift) (m : Moment) → DoneAt i end sift start m → size_of m ≡ 0 → ShowsNothing start m
