-- What each call promises: it reports an answer that keeps the promise of crate index, or of crate frame_text where no pool is given. Assumes nothing.
use Rattle.std.specs.Prelude.{ℕ, ◌≡◌, List, length, Result}
use Rattle.model.specs.declared.PoolSettings.{PoolSettings}
use Rattle.model.specs.declared.Refusal.{Refusal}
use Rattle.model.specs.Answer.{Answer, told, code}
use Rattle.model.specs.declared.Bound.{Bound}
use Rattle.model.specs.declared.Sift.{Sift}
use Rattle.model.specs.declared.Request.{Request}
use Rattle.model.specs.Refuse.{Call}
use Rattle.model.specs.Frame.{Frame, write_frame}
use Rattle.frame_text.specs.Answers.{Writes}
use Rattle.index_promise.specs.Promise.{Opens, Totalling, Batches, Gets, Scans, Portions, Frames, Packs}
use Rattle.index_c_told.specs.Told.{Reports, total_numbers, count_numbers, listed_numbers, scanned_numbers, PortionBuffers, buffers_after}
use Rattle.index_c_given.specs.Given.{start_for}
use Rattle.index_c_fields.specs.Fields.{Fields, frame_fields}

-- a promise of an answer is kept by one that is reported, whose values are put by f into a small buffer that was b
abbrev pub Kept : {A B : Type 0} → (Result A Refusal → Type 0) → (A → B) → B → ℕ → B → Type 0
Kept {A = A} promise f b r b' = (a : Result A Refusal) × (promise a × Reports f (told a) b r b')

-- OPENING a pool l with the settings given; there is no small buffer
abbrev pub OpenCall : PoolSettings → List ℕ → ℕ → List ℕ → Type 0
OpenCall given l r l' = (a : Result (Unit {0}) Refusal) × (Opens given l a l' × (r ≡ code a))

-- PACKING a pool l into a pool m; there is no small buffer either
abbrev pub PackCall : List ℕ → List ℕ → ℕ → List ℕ → Type 0
PackCall l m r m' = (a : Result (Unit {0}) Refusal) × (Packs l m a m' × (r ≡ code a))

-- of tree i of the pool l, and the small buffer b

abbrev pub TotalsCall : List ℕ → ℕ → List ℕ → ℕ → List ℕ → Type 0
TotalsCall l i b r b' = Kept (Totalling l i) total_numbers b r b'

abbrev pub BatchCall : ℕ → Call → List ℕ → List ℕ → ℕ → List ℕ → List ℕ → Type 0
BatchCall i c l b r l' b' = Kept (λ a. Batches i c l a l') count_numbers b r b'

abbrev pub GetCall : List ℕ → ℕ → List ℕ → List ℕ → List ℕ → ℕ → List ℕ → List ℕ → Type 0
GetCall l i ks out b r out' b' = Kept (λ a. Gets l i ks out a out') listed_numbers b r b'

abbrev pub ScanCall : List ℕ → ℕ → Request → List ℕ → List ℕ → ℕ → List ℕ → List ℕ → Type 0
ScanCall l i q out b r out' b' = Kept (λ a. Scans l i q out a out') scanned_numbers b r b'

-- there are two small buffers; the numbers of `from` say where the portion starts
abbrev pub PortionCall : List ℕ → ℕ → Bound → Sift → List ℕ → PortionBuffers → ℕ → List ℕ → PortionBuffers → Type 0
PortionCall l i end sift out b r out' b' = Kept (λ a. Portions l i (start_for b.from) end sift out a out') (buffers_after b.from) b r b'

-- the small buffer is one number, the line's length
abbrev pub FrameCall : List ℕ → ℕ → ℕ → List ℕ → ℕ → ℕ → List ℕ → ℕ → Type 0
FrameCall l i n line b r line' b' = Kept (λ a. Frames l i n line a line') (λ n. n) b r b'

-- WITHOUT A POOL

-- the frame f is written into a line
abbrev pub WriteCall : Frame → List ℕ → ℕ → ℕ → List ℕ → ℕ → Type 0
WriteCall f line b r line' b' = Kept (λ (a : Result ℕ Refusal). Writes (write_frame (length line) f) line a line') (λ n. n) b r b'

-- the answer a is read into the buffers of a frame
abbrev pub ReadCall : Answer Frame → Fields → ℕ → Fields → Type 0
ReadCall a b r b' = Reports frame_fields a b r b'
