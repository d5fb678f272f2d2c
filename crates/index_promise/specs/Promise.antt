-- What each call answers, and what it leaves in the bytes that are lent to it: document 01, call by call. Assumes nothing.
use Rattle.std.specs.Prelude.{ℕ, ◌≡◌, List, ◌++◌, length, drop, Result}
use Rattle.model.specs.declared.PoolSettings.{PoolSettings}
use Rattle.model.specs.declared.Totals.{Totals}
use Rattle.model.specs.declared.Counts.{Counts}
use Rattle.model.specs.Tree.{totals_of}
use Rattle.model.specs.declared.Refusal.{Refusal}
use Rattle.model.specs.Answer.{Answer, refused, done, told}
use Rattle.model.specs.declared.Bound.{Bound}
use Rattle.model.specs.declared.Sift.{Sift}
use Rattle.model.specs.declared.Request.{Request}
use Rattle.model.specs.Look.{Listing, Scanned, scan}
use Rattle.model.specs.Refuse.{Call, get}
use Rattle.model.specs.Frame.{write_node}
use Rattle.model.specs.Forest.{replant, new_forest, named, answer_at}
use Rattle.model_pack.specs.PackForest.{pack_forest}
use Rattle.model.specs.Sound.{PoolLimits}
use Rattle.tree.specs.Pool.{SoundPool, given_in, index_of, forest_of, image_of, pool_len}
use Rattle.look_output.specs.declared.Listed.{Listed}
use Rattle.look_output.specs.declared.Scanned as Told
use Rattle.look_output.specs.Output.{room_in, output_of}
use Rattle.look_portion.specs.declared.Portion.{Portion}
use Rattle.look_portion.specs.Portion.{Shown, portion}

-- r is a where P holds, and b where it does not
pub data Where (P : Type 0) {A : Type 0} (a b r : A) : Type 0 where
  holds : P → r ≡ a → Where P a b r
  fails : (P → ⊥) → r ≡ b → Where P a b r

-- an answer, and the lent bytes after it
pub record Left (A : Type 0) : Type 0 where
  pub answer : Answer A
  pub bytes : List ℕ

infixl 4 ◌leaving◌
abbrev pub ◌leaving◌ : {A : Type 0} → Answer A → List ℕ → Left A
a leaving l = record { answer = a; bytes = l }

-- a refusal leaves the lent bytes as they were
abbrev pub leaves : {A B : Type 0} → (A → B) → (A → List ℕ) → List ℕ → Answer A → Left B
leaves says bytes l (refused n) = refused n leaving l
leaves says bytes l (done a) = done (says a) leaving bytes a

-- where the pool is not sound
abbrev pub unsound : {A : Type 0} → List ℕ → Left A
unsound l = refused 2 leaving l

-- OPENING a pool of the bytes l with some settings

abbrev pub Opens : PoolSettings → List ℕ → Result (Unit {0}) Refusal → List ℕ → Type 0
Opens given l r l' =
    Where (PoolLimits given × (length l ≡ pool_len given)) (done tt leaving image_of given (new_forest given.nodes)) (refused 1 leaving l)
    (told r leaving l')

-- TOTALS of tree i of the pool l

abbrev pub Totalling : List ℕ → ℕ → Result Totals Refusal → Type 0
Totalling l i r = Where (SoundPool l) (named i (done (totals_of (index_of l i)))) (refused 2) (told r)

-- A BATCH c on tree i of the pool l

abbrev pub Batches : ℕ → Call → List ℕ → Result Counts Refusal → List ℕ → Type 0
Batches i c l r l' =
    Where (SoundPool l)
    (leaves (λ b. b.counts) (λ b. image_of (given_in l) (replant i b.index (forest_of l))) l (answer_at (given_in l) i c (forest_of l)))
    (unsound l) (told r leaving l')

-- GET AND SCAN write the first entries that fit whole, and leave every byte behind them as it was

abbrev pub listed : Listing → Listed
listed g = record { written = length g.written; more = g.more }

abbrev pub written : List ℕ → Listing → List ℕ
written out g = output_of g.written out

abbrev pub Gets : List ℕ → ℕ → List ℕ → List ℕ → Result Listed Refusal → List ℕ → Type 0
Gets l i ks out r out' =
    Where (SoundPool l) (leaves listed (written out) out (named i (get ks (room_in out) (index_of l i)))) (unsound out) (told r leaving out')

abbrev pub swept : Scanned → Told.Scanned
swept s = record { written = length s.listed.written; more = s.listed.more; opened = s.opened }

abbrev pub Scans : List ℕ → ℕ → Request → List ℕ → Result Told.Scanned Refusal → List ℕ → Type 0
Scans l i q out r out' =
    Where (SoundPool l) (leaves swept (λ s. written out s.listed) out (named i (done (scan q (room_in out) (index_of l i))))) (unsound out)
    (told r leaving out')

-- A PORTION of a listing is told and written as its scan is; it tells besides where the next one starts, and whether the listing has ended

abbrev pub shown : Shown → Portion
shown p = record { scanned = swept p.scanned; next = p.next; ended = p.ended }

abbrev pub Portions : List ℕ → ℕ → Bound → Bound → Sift → List ℕ → Result Portion Refusal → List ℕ → Type 0
Portions l i start end sift out r out' =
    Where (SoundPool l)
    (leaves shown (λ p. written out p.scanned.listed) out (named i (done (portion start end sift (room_in out) (index_of l i))))) (unsound out)
    (told r leaving out')

-- THE N-TH FRAME of tree i of the pool l, written into a line; every byte behind it is as it was. What writing a frame from a kind and entries, and reading one,
-- promise stands in crate frame_text (specs/Answers): these two are given no pool.

abbrev pub Frames : List ℕ → ℕ → ℕ → List ℕ → Result ℕ Refusal → List ℕ → Type 0
Frames l i n line r line' =
    Where (SoundPool l) (leaves length (λ s. s ++ drop (length s) line) line (named i (write_node n (length line) (index_of l i)))) (unsound line)
    (told r leaving line')

-- PACKING both trees of the pool l into the pool m, which alone is written

abbrev pub Packs : List ℕ → List ℕ → Result (Unit {0}) Refusal → List ℕ → Type 0
Packs l m r m' =
    Where (SoundPool l × SoundPool m) (leaves (λ f. tt) (image_of (given_in m)) m (pack_forest (given_in l) (given_in m) (forest_of l) (forest_of m)))
    (unsound m) (told r leaving m')
