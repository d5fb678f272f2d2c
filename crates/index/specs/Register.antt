-- The register: what document 01's third demand says of the calls together, tree by tree, whatever answers keep the promises. Assumes nothing.
use Rattle.std.specs.Prelude.{ℕ, ◌<◌, ◌≡◌, ◌≢◌, false, cond, List, [], ◌∷◌, map, length, eqb, Result, Ok}
use Rattle.model.specs.declared.PoolSettings.{PoolSettings}
use Rattle.model.specs.declared.Totals.{Totals}
use Rattle.model.specs.declared.Counts.{Counts}
use Rattle.model.specs.declared.Refusal.{Refusal}
use Rattle.model.specs.declared.Entry.{Entry}
use Rattle.model.specs.Lists.{All}
use Rattle.model.specs.Tree.{entries_of, adds, sum_of}
use Rattle.model.specs.Plain.{plain_list, plain_counts, no_counts}
use Rattle.model.specs.Answer.{Answer, refused, done, told}
use Rattle.model.specs.declared.Bound.{Bound}
use Rattle.model.specs.declared.Sift.{Sift}
use Rattle.model.specs.declared.Request.{Request}
use Rattle.model.specs.Look.{Listing, listing, found, due_in}
use Rattle.model.specs.Refuse.{Call, tasks_of, descend}
use Rattle.model.specs.Demands.{Lent, Apart}
use Rattle.tree.specs.Pool.{SoundPool, index_of}
use Rattle.look_output.specs.declared.Listed.{Listed}
use Rattle.look_output.specs.declared.Scanned.{Scanned}
use Rattle.look_output.specs.Output.{room_in}
use Rattle.look_portion.specs.declared.Portion.{Portion}
use Rattle.look_portion.specs.Portion.{upwards, next_start, ends_listing}
use Rattle.index_promise.specs.Promise.{Opens, Totalling, Batches, Gets, Scans, Portions, listed, written}

-- A TREE OF A POOL THAT ANSWERS FROM A PLAIN LIST

-- a scan's answer, but for the nodes opened
abbrev pub swept_of : Listing → ℕ → Scanned
swept_of g n = record { written = length g.written; more = g.more; opened = n }

-- and a portion's, from a start, with room for so many
abbrev pub portion_of : Bound → ℕ → Listing → ℕ → Portion
portion_of start size g n = record { scanned = swept_of g n; next = next_start start g.written; ended = ends_listing size g.more }

-- tree i of the pool l holds exactly the entries es, dead ones too, and every lookup, scan list, portion and totals call that names it answers from
-- them
pub record AnswersFrom (i : ℕ) (es : List Entry) (l : List ℕ) : Type 0 where
  pub sound : SoundPool l
  pub holds : entries_of (index_of l i) ≡ es
  pub totals : (r : Result Totals Refusal) → Totalling l i r → told r ≡ done (sum_of (map adds es))
  pub gets : (ks out : List ℕ) (r : Result Listed Refusal) (out' : List ℕ) → descend ks ≡ false → Gets l i ks out r out'
      → (told r ≡ done (listed (listing (room_in out) (found ks es)))) × (out' ≡ written out (listing (room_in out) (found ks es)))
  pub scans : (q : Request) (out : List ℕ) (r : Result Scanned Refusal) (out' : List ℕ) → Scans l i q out r out'
      → ((opened : ℕ) × (told r ≡ done (swept_of (listing (room_in out) (due_in q es)) opened))) × (out' ≡ written out (listing (room_in out) (due_in q es)))
  pub portions : (start end : Bound) (sift : Sift) (out : List ℕ) (r : Result Portion Refusal) (out' : List ℕ) → Portions l i start end sift out r out'
      → let g = listing (room_in out) (due_in (upwards start end sift) es) in
      ((opened : ℕ) × (told r ≡ done (portion_of start (room_in out) g opened))) × (out' ≡ written out g)

-- ANY SEQUENCE OF BATCHES

-- a batch that was called, the tree that it named, and its answer
pub record Turn : Type 0 where
  pub tree : ℕ
  pub call : Call
  pub answer : Result Counts Refusal

-- these batches, one after the other, make the pool l the pool k
pub data Runs : List Turn → List ℕ → List ℕ → Type 0 where
  rest : {l : List ℕ} → Runs [] l l
  next : {t : Turn} {ts : List Turn} {l m k : List ℕ} → Batches t.tree t.call l t.answer m → Runs ts m k → Runs (t ∷ ts) l k

-- the plain list after a batch: its keys are taken one at a time if it was accepted, and a refused one does nothing
abbrev pub plain_after : Call → Answer Counts → List Entry → List Entry
plain_after c (refused n) es = es
plain_after c (done k) es = plain_list (tasks_of c) es

-- after a turn the list of tree i is another only where the turn named it
abbrev pub plain_turn : ℕ → Turn → List Entry → List Entry
plain_turn i t es = cond (eqb t.tree i) (plain_after t.call (told t.answer) es) es

abbrev pub plain_run : ℕ → List Turn → List Entry → List Entry
plain_run i [] es = es
plain_run i (t ∷ ts) es = plain_run i ts (plain_turn i t es)

-- the counts of each accepted batch on tree i are the plain list's
abbrev pub CountedBy : Call → Answer Counts → List Entry → Type 0
CountedBy c (refused n) es = Unit {0}
CountedBy c (done k) es = k ≡ plain_counts (tasks_of c) es no_counts

abbrev pub Counted : ℕ → List Turn → List Entry → Type 0
Counted i [] es = Unit {0}
Counted i (t ∷ ts) es = (t.tree ≡ i → CountedBy t.call (told t.answer) es) × Counted i ts (plain_turn i t es)

-- from any pool whose tree i answers from es, after any sequence of batches on either tree, accepted or refused, that tree answers from its plain list
abbrev pub Onwards : Type 0
Onwards =
    (i : ℕ) (es : List Entry) (l now : List ℕ) (ts : List Turn) → i < 2 → All (λ t. Lent t.call) ts → AnswersFrom i es l → Runs ts l now
    → AnswersFrom i (plain_run i ts es) now × Counted i ts es

-- and so from a newly opened pool, whose trees have no entries
abbrev pub Demand3 : Type 0
Demand3 =
    (given : PoolSettings) (i : ℕ) (l new now : List ℕ) (ts : List Turn) → i < 2 → All (λ t. Lent t.call) ts → Opens given l (Ok tt) new
    → Runs ts new now → AnswersFrom i (plain_run i ts []) now × Counted i ts []

-- TWO NEIGHBOURING BATCHES, both accepted in either order, may change places

pub record Swapped (first second first' second' : Counts) (l k : List ℕ) : Type 0 where
  -- each has the same counts, first or second
  pub one : first ≡ first'
  pub other : second ≡ second'
  -- and every get, scan list, portion and totals call of either tree straight after the pair the same answer
  pub entries : ℕ → List Entry
  pub this : (i : ℕ) → i < 2 → AnswersFrom i (entries i) l
  pub that : (i : ℕ) → i < 2 → AnswersFrom i (entries i) k

-- on one tree where they share no key
abbrev pub Swap : Type 0
Swap =
    (i : ℕ) (c d : Call) (l m k m' k' : List ℕ) (x y x' y' : Counts) → Lent c → Lent d → Apart c d
    → Batches i c l (Ok x) m → Batches i d m (Ok y) k
    → Batches i d l (Ok y') m' → Batches i c m' (Ok x') k'
    → Swapped x y x' y' k k'

-- on different trees whatever their keys
abbrev pub SwapTrees : Type 0
SwapTrees =
    (i j : ℕ) (c d : Call) (l m k m' k' : List ℕ) (x y x' y' : Counts) → i ≢ j → Lent c → Lent d
    → Batches i c l (Ok x) m → Batches j d m (Ok y) k
    → Batches j d l (Ok y') m' → Batches i c m' (Ok x') k'
    → Swapped x y x' y' k k'
