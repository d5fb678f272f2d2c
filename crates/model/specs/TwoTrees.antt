-- What document 02 demands of two trees in one pool (A4), said of the definitions. proofs/Forest.antt and proofs/TwoTrees.antt prove the statements
-- here. Assumes nothing.
use Rattle.std.specs.Prelude.{◌≡◌, ◌≢◌, cond, List, [], ◌∷◌, ℕ, ◌<◌, eqb}
use Rattle.model.specs.declared.Entry.{Entry}
use Rattle.model.specs.declared.PoolSettings.{PoolSettings}
use Rattle.model.specs.declared.Request.{Request}
use Rattle.model.specs.Lists.{All}
use Rattle.model.specs.Tree.{Index, entries_of, totals_of}
use Rattle.model.specs.Plain.{plain_list, plain_counts, no_counts}
use Rattle.model.specs.Look.{get_all, scan}
use Rattle.model.specs.Frame.{frames_of}
use Rattle.model.specs.Refuse.{Call, tasks_of, refusal}
use Rattle.model.specs.Demands.{Lent, plain_after, AnswersFrom, Apart}
use Rattle.model.specs.Sound.{handed, PoolLimits}
use Rattle.model.specs.Forest.{Forest, planted, tree_of, other, replant, new_forest, SoundForest, refusal_at, batch_at, answer_at, forest_after}

-- A NEW POOL is sound
abbrev pub NewForestSound : Type 0
NewForestSound = (g : PoolSettings) → PoolLimits g → SoundForest g (new_forest g.nodes)

-- ONE BATCH that is not refused does to its tree what its keys, one at a time, do to the plain list, and its counts are the plain list's; the forest
-- is sound again, and the other tree is as it was

-- the forest after it
abbrev pub done_at : PoolSettings → ℕ → Call → Forest → Forest
done_at g i c f = replant i (batch_at g i c f).index f

pub record BatchesAt (g : PoolSettings) (i : ℕ) (c : Call) (f : Forest) : Type 0 where
  pub sound : SoundForest g (done_at g i c f)
  pub list : entries_of (tree_of i (done_at g i c f)) ≡ plain_list (tasks_of c) (entries_of (tree_of i f))
  pub counts : (batch_at g i c f).counts ≡ plain_counts (tasks_of c) (entries_of (tree_of i f)) no_counts
  pub left : (batch_at g i c f).tasks ≡ []
  pub tree : tree_of i (done_at g i c f) ≡ (batch_at g i c f).index
  pub apart : planted (other i) (done_at g i c f) ≡ planted (other i) f

abbrev pub OneBatchAt : Type 0
OneBatchAt = (g : PoolSettings) (i : ℕ) (c : Call) (f : Forest) → SoundForest g f → Lent c → refusal_at g i c f ≡ 0 → BatchesAt g i c f

-- THE OTHER TREE, whatever is put in the place of tree i

-- every call that only reads answers the same of both, the nodes that a scan opens among them, and their frames are the same
pub record ReadsSame (x y : Index) : Type 0 where
  pub list : entries_of x ≡ entries_of y
  pub totals : totals_of x ≡ totals_of y
  pub gets : (ks : List ℕ) (room : ℕ) → get_all ks room x ≡ get_all ks room y
  pub scans : (q : Request) (room : ℕ) → scan q room x ≡ scan q room y
  pub frames : frames_of x ≡ frames_of y

abbrev pub Independent : Type 0
Independent = (i : ℕ) (x : Index) (f : Forest) → ReadsSame (tree_of (other i) (replant i x f)) (tree_of (other i) f)

-- a number of the table, 7 left out
abbrev pub but7 : ℕ → ℕ
but7 n = cond (eqb n 7) 0 n

-- what it may change there is refusal 7 alone
abbrev pub OtherRefusals : Type 0
OtherRefusals =
    (g : PoolSettings) (i : ℕ) (x : Index) (d : Call) (f : Forest)
    → let j = other i in
    but7 (refusal (handed g j) d (tree_of j (replant i x f))) ≡ but7 (refusal (handed g j) d (tree_of j f))

-- a slot that a batch on tree i leaves unused is unused for either tree
abbrev pub FreedServesEither : Type 0
FreedServesEither = (i j : ℕ) (x : Index) (f : Forest) → (tree_of j (replant i x f)).unused ≡ x.unused

-- ANY SEQUENCE OF BATCHES, on either tree

-- a batch and the tree that it names
pub record Turn : Type 0 where
  pub tree : ℕ
  pub call : Call

-- the forest after a turn, and after some; a refused one does nothing
abbrev pub after_turn : PoolSettings → Turn → Forest → Forest
after_turn g t f = forest_after t.tree f (answer_at g t.tree t.call f)

abbrev pub run_forest : PoolSettings → List Turn → Forest → Forest
run_forest g [] f = f
run_forest g (t ∷ ts) f = run_forest g ts (after_turn g t f)

-- the plain list of tree i after the accepted ones of these that name it, their keys taken one at a time
abbrev pub plain_turn : PoolSettings → ℕ → Turn → Forest → List Entry → List Entry
plain_turn g i t f es = cond (eqb t.tree i) (plain_after (refusal_at g t.tree t.call f) (tasks_of t.call) es) es

abbrev pub plain_for : PoolSettings → ℕ → List Turn → Forest → List Entry → List Entry
plain_for g i [] f es = es
plain_for g i (t ∷ ts) f es = plain_for g i ts (after_turn g t f) (plain_turn g i t f es)

-- from any sound forest on ..
abbrev pub Onwards : Type 0
Onwards =
    (g : PoolSettings) (ts : List Turn) (f : Forest) (i : ℕ) (es : List Entry) → i < 2 → All (λ t. Lent t.call) ts
    → SoundForest g f → entries_of (tree_of i f) ≡ es
    → SoundForest g (run_forest g ts f) × AnswersFrom (plain_for g i ts f es) (tree_of i (run_forest g ts f))

-- .. so from a new pool: demand 3, tree by tree
abbrev pub Demand3PerTree : Type 0
Demand3PerTree =
    (g : PoolSettings) (ts : List Turn) (i : ℕ) → i < 2 → PoolLimits g → All (λ t. Lent t.call) ts
    → let f = new_forest g.nodes in
    SoundForest g (run_forest g ts f) × AnswersFrom (plain_for g i ts f []) (tree_of i (run_forest g ts f))

-- TWO NEIGHBOURING BATCHES, c on tree i and d on tree j, both accepted in either order, may change places: the counts are the same, and so is the
-- answer to every get, scan list and totals call, of either tree, straight after the pair

pub record BothAccepted (g : PoolSettings) (i : ℕ) (c : Call) (j : ℕ) (d : Call) (f : Forest) : Type 0 where
  pub first : refusal_at g i c f ≡ 0
  pub then_second : refusal_at g j d (done_at g i c f) ≡ 0
  pub second : refusal_at g j d f ≡ 0
  pub then_first : refusal_at g i c (done_at g j d f) ≡ 0

pub record ChangePlacesAt (g : PoolSettings) (i : ℕ) (c : Call) (j : ℕ) (d : Call) (f : Forest) : Type 0 where
  pub first : (batch_at g i c f).counts ≡ (batch_at g i c (done_at g j d f)).counts
  pub second : (batch_at g j d (done_at g i c f)).counts ≡ (batch_at g j d f).counts
  pub same : (k : ℕ) → AnswersFrom (entries_of (tree_of k (done_at g i c (done_at g j d f)))) (tree_of k (done_at g j d (done_at g i c f)))

-- on one tree, where they share no key
abbrev pub SwapSame : Type 0
SwapSame =
    (g : PoolSettings) (i : ℕ) (c d : Call) (f : Forest) → SoundForest g f → Lent c → Lent d → Apart c d → BothAccepted g i c i d f
    → ChangePlacesAt g i c i d f

-- on different trees, whatever their keys
abbrev pub SwapTrees : Type 0
SwapTrees =
    (g : PoolSettings) (i j : ℕ) (c d : Call) (f : Forest) → i ≢ j → SoundForest g f → Lent c → Lent d → BothAccepted g i c j d f
    → ChangePlacesAt g i c j d f

-- ALL OF THEM
pub record TwoTrees : Type 0 where
  pub new_forest_sound : NewForestSound
  pub one_batch_at : OneBatchAt
  pub independent : Independent
  pub other_refusals : OtherRefusals
  pub freed_serves_either : FreedServesEither
  pub onwards : Onwards
  pub demand3 : Demand3PerTree
  pub swap_same : SwapSame
  pub swap_trees : SwapTrees
