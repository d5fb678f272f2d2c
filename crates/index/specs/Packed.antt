-- What document 02 demands of packing, said of the call, whatever answers keep its promise. Assumes nothing.
use Rattle.std.specs.Prelude.{ℕ, ◌≤◌, ◌<◌, ◌≡◌, ◌≢◌, List, Result, Ok, Err}
use Rattle.model.specs.declared.Entry.{Entry}
use Rattle.model.specs.declared.Refusal.{Refusal}
use Rattle.model.specs.declared.Refusal.TheVariants.{TooFewUnused}
use Rattle.model.specs.Lists.{All}
use Rattle.model.specs.Tree.{entries_of}
use Rattle.model_pack.specs.Packing.{Least}
use Rattle.model_pack.specs.PackForest.{IsPackedForest}
use Rattle.model.specs.Demands.{Lent}
use Rattle.tree.specs.Pool.{SoundPool, given_in, settings_in, index_of, forest_of}
use Rattle.index_promise.specs.Promise.{Packs}
use Rattle.index.specs.Register.{AnswersFrom, Turn, Runs, plain_run, Counted}

-- The pool l was packed into a pool of the bytes m, which are m' now.
pub record PackedInto (l m m' : List ℕ) : Type 0 where
  -- the target keeps its settings, and is sound
  pub settings : given_in m' ≡ given_in m
  pub sound : SoundPool m'
  -- of each tree the same entries in the same order; every node of a level is full but the last one; slots go out in preorder, the second tree's behind
  -- the first's
  pub packed : IsPackedForest (given_in m) (entries_of (index_of l 0)) (entries_of (index_of l 1)) (forest_of m')
  -- no sound tree of that order over these entries has fewer leaves, or fewer nodes in another level, or is less deep
  pub least : (i : ℕ) → Least (settings_in m i).order (entries_of (index_of l i)) (index_of m' i)

abbrev pub PackDone : Type 0
PackDone = (l m m' : List ℕ) → Packs l m (Ok tt) m' → PackedInto l m m'

-- after it each tree of the target answers from the list of the source's, and goes on from there, whatever batches come on either
abbrev pub PackedOnwards : Type 0
PackedOnwards =
    (i : ℕ) (es : List Entry) (l m m' now : List ℕ) (ts : List Turn) → i < 2 → AnswersFrom i es l → Packs l m (Ok tt) m' → All (λ t. Lent t.call) ts
    → Runs ts m' now → AnswersFrom i es m' × (AnswersFrom i (plain_run i ts es) now × Counted i ts es)

-- a target that has as many nodes as the source is never refused as 7
abbrev pub PackFits : Type 0
PackFits = (l m m' : List ℕ) (r : Result (Unit {0}) Refusal) → SoundPool l → (given_in l).nodes ≤ (given_in m).nodes → Packs l m r m' → r ≢ Err TooFewUnused
