-- What document 02 says of the calls since a pool has two trees (A4), whatever answers keep the promises. Assumes nothing.
use Rattle.std.specs.Prelude.{ℕ, ◌≤◌, ◌<◌, ◌≡◌, ◌≢◌, List, Result, Ok}
use Rattle.words.specs.Words.{words}
use Rattle.model.specs.declared.Totals.{Totals}
use Rattle.model.specs.declared.Counts.{Counts}
use Rattle.model.specs.declared.Refusal.{Refusal}
use Rattle.model.specs.declared.Bound.{Bound}
use Rattle.model.specs.declared.Sift.{Sift}
use Rattle.model.specs.declared.Request.{Request}
use Rattle.model.specs.Lists.{times}
use Rattle.model.specs.Tree.{slots_of}
use Rattle.model.specs.Answer.{refused, told}
use Rattle.model.specs.Refuse.{Call}
use Rattle.model.specs.Demands.{Lent}
use Rattle.model.specs.Forest.{planted_of, other, batch_at}
use Rattle.look_output.specs.declared.Listed.{Listed}
use Rattle.look_output.specs.declared.Scanned.{Scanned}
use Rattle.look_portion.specs.declared.Portion.{Portion}
use Rattle.slots_pool.specs.Header.{layout_of}
use Rattle.tree.specs.Pool.{SoundPool, given_in, index_of, forest_of}
use Rattle.index_promise.specs.Promise.{◌leaving◌, Totalling, Batches, Gets, Scans, Portions, Frames, Packs}

-- A BATCH ON ONE TREE changes no entry, total or node of the other

-- every totals, get and scan call, every portion and every frame of tree j answers of l' what it answers of l, and leaves the same bytes
pub record ReadsSame (j : ℕ) (l l' : List ℕ) : Type 0 where
  pub totals : (r r' : Result Totals Refusal) → Totalling l j r → Totalling l' j r' → r' ≡ r
  pub gets : (ks out : List ℕ) (r r' : Result Listed Refusal) (o o' : List ℕ) → Gets l j ks out r o → Gets l' j ks out r' o' → (r' ≡ r) × (o' ≡ o)
  pub scans : (q : Request) (out : List ℕ) (r r' : Result Scanned Refusal) (o o' : List ℕ) → Scans l j q out r o → Scans l' j q out r' o' → (r' ≡ r) × (o' ≡ o)
  pub portions : (start end : Bound) (sift : Sift) (out : List ℕ) (r r' : Result Portion Refusal) (o o' : List ℕ) → Portions l j start end sift out r o
      → Portions l' j start end sift out r' o' → (r' ≡ r) × (o' ≡ o)
  pub frames : (n : ℕ) (line : List ℕ) (r r' : Result ℕ Refusal) (o o' : List ℕ) → Frames l j n line r o → Frames l' j n line r' o' → (r' ≡ r) × (o' ≡ o)

-- what it may change for the other is refusal 7 alone: a batch on tree j that is refused on l for another reason is refused so on l'
abbrev pub SameBut7 : ℕ → List ℕ → List ℕ → Type 0
SameBut7 j l l' =
    (d : Call) (r r' : Result Counts Refusal) (m m' : List ℕ) → Batches j d l r m → Batches j d l' r' m' → (n : ℕ) → n ≢ 7 → told r ≡ refused n
    → (told r' ≡ refused n) × (m' ≡ l')

pub record Untouched (i : ℕ) (l l' : List ℕ) : Type 0 where
  -- the settings stay
  pub settings : given_in l' ≡ given_in l
  -- the other tree has the same nodes in the same slots
  pub tree : planted_of (index_of l' (other i)) ≡ planted_of (index_of l (other i))
  pub reads : ReadsSame (other i) l l'
  pub refusals : SameBut7 (other i) l l'
  pub others : SameBut7 (other i) l' l

abbrev pub Independent : Type 0
Independent = (i : ℕ) (c : Call) (l l' : List ℕ) (r : Result Counts Refusal) → Lent c → SoundPool l → Batches i c l r l' → Untouched i l l'

-- A FREED SLOT SERVES EITHER: both trees have the same unused slots ..
abbrev pub OneSupply : Type 0
OneSupply = (l : List ℕ) (i j : ℕ) → (index_of l i).unused ≡ (index_of l j).unused

-- .. and after a batch on one of them each has those that the batch left unused, what it freed among them
abbrev pub FreedServesEither : Type 0
FreedServesEither =
    (i j : ℕ) (c : Call) (l l' : List ℕ) (k : Counts) → Lent c → Batches i c l (Ok k) l'
    → (index_of l' j).unused ≡ (batch_at (given_in l) i c (forest_of l)).index.unused

-- every call that names tree i of the pool l is refused as k, and leaves the lent bytes as they were
pub record RefusedAs (k i : ℕ) (l : List ℕ) : Type 0 where
  pub totals : (r : Result Totals Refusal) → Totalling l i r → told r ≡ refused k
  pub batches : (c : Call) (r : Result Counts Refusal) (l' : List ℕ) → Batches i c l r l' → (told r leaving l') ≡ (refused k leaving l)
  pub gets : (ks out : List ℕ) (r : Result Listed Refusal) (out' : List ℕ) → Gets l i ks out r out' → (told r leaving out') ≡ (refused k leaving out)
  pub scans : (q : Request) (out : List ℕ) (r : Result Scanned Refusal) (out' : List ℕ) → Scans l i q out r out' → (told r leaving out') ≡ (refused k leaving out)
  pub portions : (start end : Bound) (sift : Sift) (out : List ℕ) (r : Result Portion Refusal) (out' : List ℕ) → Portions l i start end sift out r out'
      → (told r leaving out') ≡ (refused k leaving out)
  pub frames : (n : ℕ) (line : List ℕ) (r : Result ℕ Refusal) (line' : List ℕ) → Frames l i n line r line' → (told r leaving line') ≡ (refused k leaving line)

-- ANOTHER NUMBER THAN 0 AND 1 is refused as 19, straight after 2, whatever else is wrong with the call
abbrev pub NumbersRefused : Type 0
NumbersRefused = (i : ℕ) (l : List ℕ) → SoundPool l → 2 ≤ i → RefusedAs 19 i l

-- OLD POOLS of one tree, which have layout 1, are refused as 2, always

-- every call that is given the pool l, whatever tree it names, is refused as 2, and leaves the lent bytes as they were
pub record RefusedAs2 (l : List ℕ) : Type 0 where
  pub trees : (i : ℕ) → RefusedAs 2 i l
  pub source : (m : List ℕ) (r : Result (Unit {0}) Refusal) (m' : List ℕ) → Packs l m r m' → (told r leaving m') ≡ (refused 2 leaving m)
  pub target : (k : List ℕ) (r : Result (Unit {0}) Refusal) (l' : List ℕ) → Packs k l r l' → (told r leaving l') ≡ (refused 2 leaving l)

abbrev pub OldRefused : Type 0
OldRefused = (l : List ℕ) → layout_of (words l) ≡ 1 → RefusedAs2 l

-- A SLOT THAT BOTH TREES NAME: each node in use is reached once from one root, and so the pool is refused as 2 as well
abbrev pub SharedRefused : Type 0
SharedRefused = (l : List ℕ) (s : ℕ) → 0 < times s (slots_of (index_of l 0)) → 0 < times s (slots_of (index_of l 1)) → RefusedAs2 l
