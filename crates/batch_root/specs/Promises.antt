-- What the functions on the root ask of the pool, and what they leave: the index that the model says. Assumes nothing.
use Rattle.std.specs.Prelude.{ℕ, suc, ◌≤◌, ◌<◌, ◌≡◌, ◌≢◌, List, [], length}
use Rattle.slots_raw.specs.Slots.{head_in}
use Rattle.slots.specs.Nodes.{unused_kind, Held, nodes, nth, rows_at}
use Rattle.model.specs.declared.Settings.{Settings}
use Rattle.model.specs.Lists.{All}
use Rattle.model.specs.Tree.{Index, slots_of, entries_of}
use Rattle.model.specs.declared.ChangeResult.TheVariants.{Split, Remove}
use Rattle.model.specs.Change.{split_root, settle_root}
use Rattle.model.specs.Sound.{Fits}
use Rattle.tree.specs.Bridge.{tree_at, unused_of, Blank, HoldsIndex, Apart, Frame}
use Rattle.model.specs.declared.ChangeResult.{ChangeResult}
use Rattle.tree.specs.Sums.{Sums}
use Rattle.tree_spare.specs.declared.Spare.{Spare}
use Rattle.tree_spare.specs.Spared.{Spared}
use Rattle.batch_root.specs.declared.Root.{Root}
use Rattle.batch_root.specs.Roots.{index_at, lifted}

-- THE POOL BEFORE AND AFTER

-- it holds x, no slot of it twice, and totals fit their places in a row
pub record Holding (st : Settings) (W : List ℕ) (x : Index) : Type 0 where
  pub held : Held st W
  pub holds : HoldsIndex (nodes st W) x
  pub apart : Apart x.height x.root
  pub small : length (entries_of x) < 1048576
  pub fit : All Fits (entries_of x)

-- it was W and held x, and now holds y; every slot in use outside x is as it was
pub record Becomes (st : Settings) (W W' : List ℕ) (x y : Index) : Type 0 where
  pub held : Held st W'
  pub header : head_in W' ≡ head_in W
  pub holds : HoldsIndex (nodes st W') y
  pub frame : Frame (nodes st W) (nodes st W') (slots_of x)

-- A ROOT THAT IS SPLIT

pub record ToSplitRoot (st : Settings) (W : List ℕ) (h : ℕ) (spare : Spare) : Type 0 where
  pub keeps : Holding st W (index_at st.root (nodes st W) h)
  pub spared : Spared (nodes st W) spare
  -- one slot for each half
  pub two : 2 ≤ length (unused_of (nodes st W))

pub record Halved (st : Settings) (W W' : List ℕ) (h : ℕ) (r : Spare) : Type 0 where
  pub becomes : let x = index_at st.root (nodes st W) h in Becomes st W W' x (split_root h x.root x.unused)
  pub spared : Spared (nodes st W') r

-- its rows go to a new node of its kind, in the lowest unused slot ..
pub record ToMove (st : Settings) (W : List ℕ) (low : ℕ) : Type 0 where
  pub held : Held st W
  pub empty : Blank (nodes st W)
  pub slot : low < st.nodes
  pub free : (nth (nodes st W) low).kind ≡ unused_kind
  pub used : (nth (nodes st W) st.root).kind ≢ unused_kind

-- .. and it becomes the parent of that node and another, of height h
pub record ToCrown (st : Settings) (W : List ℕ) (h lower upper : ℕ) : Type 0 where
  pub held : Held st W
  pub root : st.root < st.nodes
  pub slot : lower < st.nodes
  pub slot2 : upper < st.nodes
  pub sums : Sums h (rows_at st W lower)
  pub sums2 : Sums h (rows_at st W upper)
  pub bare : rows_at st W st.root ≡ []

-- A ROOT AFTER A CALL, with its result

pub record ToSettleRoot (st : Settings) (W : List ℕ) (root : Root) (v : ChangeResult) : Type 0 where
  pub keeps : Holding st W (index_at st.root (nodes st W) root.height)
  pub spared : Spared (nodes st W) root.spare
  -- a split takes a slot for each half
  pub two : v ≡ Split → 2 ≤ length (unused_of (nodes st W))
  pub gone : v ≡ Remove → (tree_at (nodes st W) root.height st.root).items ≡ []
  -- one level more can be counted
  pub bounded : root.height < 64

pub record RootLeft (st : Settings) (W W' : List ℕ) (x y : Index) (r : Root) : Type 0 where
  pub becomes : Becomes st W W' x y
  pub height : r.height ≡ y.height
  pub spared : Spared (nodes st W') r.spare

abbrev pub RootSettled : Settings → List ℕ → List ℕ → ℕ → ChangeResult → Root → Type 0
RootSettled st W W' h v r = let x = index_at st.root (nodes st W) h in RootLeft st W W' x (settle_root v h x.root x.unused) r

-- A ROOT WITH ONE CHILD, of height h, gives way to it

pub record ToLift (st : Settings) (W : List ℕ) (h : ℕ) (spare : Spare) : Type 0 where
  pub keeps : Holding st W (index_at st.root (nodes st W) (suc h))
  pub spared : Spared (nodes st W) spare
  pub one : length (rows_at st W st.root) ≡ 1

pub record Lifted (st : Settings) (W W' : List ℕ) (h : ℕ) (r : Spare) : Type 0 where
  pub becomes : Becomes st W W' (index_at st.root (nodes st W) (suc h)) (lifted st.root (nodes st W) h)
  pub spared : Spared (nodes st W') r
