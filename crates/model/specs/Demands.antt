-- What document 01 demands, said of the definitions. proofs/Demands.antt proves each statement here; the code's promises rest on them.
-- Assumes nothing.
use Rattle.std.specs.Prelude.{◌≡◌, ◌≢◌, true, false, ℕ, zero, suc, ◌*◌, ◌^◌, ◌≤◌, ◌<◌, length, drop}
use mathlib.Core.List.{List, [], ◌∷◌, ◌++◌, map, reverse_aux}
use Rattle.model.specs.declared.Entry.{Entry}
use Rattle.model.specs.declared.Reference.{Reference}
use Rattle.model.specs.declared.Settings.{Settings}
use Rattle.model.specs.declared.Action.{Action}
use Rattle.model.specs.declared.Action.TheVariants as Do
use Rattle.model.specs.declared.Operation.{Operation}
use Rattle.model.specs.declared.Operation.TheVariants as Op
use Rattle.model.specs.Lists.{concat, times, All}
use Rattle.model.specs.Tree.{Node, Item, Tree, Index, len, depth, entries, greatest_key, entries_of, totals_of, adds, sum_of}
use Rattle.model.specs.Plain.{Task, plain_list, plain_counts, no_counts}
use Rattle.model.specs.Share.{Place, share_out}
use Rattle.model.specs.Change.{Run, walk, change, change_root, Batched, batch}
use Rattle.model.specs.Answer.{done}
use Rattle.model.specs.declared.Request.{Request}
use Rattle.model.specs.Look.{listing, found, get_all, due_in, openings, scan}
use Rattle.model.specs.Refuse.{Call, tasks_of, is_remove, refusal}
use Rattle.model.specs.Frame.{Frame, keys_of, frames_of, line_of, entries_refusal}
use Rattle.model.specs.ReadFrame.{read_line}
use Rattle.model.specs.Sound.{InLimits, Whole, Sorted, Sound, FrameFits}
use Rattle.model.specs.Promises.{flat, joined, OverFull}

-- WHAT A CALL LENDS are numbers of their types: keys and places of 8 bytes, sizes of 4

pub record ReferenceFits (r : Reference) : Type 0 where
  pub place : r.place < 2 ^ 64
  pub size : r.size < 2 ^ 32

abbrev pub ActionFits : Action → Type 0
ActionFits (Do.Set r) = ReferenceFits r
ActionFits Do.Remove = Unit {0}

abbrev pub OperationFits : Operation → Type 0
OperationFits (Op.Set r) = ReferenceFits r
OperationFits Op.SetEach = Unit {0}
OperationFits Op.Remove = Unit {0}
OperationFits (Op.Compare e a) = ActionFits a

pub record Lent (c : Call) : Type 0 where
  pub operation : OperationFits c.operation
  pub places : All (λ p. p < 2 ^ 64) c.places
  pub sizes : All (λ z. z < 2 ^ 32) c.sizes
  pub keys : All (λ k. k < 2 ^ 64) c.keys

-- ONE BATCH that is not refused does to the tree what its keys, one at a time, do to the plain list; its counts are the plain list's; no task
-- is left; and the index is sound again: no slot is lost or doubled, so that refusal 7's formula suffices, and the depth is at most 8
pub record Batches (st : Settings) (elsewhere : List ℕ) (c : Call) (x : Index) (b : Batched) : Type 0 where
  pub list : entries_of b.index ≡ plain_list (tasks_of c) (entries_of x)
  pub counts : b.counts ≡ plain_counts (tasks_of c) (entries_of x) no_counts
  pub left : b.tasks ≡ []
  pub sound : Sound st elsewhere b.index

abbrev pub OneBatch : Type 0
OneBatch =
    (st : Settings) (elsewhere : List ℕ) (c : Call) (x : Index) → Sound st elsewhere x → Lent c → refusal st c x ≡ 0
    → Batches st elsewhere c x (batch st (tasks_of c) x)

-- a Remove takes no node: each slot that was unused still is, and the tree grows no deeper
abbrev pub RemoveTakesNone : Type 0
RemoveTakesNone =
    (st : Settings) (elsewhere : List ℕ) (c : Call) (x : Index) → Sound st elsewhere x → Lent c → refusal st c x ≡ 0 → is_remove c.operation ≡ true
    → ((s : ℕ) → times s x.unused ≤ times s (batch st (tasks_of c) x).index.unused) × (depth (batch st (tasks_of c) x).index ≤ depth x)

-- NO INTERIOR PASSES 2 × ORDER while a batch runs, since a batch holds at most order keys

-- While a node takes tasks: after any number of turns of its walk it has at most 2 × order children, and so has each interior below it, should
-- that take the tasks that are left. (A walk that is allowed fewer turns than it wants stops where it has come to.)
abbrev pub Uncrowded : Settings → (h : ℕ) → Tree h → List Task → Run → Type 0
Uncrowded st zero n ts run = Unit {0}
Uncrowded st (suc h) n ts run =
    (turns ceiling : ℕ)
    → let w = walk st (greatest_key (suc h)) (change st h) turns ceiling [] n.items false ts run in
    (length w.items ≤ 2 * st.order) × All (λ c. Uncrowded st h c w.tasks w.run) w.items

-- so the root and all below it, after any number of the root's calls
abbrev pub NoInteriorPasses : Type 0
NoInteriorPasses =
    (st : Settings) (elsewhere : List ℕ) (c : Call) (x : Index) → Sound st elsewhere x → Lent c → refusal st c x ≡ 0 → (calls : ℕ)
    → let b = change_root st calls x (tasks_of c) no_counts in
    Uncrowded st b.index.height b.index.root b.tasks (record { unused = b.index.unused; counts = b.counts })

-- AN OVER-FULL CHILD, of at most 2 × order, beside siblings of at most order: every node that sharing and splitting change ends with minimum
-- to order items, and the joined items are the same
pub record SharedOut (st : Settings) {X : Type 0} (before : List (Node X)) (c : Node X) (after : List (Node X)) (p : Place (Node X)) : Type 0 where
  pub left : ℕ
  pub right : ℕ
  pub changed : List (Node X)
  pub nodes : reverse_aux p.before p.rest ≡ reverse_aux (drop left before) (changed ++ drop right after)
  pub sized : All (λ n. (st.minimum ≤ len n) × (len n ≤ st.order)) changed
  pub same : joined (reverse_aux p.before p.rest) ≡ joined (reverse_aux before (c ∷ after))

abbrev pub OverFullChild : Type 1
OverFullChild =
    (st : Settings) (X : Type 0) (before : List (Node X)) (c : Node X) (after : List (Node X)) (unused : List ℕ) → InLimits st
    → st.order < len c → len c ≤ 2 * st.order → All (λ n. len n ≤ st.order) before → All (λ n. len n ≤ st.order) after
    → SharedOut st before c after (share_out st before c after unused)

-- SEPARATORS ARE GREATEST KEYS. A node's separator is worked out as its last key (specs/Tree): that is one of the keys below the node, and none of
-- them is above it.

pub record Greatest (k : ℕ) (es : List Entry) : Type 0 where
  pub among : 0 < times k (map (λ e. e.key) es)
  pub most : All (λ e. e.key ≤ k) es

-- of a node, and of each node below it
abbrev pub Separated : (h : ℕ) → Item h → Type 0
Separated zero e = Unit {0}
Separated (suc h) n = Greatest (greatest_key (suc h) n) (entries (suc h) n) × All (Separated h) n.items

-- of each node after sharing and splitting an over-full child, where keys ascend, and its siblings and the nodes below have 1 to order items
abbrev pub SharedSeparators : Type 0
SharedSeparators =
    (st : Settings) (h : ℕ) (before : List (Tree h)) (c : Tree h) (after : List (Tree h)) (unused : List ℕ) → InLimits st
    → OverFull st c → All (Whole st (suc h)) before → All (Whole st h) c.items → All (Whole st (suc h)) after
    → Sorted (flat (suc h) (reverse_aux before (c ∷ after)))
    → let p = share_out st before c after unused in All (Separated (suc h)) (reverse_aux p.before p.rest)

-- and of each node below the root of a sound index, so before and after every batch
abbrev pub SoundSeparators : Type 0
SoundSeparators = (st : Settings) (elsewhere : List ℕ) (x : Index) → Sound st elsewhere x → All (Separated x.height) x.root.items

-- ANY SEQUENCE OF BATCHES: what holds after it stands in specs/TwoTrees

-- the plain list after a batch that is answered with a number: where it is 0 the batch is done, its keys taken one at a time, and else it does nothing
abbrev pub plain_after : ℕ → List Task → List Entry → List Entry
plain_after zero ts es = plain_list ts es
plain_after (suc n) ts es = es

-- the tree holds exactly the entries of a list, and lookups, scan lists and totals answer from that list
pub record AnswersFrom (es : List Entry) (x : Index) : Type 0 where
  pub holds : entries_of x ≡ es
  pub gets : (ks : List ℕ) (room : ℕ) → get_all ks room x ≡ listing room (found ks es)
  pub scans : (q : Request) (room : ℕ) → (scan q room x).listed ≡ listing room (due_in q es)
  pub totals : totals_of x ≡ sum_of (map adds es)

-- TWO NEIGHBOURING BATCHES that share no key, both accepted in either order, may change places: the counts are the same, and so is the answer
-- to every get, scan list and totals call straight after the pair

abbrev pub Apart : Call → Call → Type 0
Apart c d = All (λ k. All (λ j. k ≢ j) d.keys) c.keys

pub record ChangePlaces (st : Settings) (c d : Call) (x : Index) : Type 0 where
  pub first : (batch st (tasks_of c) x).counts ≡ (batch st (tasks_of c) (batch st (tasks_of d) x).index).counts
  pub second : (batch st (tasks_of d) (batch st (tasks_of c) x).index).counts ≡ (batch st (tasks_of d) x).counts
  pub same : AnswersFrom (entries_of (batch st (tasks_of c) (batch st (tasks_of d) x).index).index) (batch st (tasks_of d) (batch st (tasks_of c) x).index).index

abbrev pub Swap : Type 0
Swap =
    (st : Settings) (elsewhere : List ℕ) (c d : Call) (x : Index) → Sound st elsewhere x → Lent c → Lent d → Apart c d
    → refusal st c x ≡ 0 → refusal st d (batch st (tasks_of c) x).index ≡ 0 → refusal st d x ≡ 0 → refusal st c (batch st (tasks_of d) x).index ≡ 0
    → ChangePlaces st c d x

-- THE NODES THAT A SCAN OPENS hold exactly what it lists
abbrev pub OpeningsList : Type 0
OpeningsList =
    (st : Settings) (elsewhere : List ℕ) (q : Request) (x : Index) → Sound st elsewhere x → concat (openings q x.height x.root) ≡ due_in q (entries_of x)

-- WRITING AND READING A FRAME undo each other

abbrev pub ReadUndoesWrite : Type 0
ReadUndoesWrite = (f : Frame) → FrameFits f → entries_refusal (keys_of f) ≡ 0 → read_line (line_of f) ≡ done f

abbrev pub WriteUndoesRead : Type 0
WriteUndoesRead = (s : List ℕ) (f : Frame) → read_line s ≡ done f → line_of f ≡ s

-- every frame of a sound index can be read back
abbrev pub FramesRead : Type 0
FramesRead = (st : Settings) (elsewhere : List ℕ) (x : Index) → Sound st elsewhere x → All (λ f. read_line (line_of f) ≡ done f) (frames_of x)

-- ALL OF THEM
pub record Demands : Type 1 where
  pub one_batch : OneBatch
  pub remove_takes_none : RemoveTakesNone
  pub no_interior_passes : NoInteriorPasses
  pub over_full_child : OverFullChild
  pub shared_separators : SharedSeparators
  pub sound_separators : SoundSeparators
  pub swap : Swap
  pub openings_list : OpeningsList
  pub read_undoes_write : ReadUndoesWrite
  pub write_undoes_read : WriteUndoesRead
  pub frames_read : FramesRead
