-- The numbered cases of document 01 as one list, what its program prints, and readings that the page leaves open: what is computed, and what is
-- wanted. Order 4, minimum 2; P is the pool after the program's input. Assumes nothing.
use Rattle.std.specs.Prelude.{◌≡◌, Bool, true, false, List, [], ◌∷◌, map, ℕ, ◌+◌, ◌-◌, length, take}
use Prim.Native.Char.{code}
use Prim.Native.String as String
use Rattle.model.specs.declared.Entry.{Entry}
use Rattle.model.specs.declared.Reference.{Reference}
use Rattle.model.specs.declared.Settings.{Settings}
use Rattle.model.specs.declared.PoolSettings.{PoolSettings}
use Rattle.model.specs.Sound.{handed}
use Rattle.model.specs.declared.Totals.{Totals}
use Rattle.model.specs.declared.Operation.TheVariants as Op
use Rattle.model.specs.declared.Expectation.TheVariants as Expect
use Rattle.model.specs.declared.Action.TheVariants as Do
use Rattle.model.specs.declared.Bound.{Bound}
use Rattle.model.specs.declared.Bound.TheVariants.{Unbounded, Included, Excluded}
use Rattle.model.specs.declared.Direction.{Direction}
use Rattle.model.specs.declared.Direction.TheVariants.{Up, Down}
use Rattle.model.specs.declared.Sift.{Sift}
use Rattle.model.specs.declared.Sift.TheVariants.{All, SizeAtLeast}
use Rattle.model.specs.Lists.{concat, up_from}
use Rattle.model.specs.Tree.{Tree, Index, depth, slots_of, totals_of}
use Rattle.model.specs.Plain.{entry_for}
use Rattle.model.specs.Share.{share_out}
use Rattle.model.specs.Change.{Batched}
use Rattle.model.specs.Answer.{Answer, refused, done}
use Rattle.model.specs.Look.{Listing, request_for, scan}
use Rattle.model.specs.Refuse.{Call, answer, index_after, get}
use Rattle.model.specs.Forest.{Forest, tree_of, replant, new_forest, refusal_at}
use Rattle.model.specs.TwoTrees.{Turn, run_forest}
use Rattle.model.specs.Frame.{Frame, leaf, interior, frames_of, line_of}
use Rattle.model.specs.ReadFrame.{read_line}
use Rattle.model.specs.LiveSizes.{clear, scan_by_all}

pub record Case : Type 1 where
  pub Kind : Type 0
  pub got : Kind
  pub wanted : Kind

abbrev pub case : (K : Type 0) → K → K → Case
case K a b = record { Kind = K; got = a; wanted = b }

-- every case comes out as it is wanted
abbrev pub Hold : List Case → Type 0
Hold [] = Unit {0}
Hold (c ∷ cs) = (c.got ≡ c.wanted) × Hold cs

-- A WAY TO WRITE THEM

-- a text as bytes
abbrev pub text : String.String → List ℕ
text String.[] = []
text (String.◌∷◌ c s) = code c ∷ text s

-- a pool of so many nodes, both of whose trees have this order and minimum; and what its first tree is handed
abbrev pub both : ℕ → ℕ → ℕ → PoolSettings
both nodes order minimum = record { nodes = nodes; first = record { order = order; minimum = minimum }; second = record { order = order; minimum = minimum } }

abbrev pub desk : Settings
desk = handed (both 16 4 2) 0

-- the same with N = 8
abbrev pub eight : Settings
eight = handed (both 8 4 2) 0

-- the first tree of a new pool
abbrev pub new : ℕ → Index
new n = tree_of 0 (new_forest n)

-- key k has place 256 + k and size 16, as in the program's input
abbrev pub ref : ℕ → Reference
ref k = record { place = 256 + k; size = 16 }

abbrev pub set : List ℕ → Call
set ks = record { operation = Op.SetEach; places = map (λ k. 256 + k) ks; sizes = map (λ k. 16) ks; keys = ks }

abbrev pub drop : List ℕ → Call
drop ks = record { operation = Op.Remove; places = []; sizes = []; keys = ks }

abbrev pub absent_remove : Call
absent_remove = record { operation = Op.Compare Expect.Absent Do.Remove; places = []; sizes = []; keys = 1 ∷ [] }

abbrev pub after : Settings → List Call → Index → Index
after st [] x = x
after st (c ∷ cs) x = after st cs (index_after x (answer st c x))

-- the four counts, or the number of the refusal
abbrev pub told : Answer Batched → List ℕ
told (refused n) = n ∷ []
told (done b) = b.counts.added ∷ b.counts.replaced ∷ b.counts.removed ∷ b.counts.nothing ∷ []

abbrev pub keys_in : Frame → List (List ℕ)
keys_in (leaf es) = map (λ e. e.key) es ∷ []
keys_in (interior bs) = []

-- the depth, and the keys of each leaf
pub record Shape : Type 0 where
  pub deep : ℕ
  pub leaves : List (List ℕ)

abbrev pub shape : Index → Shape
shape x = record { deep = depth x; leaves = concat (map keys_in (frames_of x)) }

-- a lone leaf, and leaves below the root
abbrev pub lone : List ℕ → Shape
lone ks = record { deep = 1; leaves = ks ∷ [] }

abbrev pub below : List (List ℕ) → Shape
below kss = record { deep = 2; leaves = kss }

abbrev pub lines : Index → List (List ℕ)
lines x = map line_of (frames_of x)

-- a get that found these, and no more
abbrev pub listed : List Entry → Answer Listing
listed es = done (record { written = es; more = false })

pub record Seen : Type 0 where
  pub keys : List ℕ
  pub opened : ℕ
  pub more : Bool

-- a scan between two bounds, of what passes a sift, with room for so many
abbrev pub sifted : Sift → Direction → Bound → Bound → ℕ → Index → Seen
sifted f d a b room x =
    let s = scan (request_for a b d f) room x in
    record { keys = map (λ e. e.key) s.listed.written; opened = s.opened; more = s.listed.more }

abbrev pub between : Direction → Bound → Bound → ℕ → Index → Seen
between = sifted All

abbrev pub of_size : ℕ → Direction → Index → Seen
of_size s d x = sifted (SizeAtLeast s) d Unbounded Unbounded 9 x

-- the nodes that such a scan opened by the sum of before
abbrev pub of_size_by_all : ℕ → Direction → Index → ℕ
of_size_by_all s d x = (scan_by_all (request_for Unbounded Unbounded d (SizeAtLeast s)) 9 x).opened

abbrev pub P : Index
P = after desk (set (1 ∷ 2 ∷ 3 ∷ 4 ∷ []) ∷ set (5 ∷ []) ∷ []) (new 16)

-- case 3's
abbrev pub P3 : Index
P3 = after desk (set (6 ∷ []) ∷ set (7 ∷ []) ∷ set (8 ∷ []) ∷ []) P

-- case 4's
abbrev pub P4 : Index
P4 = after desk (set (9 ∷ []) ∷ []) P3

-- trees written down: leaves of some keys in slots from s on, and interiors above them
abbrev pub leaf_of : ℕ → List ℕ → Tree 0
leaf_of s ks = record { slot = s; items = map (λ k. entry_for k (ref k)) ks }

abbrev pub leaves_from : ℕ → List (List ℕ) → List (Tree 0)
leaves_from s [] = []
leaves_from s (ks ∷ kss) = leaf_of s ks ∷ leaves_from (s + 1) kss

abbrev pub grove : List (List ℕ) → Index
grove kss = record { height = 1; root = record { slot = 0; items = leaves_from 1 kss }; unused = up_from (1 + length kss) (15 - length kss) }

abbrev pub two_groves : List (List ℕ) → List (List ℕ) → Index
two_groves a b =
    let n = length a + length b in
    record {
      height = 2;
      root = record {
        slot = 0;
        items = record { slot = 1; items = leaves_from 3 a } ∷ record { slot = 2; items = leaves_from (3 + length a) b } ∷ [];
      };
      unused = up_from (3 + n) (13 - n);
    }

-- interiors whose children can be told apart by their slots
abbrev pub wide : ℕ → List ℕ → Tree 1
wide s slots = record { slot = s; items = map (λ c. record { slot = c; items = [] }) slots }

abbrev pub child_slots : Tree 1 → List ℕ
child_slots n = map (λ c. c.slot) n.items

-- THE FOURTEEN

abbrev pub cases : List Case
cases =
    case (List (List ℕ)) (lines (new 16)) (text "01" ∷ [])
    ∷ case Shape (shape P) (below ((1 ∷ 2 ∷ 3 ∷ []) ∷ (4 ∷ 5 ∷ []) ∷ []))
    ∷ case Shape (shape P3) (below ((1 ∷ 2 ∷ 3 ∷ 4 ∷ []) ∷ (5 ∷ 6 ∷ 7 ∷ 8 ∷ []) ∷ []))
    ∷ case Shape (shape P4) (below ((1 ∷ 2 ∷ 3 ∷ 4 ∷ []) ∷ (5 ∷ 6 ∷ 7 ∷ []) ∷ (8 ∷ 9 ∷ []) ∷ []))
    ∷ case Shape (shape (after desk (drop (4 ∷ []) ∷ []) P)) (lone (1 ∷ 2 ∷ 3 ∷ 5 ∷ []))
    ∷ case Shape (shape (after desk (drop (5 ∷ 6 ∷ 7 ∷ []) ∷ []) P3)) (below ((1 ∷ 2 ∷ 3 ∷ []) ∷ (4 ∷ 8 ∷ []) ∷ []))
    ∷ case (List (List ℕ)) (map child_slots (share_out desk (wide 1 (3 ∷ 4 ∷ 5 ∷ []) ∷ []) (wide 2 (6 ∷ 7 ∷ 8 ∷ 9 ∷ 10 ∷ [])) [] []).rest)
    ((3 ∷ 4 ∷ 5 ∷ 6 ∷ []) ∷ (7 ∷ 8 ∷ 9 ∷ 10 ∷ []) ∷ [])
    ∷ case (List (List ℕ)) (told (answer eight (set (1 ∷ [])) (new 8)) ∷ told (answer eight (set (1 ∷ 2 ∷ [])) (new 8)) ∷ [])
    ((1 ∷ 0 ∷ 0 ∷ 0 ∷ []) ∷ (7 ∷ []) ∷ [])
    ∷ case (List (List ℕ)) (told (answer desk (set (1 ∷ 2 ∷ 3 ∷ 4 ∷ [])) (new 16)) ∷ told (answer desk (set (1 ∷ 2 ∷ 3 ∷ 4 ∷ 5 ∷ [])) (new 16)) ∷ [])
    ((4 ∷ 0 ∷ 0 ∷ 0 ∷ []) ∷ (3 ∷ []) ∷ [])
    ∷ case (Answer Listing × List ℕ)
    (let a = answer desk (record { operation = Op.SetEach; places = 257 ∷ 258 ∷ []; sizes = 16 ∷ 16 ∷ []; keys = 7 ∷ 7 ∷ [] }) (new 16) in
    (get (7 ∷ []) 9 (index_after (new 16) a), told a))
    (listed (entry_for 7 (ref 2) ∷ []), 1 ∷ 1 ∷ 0 ∷ 0 ∷ [])
    ∷ case (List Seen) (between Up (Excluded 3) (Included 5) 9 P ∷ between Down (Excluded 3) (Included 5) 9 P ∷ [])
    (record { keys = 4 ∷ 5 ∷ []; opened = 2; more = false } ∷ record { keys = 5 ∷ 4 ∷ []; opened = 2; more = false } ∷ [])
    ∷ case (List ℕ)
    ((between Up (Included 1) (Included 2) 9 P).opened ∷ (between Down (Included 1) (Included 2) 9 P).opened ∷ (between Up (Included 1) (Included 3) 9 P).opened ∷ [])
    (2 ∷ 3 ∷ 3 ∷ [])
    ∷ case (Answer Listing) (get (2 ∷ 2 ∷ 9 ∷ []) 9 P) (listed (entry_for 2 (ref 2) ∷ entry_for 2 (ref 2) ∷ []))
    ∷ case Seen (between Up Unbounded Unbounded 0 P) (record { keys = []; opened = 2; more = true })
    ∷ []

-- WHAT THE PROGRAM PRINTS for the page's input, its frames read back, and the last of them with eight more zeros

abbrev pub program : List Case
program =
    case (List (List ℕ))
    (told (answer desk (set (1 ∷ 2 ∷ 3 ∷ 4 ∷ [])) (new 16)) ∷ told (answer desk (set (5 ∷ [])) (after desk (set (1 ∷ 2 ∷ 3 ∷ 4 ∷ []) ∷ []) (new 16))) ∷ [])
    ((4 ∷ 0 ∷ 0 ∷ 0 ∷ []) ∷ (1 ∷ 0 ∷ 0 ∷ 0 ∷ []) ∷ [])
    ∷ case (List (List ℕ)) (lines P)
    (text "000000000000000003000000010000000300000000000000000000003000000000000000050000000200000002000000000000000000000020"
    ∷ text "01000000000000000100000000000001010000001000000000000000020000000000000102000000100000000000000003000000000000010300000010"
    ∷ text "0100000000000000040000000000000104000000100000000000000005000000000000010500000010"
    ∷ [])
    ∷ case (List (Answer Frame)) (map read_line (lines P)) (map done (frames_of P))
    ∷ case (Answer Frame) (read_line (text "010000000000000004000000000000010400000010000000000000000500000000000001050000001000000000")) (refused 10)
    ∷ []

-- READINGS (docs/DECISIONS.md has their reasons)

-- order 7 and minimum 3, as some of them want
abbrev pub broad : Settings
broad = handed (both 16 7 3) 0

abbrev pub five_of_eight : Index
five_of_eight = after eight (set (1 ∷ []) ∷ set (2 ∷ []) ∷ set (3 ∷ []) ∷ set (4 ∷ []) ∷ set (5 ∷ []) ∷ []) (new 8)

-- P with size 5 under the keys of its first leaf
abbrev pub light : Index
light = after desk (record { operation = Op.SetEach; places = 257 ∷ 258 ∷ 259 ∷ []; sizes = 5 ∷ 5 ∷ 5 ∷ []; keys = 1 ∷ 2 ∷ 3 ∷ [] } ∷ []) P

-- the pool of the cases, in which tree 0 is P, after some more batches
abbrev pub pool : PoolSettings
pool = both 16 4 2

abbrev pub grown : List Turn → Forest
grown ts = run_forest pool ts (replant 0 P (new_forest 16))

-- P's batches on the second tree
abbrev pub same_on_second : List Turn
same_on_second = record { tree = 1; call = set (1 ∷ 2 ∷ 3 ∷ 4 ∷ []) } ∷ record { tree = 1; call = set (5 ∷ []) } ∷ []

-- P's keys one at a time on tree i
abbrev pub slowly : ℕ → List Turn
slowly i = map (λ k. record { tree = i; call = set (k ∷ []) }) (1 ∷ 2 ∷ 3 ∷ 4 ∷ 5 ∷ [])

abbrev pub readings : List Case
readings =
    -- the slots of P, and of case 5's tree, whose other slots are unused again
    case (List ℕ) (slots_of P) (0 ∷ 2 ∷ 3 ∷ [])
    ∷ case (List ℕ × List ℕ) (let x = after desk (drop (4 ∷ []) ∷ []) P in (slots_of x, x.unused)) (0 ∷ [], up_from 2 14)
    -- Compare whose action is Remove: on an absent key it does nothing, and refusal 7 is for it too
    ∷ case (List (List ℕ)) (told (answer desk absent_remove (new 16)) ∷ told (answer eight absent_remove five_of_eight) ∷ [])
    ((0 ∷ 0 ∷ 0 ∷ 1 ∷ []) ∷ (7 ∷ []) ∷ [])
    -- a dead entry is no more listed by a scan, still found by a get, and counted as dead; its size is in no sum, nor in an interior's frame
    ∷ case (List Seen × Answer Listing × Totals × List (List ℕ))
    (let x = after desk (clear (2 ∷ []) 5 ∷ []) P in (between Up Unbounded (Included 3) 9 x ∷ [], get (2 ∷ []) 9 x, totals_of x, take 1 (lines x))) (
      record { keys = 1 ∷ 3 ∷ []; opened = 3; more = false } ∷ [],
      listed (record { key = 2; place = 0; size = 5 } ∷ []),
      record { live = 4; dead = 1; size = 64 },
      text "000000000000000003000000010000000200000001000000000000002000000000000000050000000200000002000000000000000000000020" ∷ [],
    )
    -- a leaf of 100 dead beside 16 is no more opened for 50; by the sum of before it was
    ∷ case (List Seen × List ℕ)
    (let x = after desk (clear (4 ∷ []) 100 ∷ []) P in (of_size 50 Up x ∷ of_size 50 Down x ∷ [], of_size_by_all 50 Up x ∷ of_size_by_all 50 Down x ∷ []))
    (record { keys = []; opened = 1; more = false } ∷ record { keys = []; opened = 1; more = false } ∷ [], 2 ∷ 2 ∷ [])
    -- a leaf whose entries are all dead has sum 0: it is opened where no size is asked for, and by SizeAtLeast 0
    ∷ case (List ℕ)
    (let x = after desk (clear (4 ∷ 5 ∷ []) 100 ∷ []) P in
    (between Up Unbounded Unbounded 9 x).opened ∷ (of_size 0 Up x).opened ∷ (of_size 1 Up x).opened ∷ of_size_by_all 1 Up x ∷ [])
    (3 ∷ 3 ∷ 2 ∷ 3 ∷ [])
    -- start above end
    ∷ case (List Seen) (between Up (Included 5) (Included 1) 9 P ∷ between Down (Included 5) (Included 1) 9 P ∷ [])
    (record { keys = []; opened = 1; more = false } ∷ record { keys = []; opened = 2; more = false } ∷ [])
    -- an Excluded end: upwards the loop ends once the previous separator is at it, backwards it does not
    ∷ case (List Seen) (between Up (Included 1) (Excluded 3) 9 P ∷ between Down (Included 1) (Excluded 3) 9 P ∷ [])
    (record { keys = 1 ∷ 2 ∷ []; opened = 2; more = false } ∷ record { keys = 2 ∷ 1 ∷ []; opened = 3; more = false } ∷ [])
    ∷ case (List Seen) (between Up Unbounded (Excluded 4) 9 P ∷ between Down Unbounded (Excluded 4) 9 P ∷ [])
    (record { keys = 1 ∷ 2 ∷ 3 ∷ []; opened = 3; more = false } ∷ record { keys = 3 ∷ 2 ∷ 1 ∷ []; opened = 3; more = false } ∷ [])
    -- SizeAtLeast, of leaves of 3 × 5 and 2 × 16: a child is opened for its total size, an entry is listed for its own
    ∷ case (List Seen) (of_size 15 Up light ∷ of_size 15 Down light ∷ of_size 16 Up light ∷ of_size 16 Down light ∷ [])
    (record { keys = 4 ∷ 5 ∷ []; opened = 3; more = false } ∷ record { keys = 5 ∷ 4 ∷ []; opened = 3; more = false }
    ∷ record { keys = 4 ∷ 5 ∷ []; opened = 2; more = false } ∷ record { keys = 5 ∷ 4 ∷ []; opened = 2; more = false } ∷ [])
    ∷ case (List Seen) (of_size 17 Up light ∷ of_size 17 Down light ∷ of_size 33 Up light ∷ of_size 33 Down light ∷ [])
    (record { keys = []; opened = 2; more = false } ∷ record { keys = []; opened = 2; more = false }
    ∷ record { keys = []; opened = 1; more = false } ∷ record { keys = []; opened = 1; more = false } ∷ [])
    -- output full
    ∷ case (List Seen) (between Up Unbounded Unbounded 2 P ∷ between Up Unbounded Unbounded 3 P ∷ between Up Unbounded Unbounded 5 P ∷ [])
    (record { keys = 1 ∷ 2 ∷ []; opened = 2; more = true } ∷ record { keys = 1 ∷ 2 ∷ 3 ∷ []; opened = 3; more = true }
    ∷ record { keys = 1 ∷ 2 ∷ 3 ∷ 4 ∷ 5 ∷ []; opened = 3; more = false } ∷ [])
    -- after sharing with the previous child the walk steps back: 7 goes before 10
    ∷ case Shape (shape (after desk (set (5 ∷ 7 ∷ []) ∷ []) (grove ((1 ∷ 2 ∷ []) ∷ (10 ∷ 20 ∷ 30 ∷ 40 ∷ []) ∷ []))))
    (below ((1 ∷ 2 ∷ 5 ∷ 7 ∷ []) ∷ (10 ∷ 20 ∷ 30 ∷ 40 ∷ []) ∷ []))
    -- the previous sibling is shared with first ..
    ∷ case Shape (shape (after desk (set (55 ∷ 65 ∷ []) ∷ []) (grove ((10 ∷ 20 ∷ 30 ∷ []) ∷ (50 ∷ 60 ∷ 70 ∷ []) ∷ (80 ∷ 90 ∷ []) ∷ []))))
    (below ((10 ∷ 20 ∷ 30 ∷ 50 ∷ []) ∷ (55 ∷ 60 ∷ 65 ∷ 70 ∷ []) ∷ (80 ∷ 90 ∷ []) ∷ []))
    -- .. and joined with, unless the child is the first; a joint length above order is halved
    ∷ case Shape (shape (after desk (drop (5 ∷ 6 ∷ []) ∷ []) P4)) (below ((1 ∷ 2 ∷ 3 ∷ []) ∷ (4 ∷ 7 ∷ []) ∷ (8 ∷ 9 ∷ []) ∷ []))
    -- an only leaf of an only interior: the root collapses twice
    ∷ case Shape (shape (after desk (drop (2 ∷ []) ∷ []) (two_groves ((1 ∷ []) ∷ []) ((2 ∷ []) ∷ [])))) (lone (1 ∷ []))
    -- setting an equal reference again is a change, so that a leaf below the minimum is joined
    ∷ case Shape (shape (after broad (set (4 ∷ []) ∷ []) (grove ((1 ∷ 2 ∷ 3 ∷ []) ∷ (4 ∷ []) ∷ [])))) (lone (1 ∷ 2 ∷ 3 ∷ 4 ∷ []))
    -- joined in the middle of a batch, the walk goes on from the joint node
    ∷ case Shape (shape (after broad (set (5 ∷ 6 ∷ []) ∷ []) (grove ((1 ∷ 2 ∷ 3 ∷ []) ∷ (4 ∷ []) ∷ []))))
    (lone (1 ∷ 2 ∷ 3 ∷ 4 ∷ 5 ∷ 6 ∷ []))
    -- a node beside siblings may stay below the minimum
    ∷ case Shape
    (shape (after desk (drop (11 ∷ 12 ∷ 13 ∷ 14 ∷ []) ∷ [])
    (two_groves ((1 ∷ 2 ∷ 3 ∷ []) ∷ (4 ∷ 5 ∷ []) ∷ (6 ∷ 7 ∷ 8 ∷ 9 ∷ []) ∷ []) ((10 ∷ 11 ∷ 12 ∷ []) ∷ (13 ∷ 14 ∷ []) ∷ []))))
    (below ((1 ∷ 2 ∷ 3 ∷ []) ∷ (4 ∷ 5 ∷ []) ∷ (6 ∷ 7 ∷ 8 ∷ 9 ∷ []) ∷ (10 ∷ []) ∷ []))
    -- TWO TREES: 19 stands before 3, and 3 is by the order of the tree that is named
    ∷ case (List ℕ)
    (let g : PoolSettings = record { nodes = 16; first = record { order = 4; minimum = 2 }; second = record { order = 7; minimum = 3 } } in
    let five = set (1 ∷ 2 ∷ 3 ∷ 4 ∷ 5 ∷ []) in
    refusal_at g 2 five (new_forest 16) ∷ refusal_at g 0 five (new_forest 16) ∷ refusal_at g 1 five (new_forest 16) ∷ [])
    (19 ∷ 3 ∷ 0 ∷ [])
    -- a batch on one tree leaves the other's frames, and takes unused nodes of both: with N = 8 the second is refused as 7 once the first has P
    ∷ case (List (List ℕ) × List ℕ)
    (let f = run_forest (both 8 4 2) (slowly 0) (new_forest 8) in
    (lines (tree_of 1 f), refusal_at (both 8 4 2) 1 (set (1 ∷ [])) (new_forest 8) ∷ refusal_at (both 8 4 2) 1 (set (1 ∷ [])) f ∷ []))
    (text "01" ∷ [], 0 ∷ 7 ∷ [])
    -- slots that one tree has freed are taken by the other
    ∷ case (List (List ℕ))
    (let f = run_forest pool (record { tree = 0; call = drop (4 ∷ []) } ∷ same_on_second) (grown []) in slots_of (tree_of 0 f) ∷ slots_of (tree_of 1 f) ∷ [])
    ((0 ∷ []) ∷ (1 ∷ 2 ∷ 3 ∷ []) ∷ [])
    ∷ []
