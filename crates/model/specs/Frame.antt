-- Frames: the nodes of a tree in preorder, as bytes and as lines of hexadecimal, and what writing one answers. Assumes nothing.
use Rattle.std.specs.Prelude.{Bool, true, ◌&&◌, cond, List, [], ◌∷◌, ◌++◌, map, ℕ, zero, suc, ◌+◌, ◌^◌, ◌/◌, ◌%◌, length, ltb}
use Rattle.std.proofs.Math.Option.{Option, none, some}
use Rattle.std.proofs.Math.ListN.{get_elem?}
use Rattle.model.specs.declared.Entry.{Entry}
use Rattle.model.specs.declared.Totals.{Totals}
use Rattle.model.specs.Lists.{concat}
use Rattle.model.specs.Tree.{Item, Tree, Index, greatest_key, total, slots}
use Rattle.model.specs.Answer.{Answer, refused, unless}

-- an interior entry: separator, the child's number in preorder, its totals
pub record Branch : Type 0 where
  pub key : ℕ
  pub child : ℕ
  pub totals : Totals

pub data Frame : Type 0 where
  leaf : List Entry → Frame
  interior : List Branch → Frame

abbrev pub keys_of : Frame → List ℕ
keys_of (leaf es) = map (λ e. e.key) es
keys_of (interior bs) = map (λ b. b.key) bs

-- THE FRAMES OF A TREE, in preorder

abbrev pub nodes_in : (h : ℕ) → Item h → ℕ
nodes_in h c = length (slots h c)

-- children numbered from i
abbrev pub branches : (h : ℕ) → ℕ → List (Item h) → List Branch
branches h i [] = []
branches h i (c ∷ cs) = record { key = greatest_key h c; child = i; totals = total h c } ∷ branches h (i + nodes_in h c) cs

-- the frames of siblings, the first of which has number i
abbrev pub in_turn : (h : ℕ) → (ℕ → Item h → List Frame) → ℕ → List (Item h) → List Frame
in_turn h frames i [] = []
in_turn h frames i (c ∷ cs) = frames i c ++ in_turn h frames (i + nodes_in h c) cs

-- the frames of a tree whose root has number i
abbrev pub frames_from : (h : ℕ) → ℕ → Tree h → List Frame
frames_from zero i n = leaf n.items ∷ []
frames_from (suc h) i n = interior (branches (suc h) (i + 1) n.items) ∷ in_turn (suc h) (frames_from h) (i + 1) n.items

abbrev pub frames_of : Index → List Frame
frames_of x = frames_from x.height 0 x.root

-- BYTES AND LINES

-- n in w bytes, big-endian
abbrev pub bytes : ℕ → ℕ → List ℕ
bytes zero n = []
bytes (suc w) n = n / 256 ^ w % 256 ∷ bytes w n

abbrev pub leaf_bytes : Entry → List ℕ
leaf_bytes e = bytes 8 e.key ++ (bytes 8 e.place ++ bytes 4 e.size)

abbrev pub branch_bytes : Branch → List ℕ
branch_bytes b =
    bytes 8 b.key ++ (bytes 4 b.child ++ (bytes 4 b.totals.live ++ (bytes 4 b.totals.dead ++ bytes 8 b.totals.size)))

abbrev pub frame_bytes : Frame → List ℕ
frame_bytes (leaf es) = 1 ∷ concat (map leaf_bytes es)
frame_bytes (interior bs) = 0 ∷ concat (map branch_bytes bs)

-- 0 to 9, then a to f
abbrev pub digit : ℕ → ℕ
digit d = cond (ltb d 10) (48 + d) (87 + d)

abbrev pub hex : List ℕ → List ℕ
hex [] = []
hex (b ∷ bs) = digit (b / 16) ∷ digit (b % 16) ∷ hex bs

abbrev pub line_of : Frame → List ℕ
line_of f = hex (frame_bytes f)

-- WRITING, where `room` bytes of line are lent

abbrev pub fitted : ℕ → List ℕ → Answer (List ℕ)
fitted room l = unless (cond (ltb room (length l)) 16 0) l

-- the i-th frame of an index
abbrev pub written : ℕ → Option Frame → Answer (List ℕ)
written room none = refused 14
written room (some f) = fitted room (line_of f)

abbrev pub write_node : ℕ → ℕ → Index → Answer (List ℕ)
write_node i room x = written room (get_elem? (frames_of x) i)

-- strictly ascending
abbrev pub rising : List ℕ → Bool
rising [] = true
rising (k ∷ []) = true
rising (k ∷ (j ∷ ks)) = ltb k j && rising (j ∷ ks)

-- refusals 11 and 12, of the entries' keys
abbrev pub entries_refusal : List ℕ → ℕ
entries_refusal ks = cond (ltb 32 (length ks)) 11 (cond (rising ks) 0 12)

-- a frame given by its kind and entries
abbrev pub write_frame : ℕ → Frame → Answer (List ℕ)
write_frame room f = refuse_or (entries_refusal (keys_of f))
  where
    refuse_or : ℕ → Answer (List ℕ)
    refuse_or zero = fitted room (line_of f)
    refuse_or (suc n) = refused (suc n)
