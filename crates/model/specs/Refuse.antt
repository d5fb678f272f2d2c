-- The call of a batch: refusals 3 to 7 in the table's order, those of the call alone and then those of the tree, its answer, and the index after it; and refusal 5 of a get. Assumes nothing.
use Rattle.std.specs.Prelude.{Bool, true, false, ◌&&◌, ◌||◌, not, cond, List, [], ◌∷◌, ℕ, ◌+◌, ◌*◌, max, length, leb, ltb, eqb}
use Rattle.model.specs.declared.Settings.{Settings}
use Rattle.model.specs.declared.Operation.{Operation}
use Rattle.model.specs.declared.Batch.{Batch}
use Rattle.model.specs.declared.Operation.TheVariants as Op
use Rattle.model.specs.Tree.{Index, depth}
use Rattle.model.specs.Plain.{Task, references, tasks_for}
use Rattle.model.specs.Change.{Batched, batch}
use Rattle.model.specs.Answer.{Answer, refused, done, unless}
use Rattle.model.specs.Look.{Listing, get_all}

-- an operation, the references that are lent with it, their places and their sizes, which only SetEach reads, and the keys
pub record Call : Type 0 where
  pub operation : Operation
  pub places : List ℕ
  pub sizes : List ℕ
  pub keys : List ℕ

abbrev pub call : Operation → List ℕ → List ℕ → List ℕ → Call
call op ps zs ks = record { operation = op; places = ps; sizes = zs; keys = ks }

-- the call that a batch is
abbrev pub called : Batch → Call
called b = call b.operation b.places.now b.sizes.now b.keys.now

abbrev pub tasks_of : Call → List Task
tasks_of c = tasks_for c.operation (references c.places c.sizes) c.keys

abbrev pub is_remove : Operation → Bool
is_remove (Op.Set r) = false
is_remove Op.SetEach = false
is_remove Op.Remove = true
is_remove (Op.Compare e a) = false

abbrev pub is_each : Operation → Bool
is_each (Op.Set r) = false
is_each Op.SetEach = true
is_each Op.Remove = false
is_each (Op.Compare e a) = false

-- a key is followed by a smaller one
abbrev pub descend : List ℕ → Bool
descend [] = false
descend (k ∷ []) = false
descend (k ∷ (j ∷ ks)) = ltb j k || descend (j ∷ ks)

-- the unused nodes that refusal 7 asks for, of n keys at depth d
abbrev pub needed : ℕ → ℕ → ℕ
needed n d = n * max d 2 + 4

-- OF THE CALL ALONE: the first of 3, 4 and 5 that applies, or else another number
abbrev pub call_refusal : Settings → Call → ℕ → ℕ
call_refusal st c other =
    let n = length c.keys in
    cond (ltb st.order n) 3
    (cond (is_each c.operation && not (eqb (length c.places) n && eqb (length c.sizes) n)) 4
    (cond (descend c.keys) 5 other))

-- OF THE TREE: the first of 6 and 7 that applies, 0 where none does. A batch of no keys is done, and so is a Remove.
abbrev pub tree_refusal : Call → Index → ℕ
tree_refusal c x =
    let n = length c.keys in
    cond (eqb n 0 || is_remove c.operation) 0
    (cond (leb 8 (depth x)) 6
    (cond (ltb (length x.unused) (needed n (depth x))) 7 0))

-- The first number that applies: of the call, or else of the tree.
abbrev pub refusal : Settings → Call → Index → ℕ
refusal st c x = call_refusal st c (tree_refusal c x)

abbrev pub answer : Settings → Call → Index → Answer Batched
answer st c x =
    let b = batch st (tasks_of c) x in
    unless (refusal st c x) b

-- a refused call leaves the index as it was
abbrev pub index_after : Index → Answer Batched → Index
index_after x (refused n) = x
index_after x (done b) = b.index

-- MULTI-GET
abbrev pub get : List ℕ → ℕ → Index → Answer Listing
get ks room x = unless (cond (descend ks) 5 0) (get_all ks room x)
