-- Looking up and listing: what multi-get and scan list, and which nodes a scan opens. Assumes nothing.
use Rattle.std.specs.Prelude.{Bool, true, ◌&&◌, cond, List, [], ◌∷◌, ◌++◌, map, reverse, ℕ, zero, suc, ◌-◌, length, take, leb, ltb}
use Rattle.std.proofs.Math.Option.{Option, none, some}
use Rattle.model.specs.declared.Entry.{Entry}
use Rattle.model.specs.declared.Reference.{Reference}
use Rattle.model.specs.declared.Totals.{Totals}
use Rattle.model.specs.declared.Bound.{Bound}
use Rattle.model.specs.declared.Bound.TheVariants.{Unbounded, Included, Excluded}
use Rattle.model.specs.declared.Direction.{Direction}
use Rattle.model.specs.declared.Direction.TheVariants.{Up, Down}
use Rattle.model.specs.declared.Sift.{Sift}
use Rattle.model.specs.declared.Sift.TheVariants.{All, SizeAtLeast}
use Rattle.model.specs.declared.Request.{Request}
use Rattle.model.specs.Lists.{concat, keep}
use Rattle.model.specs.Tree.{Item, Tree, Index, entries_of, greatest_key, total, is_live}
use Rattle.model.specs.Plain.{entry_for, held}

-- what is written of a list where `room` entries fit, and whether another was due
pub record Listing : Type 0 where
  pub written : List Entry
  pub more : Bool

abbrev pub listing : ℕ → List Entry → Listing
listing room es = record { written = take room es; more = ltb room (length es) }

-- MULTI-GET: one entry for each key that is present, dead ones too, equal keys each time

abbrev pub present : ℕ → Option Reference → List Entry
present k none = []
present k (some r) = entry_for k r ∷ []

abbrev pub found : List ℕ → List Entry → List Entry
found [] es = []
found (k ∷ ks) es = present k (held k es) ++ found ks es

abbrev pub get_all : List ℕ → ℕ → Index → Listing
get_all ks room x = listing room (found ks (entries_of x))

-- SCAN

abbrev pub least : Sift → ℕ
least All = 0
least (SizeAtLeast s) = s

-- a key that the start bound, or the end bound, lets pass
abbrev pub starts : Bound → ℕ → Bool
starts Unbounded k = true
starts (Included a) k = leb a k
starts (Excluded a) k = ltb a k

abbrev pub ends : Bound → ℕ → Bool
ends Unbounded k = true
ends (Included b) k = leb k b
ends (Excluded b) k = ltb k b

abbrev pub turned {ℓ} : {A : Type ℓ} → Direction → List A → List A
turned Up xs = xs
turned Down xs = reverse xs

-- the figure by which a child is skipped: the total size of its live entries
abbrev pub figure : Totals → ℕ
figure t = t.size

-- which of a node's children are entered, in key order
abbrev pub Choice : Type 0
Choice = (h : ℕ) → List (Item h) → List (Item h)

-- the request of a range, a direction and a sift
abbrev pub request_for : Bound → Bound → Direction → Sift → Request
request_for start end direction sift = record { start = start; end = end; direction = direction; sift = sift }

module _ (q : Request) where
  -- a live entry in range, of size at least s
  abbrev pub due : Entry → Bool
  due e = is_live e && (starts q.start e.key && (ends q.end e.key && leb (least q.sift) e.size))

  abbrev pub due_in : List Entry → List Entry
  due_in es = turned q.direction (keep due es)

  -- NODES OPENED

  -- forwards the loop over the children ends once the previous separator is past the end ..
  abbrev pub until_end : (h : ℕ) → List (Item h) → List (Item h)
  until_end h [] = []
  until_end h (c ∷ cs) = c ∷ cond (ends q.end (greatest_key h c)) (until_end h cs) []

  -- .. backwards it has no such test
  abbrev pub reached : Direction → (h : ℕ) → List (Item h) → List (Item h)
  reached Up h cs = until_end h cs
  reached Down h cs = cs

  -- a child is skipped if its separator fails the start bound or its figure is below s
  abbrev pub enters : ℕ → Totals → Bool
  enters separator t = starts q.start separator && leb (least q.sift) (figure t)

  abbrev pub entered : (h : ℕ) → Item h → Bool
  entered h c = enters (greatest_key h c) (total h c)

  -- THE CHILDREN THAT ARE ENTERED, in key order
  abbrev pub entering : Choice
  entering h cs = keep (entered h) (reached q.direction h cs)

  -- for each node in the order of opening, the entries that it adds to the list, by any choice of the children ..
  abbrev pub openings_by : Choice → (h : ℕ) → Tree h → List (List Entry)
  openings_by chosen zero n = keep due (turned q.direction n.items) ∷ []
  openings_by chosen (suc h) n = [] ∷ concat (map (openings_by chosen h) (turned q.direction (chosen (suc h) n.items)))

  -- .. and by the rule
  abbrev pub openings : (h : ℕ) → Tree h → List (List Entry)
  openings h n = openings_by entering h n

-- with the output full, the count ends with the node that holds the next entry due
abbrev pub count_to : ℕ → List (List Entry) → ℕ
count_to room [] = 0
count_to room (es ∷ nodes) = suc (cond (ltb room (length es)) 0 (count_to (room - length es) nodes))

pub record Scanned : Type 0 where
  pub listed : Listing
  pub opened : ℕ

abbrev pub scan : Request → ℕ → Index → Scanned
scan q room x = record { listed = listing room (due_in q (entries_of x)); opened = count_to room (openings q x.height x.root) }
