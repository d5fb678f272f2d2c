-- A size sum counts live entries alone (document 02, A3): the sum of before, the scan that went by it, and what 02 says of scans. Assumes nothing.
use Rattle.std.specs.Prelude.{◌≡◌, Bool, ◌&&◌, List, [], ◌∷◌, ℕ, ◌+◌, ◌≤◌, leb}
use Rattle.model.specs.declared.Entry.{Entry}
use Rattle.model.specs.declared.Settings.{Settings}
use Rattle.model.specs.declared.Operation.TheVariants as Op
use Rattle.model.specs.declared.Request.{Request}
use Rattle.model.specs.Lists.{concat, keep}
use Rattle.model.specs.Tree.{Item, Index, entries, greatest_key}
use Rattle.model.specs.Look.{listing, least, starts, Choice, reached, openings_by, count_to, Scanned, scan}
use Rattle.model.specs.Refuse.{Call, call}
use Rattle.model.specs.Sound.{Sound}

-- THE SUM OF BEFORE: the sizes of all entries, dead ones too
abbrev pub all_sizes : List Entry → ℕ
all_sizes [] = 0
all_sizes (e ∷ es) = e.size + all_sizes es

-- keys set to a mark, of some size: their entries are dead
abbrev pub clear : List ℕ → ℕ → Call
clear ks size = call (Op.Set (record { place = 0; size = size })) [] [] ks

-- THE SCAN OF BEFORE skipped a child if its separator failed the start bound or its sum of before was below s; it listed what the nodes that it
-- opened hold

module _ (q : Request) where
  abbrev pub entered_by_all : (h : ℕ) → Item h → Bool
  entered_by_all h c = starts q.start (greatest_key h c) && leb (least q.sift) (all_sizes (entries h c))

  abbrev pub entering_by_all : Choice
  entering_by_all h cs = keep (entered_by_all h) (reached q q.direction h cs)

  abbrev pub scan_by_all : ℕ → Index → Scanned
  scan_by_all room x =
      let nodes = openings_by q entering_by_all x.height x.root in
      record { listed = listing room (concat nodes); opened = count_to room nodes }

-- SCAN LISTS STAY
abbrev pub ListsStay : Type 0
ListsStay =
    (st : Settings) (elsewhere : List ℕ) (q : Request) (room : ℕ) (x : Index) → Sound st elsewhere x → (scan q room x).listed ≡ (scan_by_all q room x).listed

-- NODES OPENED MAY FALL and never rise: of every tree, sound or not
abbrev pub OpensNoMore : Type 0
OpensNoMore = (q : Request) (room : ℕ) (x : Index) → (scan q room x).opened ≤ (scan_by_all q room x).opened
