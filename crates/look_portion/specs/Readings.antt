-- Portions worked out: what is computed, and what is wanted. P is the pool after the program's input, keys 1 to 5. Assumes nothing.
use Rattle.std.specs.Prelude.{Bool, true, false, List, [], ◌∷◌, ℕ}
use Rattle.model.specs.declared.Bound.{Bound}
use Rattle.model.specs.declared.Bound.TheVariants.{Unbounded, Included, Excluded}
use Rattle.model.specs.declared.Sift.TheVariants.{All, SizeAtLeast}
use Rattle.model.specs.Tree.{Index}
use Rattle.model.specs.Cases.{Case, case, desk, new, set, drop, after, P, light}
use Rattle.look_portion.specs.Portion.{Shown, entry_keys, portion}

-- the keys shown, where the next portion starts, and whether this one ended the listing
pub record Seen : Type 0 where
  pub keys : List ℕ
  pub next : Bound
  pub ended : Bool

abbrev pub seen : Shown → Seen
seen p = record { keys = entry_keys p.scanned.listed.written; next = p.next; ended = p.ended }

abbrev pub is_not_last : List ℕ → Bound → Seen
is_not_last ks next = record { keys = ks; next = next; ended = false }

abbrev pub is_last : List ℕ → Bound → Seen
is_last ks next = record { keys = ks; next = next; ended = true }

-- a portion of all live entries from a start on
abbrev pub from : Bound → ℕ → Index → Seen
from start size x = seen (portion start Unbounded All size x)

abbrev pub readings : List Case
readings =
    -- P in portions of 2, 2 and 1: the last one is exactly full, and ends
    case Seen (from Unbounded 2 P) (is_not_last (1 ∷ 2 ∷ []) (Excluded 2))
    ∷ case Seen (from (Excluded 2) 2 P) (is_not_last (3 ∷ 4 ∷ []) (Excluded 4))
    ∷ case Seen (from (Excluded 4) 1 P) (is_last (5 ∷ []) (Excluded 5))
    -- in one of 5, and in one with room to spare
    ∷ case Seen (from Unbounded 5 P) (is_last (1 ∷ 2 ∷ 3 ∷ 4 ∷ 5 ∷ []) (Excluded 5))
    ∷ case Seen (from (Included 4) 9 P) (is_last (4 ∷ 5 ∷ []) (Excluded 5))
    -- up to an end, of a size and more: in `light` the keys 1 to 3 have size 5, and 4 and 5 size 16
    ∷ case Seen (seen (portion (Included 2) (Excluded 5) (SizeAtLeast 16) 1 light)) (is_last (4 ∷ []) (Excluded 4))
    ∷ case Seen (seen (portion (Included 2) (Excluded 5) (SizeAtLeast 5) 2 light)) (is_not_last (2 ∷ 3 ∷ []) (Excluded 3))
    -- size zero shows nothing, keeps its start, and ends nothing, even where nothing is due
    ∷ case Seen (from (Included 4) 0 P) (is_not_last [] (Included 4))
    ∷ case Seen (from (Excluded 5) 0 P) (is_not_last [] (Excluded 5))
    -- a range that holds nothing ends at once, and keeps its start too
    ∷ case Seen (from (Excluded 5) 2 P) (is_last [] (Excluded 5))
    ∷ case Seen (from Unbounded 1 (new 16)) (is_last [] Unbounded)
    -- the key that was shown last is removed before the next portion, one is set below it and one above
    ∷ case Seen (from (Excluded 4) 2 (after desk (drop (4 ∷ []) ∷ set (0 ∷ 6 ∷ []) ∷ []) P)) (is_last (5 ∷ 6 ∷ []) (Excluded 6))
    -- a call after the end is a portion from there
    ∷ case Seen (from (Excluded 5) 2 (after desk (set (7 ∷ []) ∷ []) P)) (is_last (7 ∷ []) (Excluded 7))
    ∷ []
