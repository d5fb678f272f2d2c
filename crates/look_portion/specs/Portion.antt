-- A listing in portions (document 02, A5): a portion is the scan upwards from its start; it tells besides where the next one starts, and whether the
-- listing has ended. Assumes nothing.
use Rattle.std.specs.Prelude.{Bool, ◌&&◌, not, List, [], ◌∷◌, map, ℕ, ltb}
use Rattle.model.specs.declared.Entry.{Entry}
use Rattle.model.specs.declared.Bound.{Bound}
use Rattle.model.specs.declared.Bound.TheVariants.{Excluded}
use Rattle.model.specs.declared.Direction.TheVariants.{Up}
use Rattle.model.specs.declared.Sift.{Sift}
use Rattle.model.specs.declared.Request.{Request}
use Rattle.model.specs.Tree.{Index}
use Rattle.model.specs.Look.{Scanned, request_for, scan}

-- what a portion asks of a tree: its own start, and the end and the sift of the whole listing
abbrev pub upwards : Bound → Bound → Sift → Request
upwards start end sift = request_for start end Up sift

-- the next portion starts after the last key shown, and where nothing was shown it starts where this one did
abbrev pub next_start : Bound → List Entry → Bound
next_start start [] = start
next_start start (e ∷ es) = next_start (Excluded e.key) es

-- a portion ends the listing if its size is above zero and no more is due
abbrev pub ends_listing : ℕ → Bool → Bool
ends_listing size more = ltb 0 size && not more

-- what is listed, where the next portion starts, and whether the listing has ended
pub record Shown : Type 0 where
  pub scanned : Scanned
  pub next : Bound
  pub ended : Bool

-- A PORTION of a tree, of at most so many entries
abbrev pub portion : Bound → Bound → Sift → ℕ → Index → Shown
portion start end sift size x =
    let s = scan (upwards start end sift) size x in
    record { scanned = s; next = next_start start s.listed.written; ended = ends_listing size s.listed.more }

-- the keys of what is shown
abbrev pub entry_keys : List Entry → List ℕ
entry_keys es = map (λ e. e.key) es
