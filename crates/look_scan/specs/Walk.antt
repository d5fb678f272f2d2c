-- A scan's walk: what it asks of rows, and what the nodes that it opens add to the output, one after the other. Assumes nothing.
use Rattle.std.specs.Prelude.{ℕ, suc, ◌+◌, ◌-◌, Bool, true, cond, List, [], ◌∷◌, map}
use Rattle.slots_raw.specs.declared.Row.{Row}
use Rattle.slots.specs.Nodes.{nodes}
use Rattle.model.specs.declared.Entry.{Entry}
use Rattle.model.specs.declared.Bound.{Bound}
use Rattle.model.specs.declared.Direction.{Direction}
use Rattle.model.specs.declared.Direction.TheVariants.{Up, Down}
use Rattle.model.specs.Lists.{concat, keep}
use Rattle.model.specs.Tree.{Tree}
use Rattle.model.specs.declared.Request.{Request}
use Rattle.model.specs.Look.{ends, enters, entered, openings}
use Rattle.tree.specs.Bridge.{child_totals}
use Rattle.look_output.specs.declared.Scanned.{Scanned}
use Rattle.look_output.specs.Output.{Page, page, enlist_all}

-- WHAT A SCAN ASKS

-- whether the child of an interior's row is opened, by the separator and the totals that the row stores
abbrev pub row_enters : Request → Row → Bool
row_enters q r = enters q r.key (child_totals r)

-- whether the loop over children goes on behind a separator
abbrev pub goes_on_by : Direction → Bound → ℕ → Bool
goes_on_by Up end key = ends end key
goes_on_by Down end key = true

abbrev pub goes_on : Request → ℕ → Bool
goes_on q key = goes_on_by q.direction q.end key

-- the place of the row that comes after j others, of n
abbrev pub place_in : Direction → ℕ → ℕ → ℕ
place_in Up n j = j
place_in Down n j = n - 1 - j

-- WHAT A WALK ADDS

-- an output, and the nodes opened so far
pub record Walk : Type 0 where
  pub page : Page
  pub opened : ℕ

abbrev pub walk_at : List ℕ → Scanned → Walk
walk_at out w = record { page = page out (record { written = w.written; more = w.more }); opened = w.opened }

-- a node is opened, and adds some entries; once more was due than fits, no node is
abbrev pub visit : ℕ → List Entry → Walk → Walk
visit room es w = cond w.page.listed.more w (record { page = enlist_all room es w.page; opened = w.opened + 1 })

abbrev pub visit_all : ℕ → List (List Entry) → Walk → Walk
visit_all room [] w = w
visit_all room (es ∷ nodes) w = visit_all room nodes (visit room es w)

-- the openings of some children, as `openings` has them
abbrev pub openings_of : Request → (h : ℕ) → List (Tree h) → List (List Entry)
openings_of q h cs = concat (map (openings q h) (keep (entered q (suc h)) cs))
