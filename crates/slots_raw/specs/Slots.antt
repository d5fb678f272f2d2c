-- The words of a pool as slots: the header, then a slot for each node. A slot is a kind, a count, and the rows that there is room for. Nothing here asks
-- that a slot makes sense. Assumes nothing.
use Rattle.std.specs.Prelude.{ℕ, zero, suc, ◌+◌, ◌-◌, ◌*◌, cond, List, [], ◌∷◌, map, take, drop, get_or, ltb}
use Rattle.model.specs.declared.Settings.{Settings}
use Rattle.slots_raw.specs.declared.Row.{Row}

-- ---- lengths, in words

-- of the header, of the head of a slot (its kind and its count), and of a row
abbrev pub head_len : ℕ
head_len = 8

abbrev pub slot_head : ℕ
slot_head = 2

abbrev pub row_len : ℕ
row_len = 3

-- of a slot with room for some rows
abbrev pub width : ℕ → ℕ
width rows = slot_head + row_len * rows

-- the header of a pool's words
abbrev pub head_in : List ℕ → List ℕ
head_in W = take head_len W

-- ---- a slot

-- a slot as it is stored: every row of it, those past the count too
pub record Raw : Type 0 where
  pub kind : ℕ
  pub count : ℕ
  pub cells : List Row

-- a row of zeros
abbrev pub blank : Row
blank = record { key = 0; body = 0; size = 0 }

-- the row that three words spell
abbrev pub row_of : List ℕ → Row
row_of l = record { key = get_or l 0 0; body = get_or l 1 0; size = get_or l 2 0 }

-- the first n pieces of l, each of S elements
unfoldable pub chunks : ℕ → ℕ → List ℕ → List (List ℕ)
chunks S zero l = []
chunks S (suc n) l = take S l ∷ chunks S n (drop S l)

-- the first n rows of some words
unfoldable pub rows_of : ℕ → List ℕ → List Row
rows_of n l = map row_of (chunks row_len n l)

-- the slot that some words spell, with room for some rows
unfoldable pub raw_of : ℕ → List ℕ → Raw
raw_of rows b = record { kind = get_or b 0 0; count = get_or b 1 0; cells = rows_of rows (drop slot_head b) }

-- ---- kinds

-- Kinds are read and written as the tree sees them to whom the settings belong: its own nodes are of kinds 1 and 2, wherever its root is. Kind k as the
-- tree with its root in slot `root` sees it: from slot 0 as it is stored; from another slot 1 and 3 have changed places, and 2 and 4. Seen twice, it is
-- as it was.
unfoldable pub seen : ℕ → ℕ → ℕ
seen root zero = 0
seen zero (suc k) = suc k
seen (suc root) (suc k) = cond (ltb (suc k) 3) (suc k + 2) (cond (ltb (suc k) 5) (suc k - 2) (suc k))

-- a slot so seen
abbrev pub viewed : ℕ → Raw → Raw
viewed root r = record { kind = seen root r.kind; count = r.count; cells = r.cells }

-- ---- the slots of a pool's words

-- the slot that some words spell
abbrev pub slot_of : Settings → List ℕ → Raw
slot_of st b = viewed st.root (raw_of st.rows b)

unfoldable pub slots : Settings → List ℕ → List Raw
slots st W = map (slot_of st) (chunks (width st.rows) st.nodes (drop head_len W))

-- slot s; an unused one past the end
unfoldable pub raw_at : Settings → List ℕ → ℕ → Raw
raw_at st W s = get_or (slots st W) s (raw_of st.rows [])
