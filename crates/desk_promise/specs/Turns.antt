-- A turn of the desk program: the next part of a line is kept, and the line answered where it ends; and what the program writes for a text that is
-- read in parts. Assumes nothing.
use Rattle.std.specs.Prelude.{ℕ, ◌+◌, ◌<◌, ◌≡◌, List, [], ◌∷◌, ◌++◌, length, take, drop}
use Rattle.model.specs.Lists.{concat}
use Rattle.desk_lines.specs.Lines.{first_line}
use Rattle.desk_lines.specs.Parts.{longest, Place, held, keeping}
use Rattle.desk_orders.specs.Orders.{ordered}
use Rattle.desk_promise.specs.Program.{program}
use Rattle.desk_promise.specs.Promise.{opened, Outcome, Answers}

-- how much of the text was taken, what is kept of the next line, and what the turn leaves
pub record Turned : Type 0 where
  pub taken : ℕ
  pub place : Place
  pub left : Outcome

-- of the line that is kept in p, the pool l, the text buffer t, and what is left of the text that was read
pub data Turns (p : Place) (l t rest : List ℕ) (u : Turned) : Type 0 where
  -- the line goes on behind it: nothing is answered
  goes_on : first_line rest ≡ rest → u ≡ record { taken = length rest; place = keeping p rest; left = record { count = 0; pool = l; text = t } }
      → Turns p l t rest u
  -- or it ends, and is answered; nothing is kept of the next
  ends : length (first_line rest) < length rest → u.taken ≡ length (first_line rest) + 1
      → u.place ≡ record { count = 0; bytes = (keeping p (first_line rest)).bytes }
      → Answers (ordered (held (keeping p (first_line rest)))) l t u.left
      → Turns p l t rest u

-- THE PROGRAM: what it writes, with p and l in hand, the rest of one read, and the reads to come
pub data Serves : Place → List ℕ → List ℕ → List (List ℕ) → List ℕ → Type 0 where
  -- the text has ended, and so has its last line ..
  over : {p : Place} {l : List ℕ} → p.count ≡ 0 → Serves p l [] [] []
  -- .. or it lacks its line feed
  last : {p : Place} {l : List ℕ} (t : List ℕ) (a : Outcome) → 0 < p.count → Answers (ordered (held p)) l t a → Serves p l [] [] (take a.count a.text)
  read : {p : Place} {l part : List ℕ} {parts : List (List ℕ)} {written : List ℕ} → Serves p l part parts written → Serves p l [] (part ∷ parts) written
  turn : {p : Place} {l rest : List ℕ} {parts : List (List ℕ)} {written : List ℕ} (t : List ℕ) (u : Turned) → 0 < length rest → Turns p l t rest u
      → Serves u.place u.left.pool (drop u.taken rest) parts written
      → Serves p l rest parts (take u.left.count u.left.text ++ written)

-- STATEMENTS

-- however a text is cut, the program writes what it is to write
abbrev pub ServesAnyText : Type 0
ServesAnyText =
    (parts : List (List ℕ)) (bytes written : List ℕ) → length bytes ≡ longest → Serves (record { count = 0; bytes = bytes }) opened [] parts written
    → written ≡ program (concat parts)

-- a turn is one
abbrev pub OneTurn : Type 0
OneTurn = (p : Place) (l t rest : List ℕ) (u v : Turned) → Turns p l t rest u → Turns p l t rest v → u ≡ v
