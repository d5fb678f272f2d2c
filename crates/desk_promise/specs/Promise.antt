-- What `open` and `answer` leave in the bytes that are lent to them, and what follows for lines that are answered one after the other.
-- Assumes nothing.
use Rattle.std.specs.Prelude.{ℕ, ◌≡◌, List, [], ◌∷◌, ◌++◌, map, length, take, drop}
use Rattle.model.specs.Tree.{Index}
use Rattle.model.specs.Refuse.{Call}
use Rattle.model.specs.Refuse as Batch
use Rattle.model.specs.Forest.{replant, new_forest}
use Rattle.tree.specs.Pool.{SoundPool, given_in, settings_in, index_of, forest_of, image_of}
use Rattle.index_promise.specs.Promise.{Where}
use Rattle.desk_lines.specs.Lines.{lines_of}
use Rattle.desk_lines.specs.Parts.{Kept, kept}
use Rattle.desk_orders.specs.Orders.{Wanted, set, drops, dump, malformed, ordered}
use Rattle.desk_promise.specs.Replies.{Reply, refusing, batch_reply, reply, malformed_line}
use Rattle.desk_promise.specs.Program.{desk, program}

-- the desk's pool, opened
abbrev pub opened : List ℕ
opened = image_of desk (new_forest desk.nodes)

-- the length that is answered, and the pool and the text buffer afterwards
pub record Outcome : Type 0 where
  pub count : ℕ
  pub pool : List ℕ
  pub text : List ℕ

-- the text stands in the first bytes, and every byte behind it is as it was
abbrev pub outcome : List ℕ → Reply (List ℕ) → Outcome
outcome t y = record { count = length y.text; pool = y.after; text = y.text ++ drop (length y.text) t }

-- a reply on a sound pool l; on any other a call is refused by 2
abbrev pub OnPool : List ℕ → List ℕ → Reply (List ℕ) → Outcome → Type 0
OnPool l t y a = Where (SoundPool l) (outcome t y) (outcome t (refusing l 2)) a

-- the pool l with x as its tree 0; the other tree is as it was
abbrev pub with_first : List ℕ → Index → List ℕ
with_first l x = image_of (given_in l) (replant 0 x (forest_of l))

-- a batch
abbrev pub Changes : Call → List ℕ → List ℕ → Outcome → Type 0
Changes c l t a = OnPool l t (batch_reply (with_first l) l (Batch.answer (settings_in l 0) c (index_of l 0))) a

abbrev pub Replies : Wanted → List ℕ → List ℕ → Outcome → Type 0
Replies w l t a = OnPool l t (reply (with_first l) l (settings_in l 0) w (index_of l 0)) a

-- a line that asks for nothing is refused before the pool is looked at
abbrev pub Answers : Wanted → List ℕ → List ℕ → Outcome → Type 0
Answers (set es) l t a = Replies (set es) l t a
Answers (drops ks) l t a = Replies (drops ks) l t a
Answers dump l t a = Replies dump l t a
Answers malformed l t a = a ≡ outcome t (refusing l malformed_line)

-- LINES ANSWERED ONE AFTER THE OTHER, from the pool l on: what is written is the texts, one behind the other
pub data Session : List Kept → List ℕ → List ℕ → Type 0 where
  rest : {l : List ℕ} → Session [] l []
  next : {k : Kept} {ks : List Kept} {l written : List ℕ} (t : List ℕ) (a : Outcome) → Answers (ordered k) l t a → Session ks a.pool written
      → Session (k ∷ ks) l (take a.count a.text ++ written)

-- STATEMENTS

-- whatever keeps the promise, the lines of a text are answered with what the program is to write
abbrev pub WritesTheProgram : Type 0
WritesTheProgram = (text written : List ℕ) → Session (map kept (lines_of text)) opened written → written ≡ program text

-- and it is one answer, one pool and one text buffer
abbrev pub OneAnswer : Type 0
OneAnswer = (w : Wanted) (l t : List ℕ) (a b : Outcome) → Answers w l t a → Answers w l t b → a ≡ b
