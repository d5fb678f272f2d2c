-- What the desk program answers to a line: the text it writes, and what it has afterwards. Assumes nothing.
use Rattle.std.specs.Prelude.{ℕ, List, [], ◌++◌, map}
use Rattle.model.specs.declared.Settings.{Settings}
use Rattle.model.specs.declared.Entry.{Entry}
use Rattle.model.specs.declared.Operation.TheVariants as Op
use Rattle.model.specs.Lists.{concat}
use Rattle.model.specs.Tree.{Index}
use Rattle.model.specs.Change.{Batched}
use Rattle.model.specs.Answer.{Answer, refused, done}
use Rattle.model.specs.Refuse.{Call, answer}
use Rattle.model.specs.Frame.{Frame, frames_of, line_of}
use Rattle.desk_orders.specs.Orders.{Wanted, set, drops, dump, malformed}
use Rattle.desk_text.specs.Texts.{done_text, refused_text, line_feed}

-- a malformed or too long line is refused by this number
abbrev pub malformed_line : ℕ
malformed_line = 15

-- the batches that `set` and `drop` ask for
abbrev pub set_call : List Entry → Call
set_call es =
    record { operation = Op.SetEach; places = map (λ e. e.place) es; sizes = map (λ e. e.size) es; keys = map (λ e. e.key) es }

abbrev pub drop_call : List ℕ → Call
drop_call ks = record { operation = Op.Remove; places = []; sizes = []; keys = ks }

-- all frames, one to a line
abbrev pub frame_text : Frame → List ℕ
frame_text f = line_of f ++ line_feed

abbrev pub dump_text : List Frame → List ℕ
dump_text fs = concat (map frame_text fs)

-- the text, and what is there afterwards: an index, or the bytes of a pool that holds it
pub record Reply (A : Type 0) : Type 0 where
  pub text : List ℕ
  pub after : A

-- a refusal leaves what was there
abbrev pub refusing : {A : Type 0} → A → ℕ → Reply A
refusing same n = record { text = refused_text n; after = same }

-- `image` tells how an index is held, and `same` is what was there before
module _ {A : Type 0} (image : Index → A) (same : A) where
  abbrev pub batch_reply : Answer Batched → Reply A
  batch_reply (refused n) = refusing same n
  batch_reply (done b) = record { text = done_text b.counts; after = image b.index }

  abbrev pub reply : Settings → Wanted → Index → Reply A
  reply st (set es) x = batch_reply (answer st (set_call es) x)
  reply st (drops ks) x = batch_reply (answer st (drop_call ks) x)
  reply st dump x = record { text = dump_text (frames_of x); after = same }
  reply st malformed x = refusing same malformed_line
