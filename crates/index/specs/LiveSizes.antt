-- What document 02 says of the calls since a size sum counts live entries alone (A3), whatever answers keep the promises. Assumes nothing.
use Rattle.std.specs.Prelude.{ℕ, ◌+◌, ◌≤◌, ◌<◌, ◌≡◌, false, List, [], ◌∷◌, Ok}
use Rattle.std.proofs.Math.Option.{some}
use Rattle.model.specs.declared.Entry.{Entry}
use Rattle.model.specs.declared.Reference.{Reference}
use Rattle.model.specs.declared.Totals.{Totals}
use Rattle.model.specs.declared.Counts.{Counts}
use Rattle.model.specs.declared.Request.{Request}
use Rattle.model.specs.Tree.{is_mark}
use Rattle.model.specs.Plain.{held}
use Rattle.model.specs.Look.{Scanned}
use Rattle.model.specs.LiveSizes.{clear, scan_by_all}
use Rattle.model.specs.Demands.{Lent}
use Rattle.tree.specs.Pool.{index_of}
use Rattle.look_output.specs.declared.Scanned as Told
use Rattle.look_output.specs.Output.{room_in}
use Rattle.index_promise.specs.Promise.{Totalling, Batches, Scans, swept, written}
use Rattle.index.specs.Register.{AnswersFrom}

-- CLEARING an alarm, a live entry set to a mark of whatever size, takes its own size off the total
abbrev pub ClearingFrees : Type 0
ClearingFrees =
    (i : ℕ) (es : List Entry) (l m : List ℕ) (k size : ℕ) (r : Reference) (c : Counts) (before after : Totals) → i < 2 → AnswersFrom i es l
    → held k es ≡ some r → is_mark r.place ≡ false → Lent (clear (k ∷ []) size) → Batches i (clear (k ∷ []) size) l (Ok c) m
    → Totalling l i (Ok before) → Totalling m i (Ok after) → after.size + r.size ≡ before.size

-- SCANS: what was told and written is what a scan by the sum of before would have told and written, but for the nodes opened, which may fall and never rise
pub record AsBefore (before : Scanned) (out : List ℕ) (told : Told.Scanned) (out' : List ℕ) : Type 0 where
  pub bytes : out' ≡ written out before.listed
  pub number : told.written ≡ (swept before).written
  pub more : told.more ≡ (swept before).more
  pub opened : told.opened ≤ before.opened

abbrev pub ScanLists : Type 0
ScanLists =
    (l : List ℕ) (i : ℕ) (q : Request) (out : List ℕ) (told : Told.Scanned) (out' : List ℕ) → Scans l i q out (Ok told) out'
    → AsBefore (scan_by_all q (room_in out) (index_of l i)) out told out'
