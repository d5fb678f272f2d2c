-- What stands under a key, in the model's words; whether the next key is due, and how many keys a batch has counted. Assumes nothing.
use Rattle.std.specs.Prelude.{ℕ, ◌+◌, ◌≤◌, Bool, ◌&&◌, List, length, get_or, ltb, leb}
use Rattle.std.proofs.Math.Option.{Option, none, some}
use Rattle.model.specs.declared.Counts.{Counts}
use Rattle.model.specs.declared.Reference.{Reference}
use Rattle.model.specs.Plain.{reference_for}
use Rattle.std.specs.Prelude as Here
use Rattle.batch_effect.specs.declared.Held.{Held}

-- what stands under a key, as the model has it
abbrev pub option_of : Here.Option Held → Option Reference
option_of Here.None = none
option_of (Here.Some h) = some (reference_for h.place h.size)

-- there is a next key, and it does not exceed the ceiling
abbrev pub is_due : List ℕ → ℕ → ℕ → Bool
is_due ks next ceiling = ltb next (length ks) && leb (get_or ks next 0) ceiling

-- c counts n keys at most
pub record AtMost (c : Counts) (n : ℕ) : Type 0 where
  pub few : c.added + c.replaced + c.removed + c.nothing ≤ n
