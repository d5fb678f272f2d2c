-- By the table's numbers a result is told as the model has it, and so is its number. Assumes nothing.
use mathlib.Core.Path.{◌≡◌, refl}
use Rattle.std.specs.Prelude.{Result}
use Rattle.model.specs.declared.Refusal.{Refusal}
use Rattle.model.specs.Answer.{number, told, code}
use Rattle.index_c_told.specs.Told.{told_by, code_by}

pub told_table : {A : Type 0} (r : Result A Refusal) → told_by number r ≡ told r
told_table r = refl

pub code_table : {A : Type 0} (r : Result A Refusal) → code_by number r ≡ code r
code_table r = refl
