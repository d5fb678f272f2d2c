-- A refusal is known by its number, and what a call answers by what it tells: two answers that tell the same are the same. Assumes nothing.
use Prim.Native.Nat.{ℕ, ◌-◌}
use mathlib.Core.Path.{◌≡◌, refl, sym, ap, ◌∙◌}
use mathlib.Core.Logic.{◌≢◌}
use mathlib.Core.List.{List, [], ◌∷◌}
use native.Mathlib.Omega.{arith}
use lib.ListN.{get_or}
use Rattle.std.specs.Prelude.{Result, Ok, Err}
use Rattle.model.specs.declared.Refusal.{Refusal}
use Rattle.model.specs.declared.Refusal.TheVariants as Why
use Rattle.model.specs.Answer.{done, number, told}
use Rattle.model.proofs.Answers.{refused_done}

-- the table in turn, from number 1 on
abbrev table : List Refusal
table =
    Why.WrongSettings ∷ Why.Unsound ∷ Why.TooManyKeys ∷ Why.ReferencesMiscounted ∷ Why.KeysDescend ∷ Why.TooHigh ∷ Why.TooFewUnused
    ∷ Why.EmptyLine ∷ Why.NotHex ∷ Why.PartOfAnEntry ∷ Why.TooManyEntries ∷ Why.KeysNotAscending ∷ Why.UnknownHeader
    ∷ Why.NoSuchNode ∷ Why.MalformedLine ∷ Why.LineTooShort ∷ Why.SettingsDiffer ∷ Why.TargetNotNew ∷ Why.NoSuchTree ∷ []

again : (r : Refusal) → get_or table (number r - 1) Why.Unsound ≡ r
again Why.WrongSettings = refl
again Why.Unsound = refl
again Why.TooManyKeys = refl
again Why.ReferencesMiscounted = refl
again Why.KeysDescend = refl
again Why.TooHigh = refl
again Why.TooFewUnused = refl
again Why.EmptyLine = refl
again Why.NotHex = refl
again Why.PartOfAnEntry = refl
again Why.TooManyEntries = refl
again Why.KeysNotAscending = refl
again Why.UnknownHeader = refl
again Why.NoSuchNode = refl
again Why.MalformedLine = refl
again Why.LineTooShort = refl
again Why.SettingsDiffer = refl
again Why.TargetNotNew = refl
again Why.NoSuchTree = refl

pub number_only : (r q : Refusal) → number r ≡ number q → r ≡ q
number_only r q e = sym (again r) ∙ ap (λ (n : ℕ). get_or table (n - 1) Why.Unsound) e ∙ again q

-- no refusal has the number 0
pub number_some : (r : Refusal) → number r ≢ 0
number_some Why.WrongSettings e = absurd (omega (arith, e))
number_some Why.Unsound e = absurd (omega (arith, e))
number_some Why.TooManyKeys e = absurd (omega (arith, e))
number_some Why.ReferencesMiscounted e = absurd (omega (arith, e))
number_some Why.KeysDescend e = absurd (omega (arith, e))
number_some Why.TooHigh e = absurd (omega (arith, e))
number_some Why.TooFewUnused e = absurd (omega (arith, e))
number_some Why.EmptyLine e = absurd (omega (arith, e))
number_some Why.NotHex e = absurd (omega (arith, e))
number_some Why.PartOfAnEntry e = absurd (omega (arith, e))
number_some Why.TooManyEntries e = absurd (omega (arith, e))
number_some Why.KeysNotAscending e = absurd (omega (arith, e))
number_some Why.UnknownHeader e = absurd (omega (arith, e))
number_some Why.NoSuchNode e = absurd (omega (arith, e))
number_some Why.MalformedLine e = absurd (omega (arith, e))
number_some Why.LineTooShort e = absurd (omega (arith, e))
number_some Why.SettingsDiffer e = absurd (omega (arith, e))
number_some Why.TargetNotNew e = absurd (omega (arith, e))
number_some Why.NoSuchTree e = absurd (omega (arith, e))

pub told_only : {A : Type 0} (r q : Result A Refusal) → told r ≡ told q → r ≡ q
told_only (Ok a) (Ok b) e = let it : done a ≡ done b = e in cc
told_only (Ok a) (Err q) e = absurd (refused_done (number q) a (sym e))
told_only (Err r) (Ok b) e = absurd (refused_done (number r) b e)
told_only (Err r) (Err q) e = ap Err (number_only r q cc)
