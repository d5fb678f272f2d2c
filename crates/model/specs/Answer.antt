-- What a call answers with: a number of document 01's table, or what it has done; and what a test tells. Assumes nothing.
use Rattle.std.specs.Prelude.{◌≡◌, Bool, true, ℕ, zero, suc, Result, Ok, Err}
use Rattle.model.specs.declared.Refusal.{Refusal}
use Rattle.model.specs.declared.Refusal.TheVariants as Why

pub data Answer (A : Type 0) : Type 0 where
  refused : ℕ → Answer A
  done : A → Answer A

-- refused with the number found, and done where that is 0
abbrev pub unless : {A : Type 0} → ℕ → A → Answer A
unless zero a = done a
unless (suc n) a = refused (suc n)

-- the table's number of a refusal
abbrev pub number : Refusal → ℕ
number Why.WrongSettings = 1
number Why.Unsound = 2
number Why.TooManyKeys = 3
number Why.ReferencesMiscounted = 4
number Why.KeysDescend = 5
number Why.TooHigh = 6
number Why.TooFewUnused = 7
number Why.EmptyLine = 8
number Why.NotHex = 9
number Why.PartOfAnEntry = 10
number Why.TooManyEntries = 11
number Why.KeysNotAscending = 12
number Why.UnknownHeader = 13
number Why.NoSuchNode = 14
number Why.MalformedLine = 15
number Why.LineTooShort = 16
number Why.SettingsDiffer = 17
number Why.TargetNotNew = 18
number Why.NoSuchTree = 19

-- what the code answers, as the table has it
abbrev pub told : {A : Type 0} → Result A Refusal → Answer A
told (Ok a) = done a
told (Err r) = refused (number r)

-- the number of a refusal, and 0 where the call was done
abbrev pub code : {A : Type 0} → Result A Refusal → ℕ
code (Ok a) = 0
code (Err r) = number r

-- r is true exactly where P holds
pub record Tells (r : Bool) (P : Type 0) : Type 0 where
  pub holds : r ≡ true → P
  pub told : P → r ≡ true
