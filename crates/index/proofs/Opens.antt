-- What opening a pool has done keeps the call's promise. Assumes nothing.
use Prim.Native.Nat.{ℕ}
use mathlib.Core.Path.{◌≡◌, ap}
use mathlib.Core.Bool.{Bool, true, false}
use mathlib.Core.List.{List}
use Rattle.std.specs.Prelude.{Ok, Err}
use Rattle.model.specs.declared.Refusal.TheVariants.{WrongSettings}
use Rattle.model.specs.declared.PoolSettings.{PoolSettings}
use Rattle.model.specs.Answer.{done, refused}
use Rattle.model.proofs.Answers.{told_no}
use Rattle.tree.specs.Promises.{Opened}
use Rattle.index_promise.specs.Promise.{holds, fails, ◌leaving◌, Opens}

module _ (given : PoolSettings) (l₀ l : List ℕ) (r : Bool) (o : Opened given l₀ r l) where
  pub opened : r ≡ true → Opens given l₀ (Ok tt) l
  opened e = holds (o.answer.holds e) (ap (λ k. done tt leaving k) (o.new e))

  pub not_opened : r ≡ false → Opens given l₀ (Err WrongSettings) l
  not_opened e = fails (told_no o.answer e) (ap (λ k. refused 1 leaving k) (o.kept e))
