-- A key that is due: it is there, and it does not exceed the ceiling. Assumes nothing.
use mathlib.Core.Path.{◌≡◌}
use mathlib.Core.Bool.{true}
use mathlib.Core.List.{List}
use Prim.Native.Nat.{ℕ, ◌≤◌, ◌<◌}
use lib.ListN.{length, get_or}
use lib.Dec.{ltb, leb}
use borrow.Author.Tests.{lt-ltb, le-leb, ltb-true}
use Rattle.model.proofs.Lists.{both_left, both_right}
use Rattle.batch_effect.specs.Under.{is_due}

module _ (ks : List ℕ) (next ceiling : ℕ) where
  pub due : next < length ks → get_or ks next 0 ≤ ceiling → is_due ks next ceiling ≡ true
  due h g = rw (lt-ltb next (length ks) h, le-leb (get_or ks next 0) ceiling g)

  pub due_within : is_due ks next ceiling ≡ true → next < length ks
  due_within q = ltb-true _ _ (both_left (ltb next (length ks)) (leb (get_or ks next 0) ceiling) q)

  pub due_low : is_due ks next ceiling ≡ true → leb (get_or ks next 0) ceiling ≡ true
  due_low q = both_right (ltb next (length ks)) (leb (get_or ks next 0) ceiling) q
