-- What a batch lends are numbers of their types. Assumes nothing.
use Prim.Native.Nat.{ℕ, suc, ◌^◌, ◌<◌}
use mathlib.Core.List.{List, [], ◌∷◌}
use lib.ListN.{get_or}
use Rattle.model.specs.Lists.{All, none, one}
use Rattle.model.specs.Refuse.{Call}
use Rattle.model.specs.Demands.{OperationFits, Lent}

-- what holds at every place holds of each number
all_at : (P : ℕ → Type 0) (l : List ℕ) → ((i : ℕ) → P (get_or l i 0)) → All P l
all_at P [] f = none
all_at P (x ∷ l) f = one (f 0) (all_at P l (λ i. f (suc i)))

pub lends : (c : Call) → OperationFits c.operation → ((i : ℕ) → get_or c.places i 0 < 2 ^ 64) → ((i : ℕ) → get_or c.sizes i 0 < 2 ^ 32)
    → ((i : ℕ) → get_or c.keys i 0 < 2 ^ 64) → Lent c
lends c o p z k =
    record {
      operation = o;
      places = all_at (λ n. n < 2 ^ 64) c.places p;
      sizes = all_at (λ n. n < 2 ^ 32) c.sizes z;
      keys = all_at (λ n. n < 2 ^ 64) c.keys k;
    }
