-- The refusals of a batch, said of an index's height and of the number of its unused nodes. Assumes nothing.
use Rattle.std.specs.Prelude.{ℕ, ◌≡◌, Bool, ◌&&◌, ◌||◌, not, length, eqb}
use Rattle.model.specs.declared.Settings.{Settings}
use Rattle.model.specs.declared.Operation.{Operation}
use Rattle.model.specs.Tree.{Index}
use Rattle.model.specs.Refuse.{Call, is_each, is_remove, tree_refusal, refusal}

-- r is the refusal of the batch c, whatever index has this height and so many unused nodes
abbrev pub BatchRefused : Settings → ℕ → ℕ → Call → ℕ → Type 0
BatchRefused st height unused c r = (x : Index) → x.height ≡ height → length x.unused ≡ unused → r ≡ refusal st c x

-- r is the tree's refusal of any batch of n keys by this operation, whatever index has this height and so many unused nodes
abbrev pub TreeRefused : ℕ → ℕ → Operation → ℕ → ℕ → Type 0
TreeRefused height unused op n r =
    (c : Call) (x : Index) → c.operation ≡ op → length c.keys ≡ n → x.height ≡ height → length x.unused ≡ unused
    → r ≡ tree_refusal c x

-- the references of a SetEach and n keys differ in number
abbrev pub miscounts : Operation → ℕ → ℕ → ℕ → Bool
miscounts op places sizes n = is_each op && not (eqb places n && eqb sizes n)

-- a batch of n keys that refusals 6 and 7 do not look at
abbrev pub exempts : Operation → ℕ → Bool
exempts op n = eqb n 0 || is_remove op
