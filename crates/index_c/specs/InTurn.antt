-- A listing in portions as C has it: calls in turn, each lent the numbers of its start as the call before it left them. Assumes nothing.
use Rattle.std.specs.Prelude.{ℕ, ◌≡◌, Bool, true, false, List, [], ◌∷◌, map, get_or}
use Rattle.model.specs.declared.Bound.{Bound}
use Rattle.model.specs.declared.Sift.{Sift}
use Rattle.index_portion.specs.Listings.{Moment, InPortions}
use Rattle.index_c_given.specs.Given.{start_for}
use Rattle.index_c_told.specs.Told.{portion_numbers}
use Rattle.index_c.specs.Calls.{PortionCall}

-- what the caller sees of a call: the pool as it is then, the output that is lent, the output after it, and the four numbers that it tells
pub record Sight : Type 0 where
  pub pool : List ℕ
  pub out : List ℕ
  pub after : List ℕ
  pub told : List ℕ

-- and of a moment of a listing
abbrev pub seen_at : Moment → Sight
seen_at m = record { pool = m.pool; out = m.out; after = m.after; told = portion_numbers m.told }

-- A LISTING of tree i up to some end, of the sizes that a sift lets pass
module _ (i : ℕ) (end : Bound) (sift : Sift) where
  -- a call answers 0: its start was by the numbers `from`, it leaves there the numbers `next`, and whatever stood in the other buffer is gone
  abbrev pub Called : List ℕ → Sight → List ℕ → Type 0
  Called from s next =
      (before : List ℕ)
      × PortionCall s.pool i end sift s.out (record { from = from; told = before }) 0 s.after (record { from = next; told = s.told })

  -- the fourth number is 1 where the listing has ended
  pub data InTurn : List ℕ → Bool → List Sight → Type 0 where
    begun : {from : List ℕ} → InTurn from false []
    goes_on : {from next : List ℕ} {b : Bool} {s : Sight} {ss : List Sight} → Called from s next → get_or s.told 3 0 ≡ 0 → InTurn next b ss
        → InTurn from b (s ∷ ss)
    over : {from next : List ℕ} {s : Sight} → Called from s next → get_or s.told 3 0 ≡ 1 → InTurn from true (s ∷ [])

-- SUCH CALLS ARE A LISTING in portions from the start that the first numbers say, and show what it shows. So what is demanded of a listing (crate
-- index_portion, specs/Listings) holds of them.
abbrev pub IsListing : Type 0
IsListing =
    (i : ℕ) (end : Bound) (sift : Sift) (from : List ℕ) (b : Bool) (ss : List Sight) → InTurn i end sift from b ss
    → (ms : List Moment) × (InPortions i end sift (start_for from) b ms × (map seen_at ms ≡ ss))
