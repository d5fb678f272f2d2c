-- Where the next portion starts is read from the output; and a portion as it is told, by whether it has room for an entry. Assumes nothing.
use mathlib.Core.Path.{◌≡◌, refl, sym, ap, ◌∙◌}
use mathlib.Core.Bool.{Bool, ◌&&◌, not}
use mathlib.Core.List.{List}
use Prim.Native.Nat.{ℕ, zero, suc, ◌*◌, ◌-◌, ◌≤◌, ◌<◌}
use native.Mathlib.Omega.{arith}
use lib.ListN.{drop, get_or}
use lib.Seq.{get_or-drop}
use lib.Dec.{ltb}
use borrow.Author.Tests.{lt-ltb, le-ltb}
use Rattle.words.specs.Words.{words}
use Rattle.model.specs.declared.Bound.{Bound}
use Rattle.model.specs.declared.Bound.TheVariants.{Excluded}
use Rattle.look_output.specs.declared.Scanned.{Scanned}
use Rattle.look_output.specs.Output.{read_entries, room_in}
use Rattle.look_portion.specs.Portion.{next_start}
use Rattle.look_portion.specs.Promises.{portion_in}

last_key_lem : (start : Bound) (n : ℕ) (ws : List ℕ) → Excluded (get_or ws (3 * n) 0) ≡ next_start start (read_entries (suc n) ws)
last_key_lem start zero ws = refl
last_key_lem start (suc n) ws =
    ap Excluded (ap (λ (i : ℕ). get_or ws i 0) (omega arith) ∙ sym (get_or-drop 3 ws (3 * n) 0)) ∙ last_key_lem (Excluded (get_or ws 0 0)) n (drop 3 ws)

-- the key of the last of n entries is where the next portion starts
pub last_shown : (start : Bound) (n : ℕ) (ws : List ℕ) (key : ℕ) → 0 < n → key ≡ get_or ws (3 * (n - 1)) 0 → Excluded key ≡ next_start start (read_entries n ws)
last_shown start zero ws key some e = absurd (omega arith)
last_shown start (suc n) ws key some e = ap Excluded (e ∙ ap (λ (i : ℕ). get_or ws (3 * i) 0) (omega arith)) ∙ last_key_lem start n ws

module _ (start : Bound) (s : Scanned) (out : List ℕ) (next : Bound) (e : next ≡ next_start start (read_entries s.written (words out))) where
  -- one that tells its end so is the definition's, by what its size says
  ended_by : (size : Bool) → ltb 0 (room_in out) ≡ size → record { scanned = s; next = next; ended = size && not s.more } ≡ portion_in start s out
  ended_by size h =
      ap (λ (b : Bound). record { scanned = s; next = b; ended = size && not s.more }) e
      ∙ ap (λ (b : Bool). record { scanned = s; next = next_start start (read_entries s.written (words out)); ended = b && not s.more }) (sym h)

  pub told_with_room : 0 < room_in out → record { scanned = s; next = next; ended = not s.more } ≡ portion_in start s out
  told_with_room h = ended_by _ (lt-ltb 0 (room_in out) h)

  pub told_without : room_in out ≤ 0 → record { scanned = s; next = next; ended = ltb 0 (room_in out) } ≡ portion_in start s out
  told_without h =
      let none = le-ltb 0 (room_in out) h in
      ap (λ (b : Bool). record { scanned = s; next = next; ended = b }) none ∙ ended_by _ none
