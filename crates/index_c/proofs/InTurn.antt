-- The statement of specs/InTurn, proved of whatever keeps the promise of the call. Assumes nothing.
use Prim.Native.Nat.{ℕ}
use mathlib.Core.Path.{◌≡◌, refl, sym, ap, ◌∙◌, subst}
use mathlib.Core.Bool.{Bool, true, false, cond}
use mathlib.Core.List.{List, [], ◌∷◌, map}
use native.Mathlib.Omega.{arith}
use lib.ListN.{get_or}
use lib.Dec.{eqb}
use borrow.Author.Tests.{eqb-true}
use Rattle.model.specs.declared.Bound.{Bound}
use Rattle.model.specs.declared.Bound.TheVariants.{Unbounded, Included, Excluded}
use Rattle.model.specs.declared.Sift.{Sift}
use Rattle.model.specs.Look.{scan}
use Rattle.tree.specs.Pool.{index_of}
use Rattle.look_output.specs.Output.{room_in}
use Rattle.look_portion.specs.declared.Portion.{Portion}
use Rattle.look_portion.specs.Portion.{upwards}
use Rattle.look_portion.proofs.Starts.{none_shown}
use Rattle.std.specs.Prelude.{Ok, Err}
use Rattle.model.proofs.Refusals.{number_some}
use Rattle.index_promise.specs.Promise.{Portions}
use Rattle.index_promise.proofs.Dones.{PortionDone, portion_done}
use Rattle.index_portion.specs.Listings.{Moment, InPortions}
use Rattle.index_portion.specs.Listings as P
use Rattle.index_c_given.specs.Given.{start_for}
use Rattle.index_c_told.specs.Told.{flag, bound_numbers, start_after, portion_numbers, PortionBuffers}
use Rattle.index_c.specs.Calls.{PortionCall}
use Rattle.index_c.specs.InTurn.{Sight, seen_at, Called, InTurn, begun, goes_on, over, IsListing}

-- NUMBERS READ BACK

flag_set : (b : Bool) → flag b ≡ 1 → b ≡ true
flag_set true e = refl
flag_set false e = absurd (omega (arith, e))

flag_clear : (b : Bool) → flag b ≡ 0 → b ≡ false
flag_clear true e = absurd (omega (arith, e))
flag_clear false e = refl

bound_read : (b : Bound) → start_for (bound_numbers b) ≡ b
bound_read Unbounded = refl
bound_read (Included k) = refl
bound_read (Excluded k) = refl

-- ONE CALL

module _ (l : List ℕ) (i : ℕ) (end : Bound) (sift : Sift) (out : List ℕ) where
  -- a portion keeps its start where nothing was shown
  stays : (start : Bound) {p : Portion} {out' : List ℕ} → Portions l i start end sift out (Ok p) out' → p.scanned.written ≡ 0 → p.next ≡ start
  stays start {p} {out'} portions none =
      let d : PortionDone l i start end sift out p out' = portion_done l i start end sift out portions in
      ap (λ (x : Portion). x.next) d.tells
      ∙ none_shown start (scan (upwards start end sift) (room_in out) (index_of l i)).listed.written
      (sym (ap (λ (x : Portion). x.scanned.written) d.tells) ∙ none)

  -- so the numbers that it leaves are read as its next start
  next_read : (from : List ℕ) {p : Portion} {out' : List ℕ} → Portions l i (start_for from) end sift out (Ok p) out'
      → start_for (start_after p from) ≡ p.next
  next_read from {p} portions = by (eqb p.scanned.written 0) refl
    where
      by : (t : Bool) → eqb p.scanned.written 0 ≡ t → start_for (cond t from (bound_numbers p.next)) ≡ p.next
      by true e = sym (stays (start_for from) portions (eqb-true p.scanned.written 0 e))
      by false e = bound_read p.next

  -- one that answers 0 was done, tells its numbers, and leads on to the next
  pub record Led (from out' : List ℕ) (b : PortionBuffers) : Type 0 where
    pub portion : Portion
    pub done : Portions l i (start_for from) end sift out (Ok portion) out'
    pub told : b.told ≡ portion_numbers portion
    pub next : start_for b.from ≡ portion.next

  led : (from before out' : List ℕ) (b : PortionBuffers) → PortionCall l i end sift out (record { from = from; told = before }) 0 out' b → Led from out' b
  led from before out' b (Ok p, (keeps, reports)) =
      record {
        portion = p;
        done = keeps;
        told = ap (λ (c : PortionBuffers). c.told) reports.small;
        next = ap (λ (c : PortionBuffers). start_for c.from) reports.small ∙ next_read from keeps;
      }
  led from before out' b (Err why, (keeps, reports)) = absurd (number_some why (sym reports.number))

-- IN TURN

module _ (i : ℕ) (end : Bound) (sift : Sift) where
  abbrev led_by : {from next : List ℕ} {s : Sight} → Called i end sift from s next
      → Led s.pool i end sift s.out from s.after (record { from = next; told = s.told })
  led_by {from} {next} {s} (before, call) = led s.pool i end sift s.out from before s.after (record { from = next; told = s.told }) call

  -- the moment of a call; the caller sees the same of both
  abbrev moment_of : {from next : List ℕ} {s : Sight} → Called i end sift from s next → Moment
  moment_of {s = s} c = record { pool = s.pool; out = s.out; told = (led_by c).portion; after = s.after }

  sees : {from next : List ℕ} {s : Sight} (c : Called i end sift from s next) → seen_at (moment_of c) ≡ s
  sees {s = s} c = ap (λ (t : List ℕ). record { pool = s.pool; out = s.out; after = s.after; told = t }) (sym (led_by c).told)

  ended_read : {from next : List ℕ} {s : Sight} (c : Called i end sift from s next) (n : ℕ) → get_or s.told 3 0 ≡ n → flag (led_by c).portion.ended ≡ n
  ended_read c n e = sym (ap (λ (t : List ℕ). get_or t 3 0) (led_by c).told) ∙ e

  in_turn : {from : List ℕ} {b : Bool} {ss : List Sight} → InTurn i end sift from b ss
      → (ms : List Moment) × (InPortions i end sift (start_for from) b ms × (map seen_at ms ≡ ss))
  in_turn begun = ([], (P.begun, refl))
  in_turn (goes_on {b = b} {s = s} {ss = ss} c e on) =
      let rest = in_turn on in
      let next = subst (λ (start : Bound). InPortions i end sift start b rest.0) (led_by c).next rest.1.0 in (
        moment_of c ∷ rest.0,
        (P.goes_on (led_by c).done (flag_clear _ (ended_read c 0 e)) next, ap (◌∷ map seen_at rest.0) (sees c) ∙ ap (s ∷◌) rest.1.1),
      )
  in_turn (over c e) = (moment_of c ∷ [], (P.over (led_by c).done (flag_set _ (ended_read c 1 e)), ap (◌∷ []) (sees c)))

pub is_listing : IsListing
is_listing i end sift from b ss on = in_turn i end sift on
