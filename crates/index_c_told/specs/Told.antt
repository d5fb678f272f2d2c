-- An answer as C has it: a number, and what was done in small buffers. Assumes nothing.
use Rattle.std.specs.Prelude.{ℕ, ◌≡◌, Bool, cond, List, [], ◌∷◌, eqb, Result, Ok, Err}
use Rattle.model.specs.declared.Totals.{Totals}
use Rattle.model.specs.declared.Counts.{Counts}
use Rattle.model.specs.declared.Bound.{Bound}
use Rattle.model.specs.declared.Bound.TheVariants.{Unbounded, Included, Excluded}
use Rattle.model.specs.Answer.{Answer, refused, done}
use Rattle.look_output.specs.declared.Listed.{Listed}
use Rattle.look_output.specs.declared.Scanned.{Scanned}
use Rattle.look_portion.specs.declared.Portion.{Portion}

-- what the code answers, where f numbers its refusals; by the table's numbers it is `told` of the model (proofs/Numbering)
abbrev pub told_by : {A E : Type 0} → (E → ℕ) → Result A E → Answer A
told_by f (Ok a) = done a
told_by f (Err e) = refused (f e)

-- the number that f gives a refusal, and 0 where the call was done; by the table's numbers it is `code` of the model
abbrev pub code_by : {A E : Type 0} → (E → ℕ) → Result A E → ℕ
code_by f (Ok a) = 0
code_by f (Err e) = f e

-- 0 where the call was done, and the table's number where it was refused
abbrev pub code_of : {A : Type 0} → Answer A → ℕ
code_of (refused n) = n
code_of (done a) = 0

-- a small buffer afterwards: what was done, or what it held
abbrev pub filled : {A B : Type 0} → (A → B) → Answer A → B → B
filled f (refused n) b = b
filled f (done a) b = f a

-- the result r and the small buffer b', which was b, report the answer a
pub record Reports {A B : Type 0} (f : A → B) (a : Answer A) (b : B) (r : ℕ) (b' : B) : Type 0 where
  pub number : r ≡ code_of a
  pub small : b' ≡ filled f a b

-- WHAT SMALL BUFFERS HOLD

abbrev pub flag : Bool → ℕ
flag b = cond b 1 0

-- live, dead, size sum
abbrev pub total_numbers : Totals → List ℕ
total_numbers t = t.live ∷ t.dead ∷ t.size ∷ []

-- added, replaced, removed, nothing
abbrev pub count_numbers : Counts → List ℕ
count_numbers c = c.added ∷ c.replaced ∷ c.removed ∷ c.nothing ∷ []

-- entries written, more
abbrev pub listed_numbers : Listed → List ℕ
listed_numbers g = g.written ∷ flag g.more ∷ []

-- entries written, more, nodes opened
abbrev pub scanned_numbers : Scanned → List ℕ
scanned_numbers s = s.written ∷ flag s.more ∷ s.opened ∷ []

-- entries written, more, nodes opened, ended
abbrev pub portion_numbers : Portion → List ℕ
portion_numbers p = p.scanned.written ∷ flag p.scanned.more ∷ p.scanned.opened ∷ flag p.ended ∷ []

-- bounded, included, key
abbrev pub bound_numbers : Bound → List ℕ
bound_numbers Unbounded = 0 ∷ 0 ∷ 0 ∷ []
bound_numbers (Included k) = 1 ∷ 1 ∷ k ∷ []
bound_numbers (Excluded k) = 1 ∷ 0 ∷ k ∷ []

-- the numbers of a start after a portion: those of the next start, or where nothing was shown as they were given
abbrev pub start_after : Portion → List ℕ → List ℕ
start_after p from = cond (eqb p.scanned.written 0) from (bound_numbers p.next)

-- a portion has two small buffers: the numbers of its start, and then of the next one, and what it tells
pub record PortionBuffers : Type 0 where
  pub from : List ℕ
  pub told : List ℕ

abbrev pub buffers_after : List ℕ → Portion → PortionBuffers
buffers_after from p = record { from = start_after p from; told = portion_numbers p }
