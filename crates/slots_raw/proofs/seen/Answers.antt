-- `seen` meets its contract, case by case. Assumes nothing.
use mathlib.Core.Path.{sym, ap, ◌∙◌}
use native.Mathlib.Omega.{arith}
use Prim.Native.Nat.{ℕ}
use Rattle.slots_raw.specs.Slots as Slots
use Rattle.slots_raw.proofs.Views.{seen_own, seen_low, seen_high, seen_past}
use borrow.Author.Rules.{rules}
use Rattle.slots_raw.proofs.seen.Goals as goal

pub returns-then-root-eq0 : goal.returns-then-root-eq0
returns-then-root-eq0 c =
    let a = c.args in
    sym (ap (λ (r : ℕ). Slots.seen r a.kind) c.if-root-eq0.true ∙ seen_own a.kind)

pub returns-then-kind-eq0 : goal.returns-then-kind-eq0
unfolding Slots.seen
returns-then-kind-eq0 c = search rules

pub returns-then-kind-lt3 : goal.returns-then-kind-lt3
returns-then-kind-lt3 c =
    let a = c.args in
    sym (seen_low a.root c.if-root-eq0.false a.kind c.if-kind-eq0.false (omega arith))

pub returns-then-kind-lt5 : goal.returns-then-kind-lt5
returns-then-kind-lt5 c =
    let a = c.args in
    sym (seen_high a.root c.if-root-eq0.false a.kind (omega arith) (omega arith))

pub returns-else-kind-lt5 : goal.returns-else-kind-lt5
returns-else-kind-lt5 c =
    let a = c.args in
    sym (seen_past a.root c.if-root-eq0.false a.kind (omega arith))
