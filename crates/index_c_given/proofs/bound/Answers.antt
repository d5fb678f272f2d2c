-- `bound` meets its contract: each arm answers what the model makes of its two flags. Assumes nothing.
use mathlib.Core.Path.{sym, ap, ◌∙◌}
use mathlib.Core.Bool.{Bool, true}
use borrow.Author.Tests.{not-true, not-false}
use Rattle.index_c_given.specs.Given.{bound_for}
use Rattle.index_c_given.proofs.bound.Goals as goal

pub returns-then-not-bounded : goal.returns-then-not-bounded
returns-then-not-bounded c = let a = c.args in ap (λ (b : Bool). bound_for b a.included a.key) (sym (not-true a.bounded c.if-not-bounded.true-raw))

pub returns-then-included : goal.returns-then-included
returns-then-included c =
    let a = c.args in
    ap (λ (b : Bool). bound_for true b a.key) (sym c.if-included.true)
    ∙ ap (λ (b : Bool). bound_for b a.included a.key) (sym (not-false a.bounded c.if-not-bounded.false-raw))

pub returns : goal.returns
returns c =
    let a = c.args in
    ap (λ (b : Bool). bound_for true b a.key) (sym c.if-included.false)
    ∙ ap (λ (b : Bool). bound_for b a.included a.key) (sym (not-false a.bounded c.if-not-bounded.false-raw))
