-- `check_tree` meets its contract: its tests are the last rows of the model's table in order, of a batch that they look at. Assumes nothing.
use native.Mathlib.Omega.{arith}
use mathlib.Core.Path.{◌≡◌, sym, ◌∙◌}
use mathlib.Core.Bool.{false}
use Rattle.index_refuse.specs.Refusals.{exempts}
use Rattle.index_refuse.proofs.Refuses.{tree_exempt, tree_7, tree_passed}
use Rattle.index_refuse.proofs.room.check_tree.Goals as goal

pub returns-then-exempt : goal.returns-then-exempt
returns-then-exempt c = λ b x o k e f. tree_exempt b x (rw (o, k) (sym c.exempt.ensures ∙ c.if-exempt.true))

pub returns-then-unused-needed : goal.returns-then-unused-needed
returns-then-unused-needed c =
    λ b x o k e f.
    tree_7 b x (rw (o, k) (let it : exempts c.args.op c.args.n ≡ false = sym c.exempt.ensures ∙ c.if-exempt.false in it)) (omega (arith, e)) c.needed.result (rw (k, e) c.needed.ensures)
    (rw f c.if-unused-needed.true)

pub returns : goal.returns
returns c =
    λ b x o k e f.
    tree_passed b x (rw (o, k) (let it : exempts c.args.op c.args.n ≡ false = sym c.exempt.ensures ∙ c.if-exempt.false in it)) (omega (arith, e)) c.needed.result (rw (k, e) c.needed.ensures)
    (rw f c.if-unused-needed.false)
