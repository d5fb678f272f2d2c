-- `first_child` meets its contract: the first row is the one that is read, where there is a row. Assumes nothing.
use mathlib.Core.Path.{sym, ap, ◌∙◌}
use native.Mathlib.Omega.{arith}
use Rattle.words.specs.Words.{words}
use Rattle.tree.specs.Bridge.{child_of}
use Rattle.survey_node.proofs.Heads.{first_none, first_raw}
use Rattle.survey.proofs.walk.first_child.Goals as goal

pub returns-then-raw_count-eq0 : goal.returns-then-raw_count-eq0
returns-then-raw_count-eq0 c =
    let a = c.args in sym (first_none a.st (words a.pool.now) a.s (sym c.raw_count.ensures ∙ c.if-raw_count-eq0.true))

pub raw_row-requires : goal.raw_row-requires
raw_row-requires c =
    record { shape = c.requires.0; slot = c.requires.1; within = omega (arith, c.requires.0.limits.wide) }

pub returns : goal.returns
returns c =
    let a = c.args in
    c.child_of.ensures ∙ ap child_of c.raw_row.ensures
    ∙ first_raw a.st (words a.pool.now) a.s c.requires.0 (omega (arith, c.raw_count.ensures))
