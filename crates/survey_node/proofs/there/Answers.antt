-- `there` meets its contract: its second test decides the kind. Assumes nothing.
use mathlib.Core.Path.{sym, ◌∙◌}
use native.Mathlib.Omega.{arith}
use borrow.Author.Tests.{eqb-true, eq-eqb}
use Rattle.words.specs.Words.{words}
use Rattle.slots.proofs.Nodes.{kind_node}
use Rattle.survey_node.proofs.there.Goals as goal

pub returns-then-s-st : goal.returns-then-s-st
returns-then-s-st c =
    let a = c.args in
    let W = words a.pool.now in
    let kind = c.raw_kind in
    record {
      holds = λ e. record {
        slot = omega arith;
        kind = sym (kind_node a.st W a.s) ∙ sym kind.ensures ∙ eqb-true kind.result c.kind_for.result e ∙ c.kind_for.ensures;
      };
      told = λ g. eq-eqb kind.result c.kind_for.result (kind.ensures ∙ kind_node a.st W a.s ∙ g.kind ∙ sym c.kind_for.ensures);
    }
