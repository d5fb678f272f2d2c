-- `head_right` meets its contract: each test decides one part of the head. Assumes nothing.
use native.Mathlib.Omega.{arith}
use borrow.Author.Tests.{leb-true, le-leb, lt-leb}
use Rattle.words.specs.Words.{words}
use Rattle.model.proofs.Answers.{tells_no}
use Rattle.survey_node.proofs.Heads.{rows_count}
use Rattle.survey_node.proofs.head_right.Goals as goal

pub returns-then-least-n : goal.returns-then-least-n
returns-then-least-n c =
    let a = c.args in
    let W = words a.pool.now in
    let n = c.raw_count-n in
    record {
      holds = λ e. record {
        there = c.requires.there;
        some = omega (arith, n.ensures, rows_count a.st W a.s, leb-true n.result a.st.order e);
        few = omega (arith, n.ensures, rows_count a.st W a.s, leb-true n.result a.st.order e);
        opens = omega arith;
      };
      told = λ g. le-leb n.result a.st.order (omega (arith, n.ensures, rows_count a.st W a.s, g.few));
    }

pub returns-else-least-n : goal.returns-else-least-n
returns-else-least-n c =
    let a = c.args in
    rw (lt-leb a.least c.raw_count-n.result (omega arith))
    (tells_no (λ g. omega (arith, g.some, c.raw_count-n.ensures, rows_count a.st (words a.pool.now) a.s)))
