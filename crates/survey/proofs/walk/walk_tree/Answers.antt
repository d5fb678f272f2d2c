-- `walk_tree` meets its contract: what the walk from the root tells (`verdict`). Assumes nothing.
use Rattle.std.specs.Prelude.{Some, None}
use native.Mathlib.Omega.{arith}
use Rattle.words.specs.Words.{words}
use Rattle.model.proofs.Answers.{told_no}
use Rattle.survey_node.specs.Promises.{Checked}
use Rattle.survey_node.specs.Parts.{least_root}
use Rattle.survey.proofs.Verdicts.{verdict, verdict_none, verdict_not, verdict_there}
use Rattle.survey.proofs.walk.walk_tree.Goals as goal

pub returns-then-not-there : goal.returns-then-not-there
returns-then-not-there c =
    let a = c.args in
    verdict_not a.st (words a.pool.now) a.left
    (λ p. told_no c.there.ensures c.if-not-there.true (verdict_there a.st (words a.pool.now) a.height c.requires.edge p.tree))

pub returns-in_err-tree : goal.returns-in_err-tree
returns-in_err-tree c =
    let a = c.args in
    let W = words a.pool.now in
    let chk : Checked a.st W a.height a.st.root (least_root a.height) None a.left None = rw c.least_root-least.ensures at c.in_err-tree.ensures in
    rw c.from_residual.ensures (verdict_none a.st W a.left a.height c.requires.edge (omega arith) chk)

pub returns : goal.returns
returns c =
    let a = c.args in
    let tree = c.in_ok-tree.tree in
    let chk : Checked a.st (words a.pool.now) a.height a.st.root (least_root a.height) None a.left (Some tree) =
    rw c.least_root-least.ensures at c.in_ok-tree.ensures in
    verdict a.st (words a.pool.now) a.left a.height c.requires.edge (omega arith) tree chk
