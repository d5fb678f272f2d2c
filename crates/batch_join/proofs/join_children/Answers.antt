-- `join_children` meets its contract: what fits into one node is merged (`merged_rowed`), and what does not is levelled (`even_rowed`). Assumes nothing.
use native.Mathlib.Omega.{arith}
use Rattle.batch_share.proofs.Turns.{beside_few, sits_lower, sits_upper}
use Rattle.batch_join.proofs.Joins.{merged_rowed, even_rowed}
use Rattle.batch_join.proofs.join_children.Goals as goal

pub child_len-requires : goal.child_len-requires
child_len-requires c = sits_lower c.requires.neighbours

pub overflow_add-next : goal.overflow_add-next
overflow_add-next c = omega (arith, beside_few c.requires.neighbours)

pub child_len-requires-2 : goal.child_len-requires-2
child_len-requires-2 c = sits_upper c.requires.neighbours

pub merge-requires : goal.merge-requires
merge-requires c = record { neighbours = c.requires.neighbours; fits = omega (arith, c.if-child_len-st.true, c.child_len-2.ensures, c.child_len.ensures); spared = c.requires.spared }

pub returns-then-child_len-st : goal.returns-then-child_len-st
returns-then-child_len-st c =
    merged_rowed c.requires.neighbours _ _ (omega (arith, c.if-child_len-st.true, c.child_len-2.ensures, c.child_len.ensures))
    c.merge.ensures

pub returns : goal.returns
returns c =
    even_rowed c.requires.neighbours _ _ (omega (arith, c.if-child_len-st.false, c.child_len-2.ensures, c.child_len.ensures)) c.requires.spared
    c.even_out.ensures
