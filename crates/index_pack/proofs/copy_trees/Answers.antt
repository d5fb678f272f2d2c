-- `copy_trees` meets its contract: both trees are planned, there is no room for them (`told_7`), or each is built behind the
-- one before it (`first_ready`, `second_ready`), and what is left is the image of the packed forest (`told_done`). Assumes nothing.
use mathlib.Core.Path.{◌∙◌}
use native.Mathlib.Omega.{arith}
use Rattle.words.specs.Words.{words}
use Rattle.survey.proofs.Founds.{limits}
use Rattle.index_pack.proofs.Finds.{found_tree}
use Rattle.index_pack.proofs.Tells.{plan_is, nodes_few, told_7, first_ready, second_ready, told_done}
use Rattle.index_pack.proofs.copy_trees.Goals as goal

pub handed-requires : goal.handed-requires
handed-requires c = limits c.requires.source

pub plan_tree-first-requires : goal.plan_tree-first-requires
plan_tree-first-requires c = found_tree c.requires.source 0 c.handed.result c.handed.ensures

pub handed-requires-2 : goal.handed-requires-2
handed-requires-2 c = limits c.requires.source

pub plan_tree-second-requires : goal.plan_tree-second-requires
plan_tree-second-requires c = found_tree c.requires.source 1 c.handed-2.result c.handed-2.ensures

pub handed-st-requires : goal.handed-st-requires
handed-st-requires c = limits c.requires.target

pub overflow_add-needed : goal.overflow_add-needed
overflow_add-needed c =
    let first = plan_is c.requires 0 c.handed.result c.handed.ensures c.plan_tree-first.result c.plan_tree-first.ensures in
    let second = plan_is c.requires 1 c.handed-2.result c.handed-2.ensures c.plan_tree-second.result c.plan_tree-second.ensures in
    omega (
      arith,
      nodes_few c.requires _ _ first second,
    )

pub returns-then-st-needed : goal.returns-then-st-needed
returns-then-st-needed c =
    let first = plan_is c.requires 0 c.handed.result c.handed.ensures c.plan_tree-first.result c.plan_tree-first.ensures in
    let second = plan_is c.requires 1 c.handed-2.result c.handed-2.ensures c.plan_tree-second.result c.plan_tree-second.ensures in
    told_7 c.requires _ _ first second c.handed-st.result c.handed-st.ensures c.if-st-needed.true

pub copy_tree-next-requires : goal.copy_tree-next-requires
copy_tree-next-requires c =
    let first = plan_is c.requires 0 c.handed.result c.handed.ensures c.plan_tree-first.result c.plan_tree-first.ensures in
    let second = plan_is c.requires 1 c.handed-2.result c.handed-2.ensures c.plan_tree-second.result c.plan_tree-second.ensures in
    first_ready c.requires _ _ first second c.handed-st.result c.handed-st.ensures (omega (arith, c.if-st-needed.false))

pub handed-requires-3 : goal.handed-requires-3
handed-requires-3 c =
    limits c.requires.target

pub copy_tree-requires : goal.copy_tree-requires
copy_tree-requires c =
    let first = plan_is c.requires 0 c.handed.result c.handed.ensures c.plan_tree-first.result c.plan_tree-first.ensures in
    let second = plan_is c.requires 1 c.handed-2.result c.handed-2.ensures c.plan_tree-second.result c.plan_tree-second.ensures in
    second_ready c.requires _ _ first second c.handed-st.result c.handed-st.ensures (omega (arith, c.if-st-needed.false))
    (words c.copy_tree-next.new.target) c.copy_tree-next.result c.copy_tree-next.ensures c.handed-3.result c.handed-3.ensures

pub returns : goal.returns
returns c =
    let first = plan_is c.requires 0 c.handed.result c.handed.ensures c.plan_tree-first.result c.plan_tree-first.ensures in
    let second = plan_is c.requires 1 c.handed-2.result c.handed-2.ensures c.plan_tree-second.result c.plan_tree-second.ensures in
    told_done c.requires _ _ first second c.handed-st.result c.handed-st.ensures (omega (arith, c.if-st-needed.false))
    (words c.copy_tree-next.new.target) c.copy_tree-next.result c.copy_tree-next.ensures c.handed-3.result c.handed-3.ensures
    c.copy_tree.new.target c.copy_tree.result c.copy_tree.ensures (c.copy_tree.auto.target ∙ c.copy_tree-next.auto.target)
    (λ i. (c.slice_known-3-1.given i).fits)
