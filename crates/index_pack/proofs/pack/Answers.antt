-- `pack` meets its contract: the surveys tell whether both pools are sound, the tests which refusal applies (`told_17`, `told_18`), and `copy_trees`
-- does the rest. Assumes nothing.
use Rattle.std.proofs.lemmas.Result.{err_from_is_err_and}
use Rattle.survey.proofs.Founds.{unsound}
use Rattle.index_pack.proofs.Keeps.{source_unsound, target_unsound}
use Rattle.index_pack.proofs.Tells.{told_17, told_18, to_copy}
use Rattle.index_pack.proofs.pack.Goals as goal

pub returns-in_err-from : goal.returns-in_err-from
returns-in_err-from c =
    let p = err_from_is_err_and c.from_residual.result c.from_residual.ensures.1 in
    let none = unsound c.survey.result _ c.survey.ensures c.in_err-from.ensures.value in
    rw (p.1, p.2, none.0) (source_unsound _ _ none.1)

pub returns-in_err-to : goal.returns-in_err-to
returns-in_err-to c =
    let p = err_from_is_err_and c.from_residual-in_err-to.result c.from_residual-in_err-to.ensures.1 in
    let none = unsound c.survey-2.result _ c.survey-2.ensures c.in_err-to.ensures.value in
    rw (p.1, p.2, none.0) (target_unsound _ _ none.1)

pub returns-then-settings_differ : goal.returns-then-settings_differ
returns-then-settings_differ c =
    let from = rw c.in_ok-from.ensures.ok_part at c.survey.ensures in
    let to = rw c.in_ok-to.ensures.ok_part at c.survey-2.ensures in
    told_17 from to c.settings_differ.result c.settings_differ.ensures c.if-settings_differ.true

pub is_new-requires : goal.is_new-requires
is_new-requires c = rw c.in_ok-to.ensures.ok_part at c.survey-2.ensures

pub returns-then-not-is_new : goal.returns-then-not-is_new
returns-then-not-is_new c =
    let from = rw c.in_ok-from.ensures.ok_part at c.survey.ensures in
    let to = rw c.in_ok-to.ensures.ok_part at c.survey-2.ensures in
    told_18 from to c.settings_differ.result c.settings_differ.ensures c.if-settings_differ.false c.is_new.result c.is_new.ensures c.if-not-is_new.true

pub copy_trees-requires : goal.copy_trees-requires
copy_trees-requires c =
    let from = rw c.in_ok-from.ensures.ok_part at c.survey.ensures in
    let to = rw c.in_ok-to.ensures.ok_part at c.survey-2.ensures in
    to_copy from to c.settings_differ.result c.settings_differ.ensures c.if-settings_differ.false c.is_new.result c.is_new.ensures c.if-not-is_new.false
