-- `survey` meets its contract: its tests are the parts of a sound pool. Assumes nothing.
use Rattle.std.specs.Prelude.{Some, None}
use mathlib.Core.Path.{◌≡◌, refl}
use Prim.Native.Nat.{◌-◌}
use native.Mathlib.Omega.{arith}
use Rattle.words.specs.Words.{words}
use Rattle.words.proofs.Laws.{length_words}
use Rattle.model.proofs.Answers.{told_no}
use Rattle.tree.specs.Pool.{given_in, settings_in}
use Rattle.survey.specs.Promises.{Found, SlotsTold}
use Rattle.survey_node.specs.Promises.{Walked}
use Rattle.survey.proofs.Verdicts.{survey_not, pool_idle}
use Rattle.survey.proofs.Steps.{shaped, handed_is, few, edge, not_one, not_two, not_all, all, decided}
use Rattle.survey.proofs.survey.Goals as goal

pub settings-given-requires : goal.settings-given-requires
settings-given-requires c =
    let l = c.args.pool.now in
    let h = c.header_right.ensures.holds c.if-not-header_right.false in
    omega (arith, length_words l, h.exact)

pub survey_slots-requires : goal.survey_slots-requires
survey_slots-requires c =
    let l = c.args.pool.now in
    let h = c.header_right.ensures.holds c.if-not-header_right.false in
    let st : c.handed-st.result ≡ settings_in l 0 = handed_is l 0 c.handed-st.ensures c.settings-given.ensures in
    rw st (shaped h 0)

pub returns-in_err-spare : goal.returns-in_err-spare
returns-in_err-spare c =
    let l = c.args.pool.now in
    let st : c.handed-st.result ≡ settings_in l 0 = handed_is l 0 c.handed-st.ensures c.settings-given.ensures in
    let slots : SlotsTold (settings_in l 0) (words l) None = rw st at c.in_err-spare.ensures in
    rw c.from_residual.ensures (survey_not l (λ s. told_no slots.idle refl (pool_idle l s)))

pub left_edge-first-requires : goal.left_edge-first-requires
left_edge-first-requires c =
    let l = c.args.pool.now in
    let h = c.header_right.ensures.holds c.if-not-header_right.false in
    let st : c.handed-st.result ≡ settings_in l 0 = handed_is l 0 c.handed-st.ensures c.settings-given.ensures in
    rw st (shaped h 0)

pub overflow_sub-given : goal.overflow_sub-given
overflow_sub-given c =
    let l = c.args.pool.now in
    let st : c.handed-st.result ≡ settings_in l 0 = handed_is l 0 c.handed-st.ensures c.settings-given.ensures in
    let spare = c.in_ok-spare.spare in
    let slots : SlotsTold (settings_in l 0) (words l) (Some spare) = rw st at c.in_ok-spare.ensures in
    rw c.settings-given.ensures (few l spare slots)

pub walk_tree-requires-clause-shape : goal.walk_tree-requires-clause-shape
walk_tree-requires-clause-shape c =
    let l = c.args.pool.now in
    let h = c.header_right.ensures.holds c.if-not-header_right.false in
    let st : c.handed-st.result ≡ settings_in l 0 = handed_is l 0 c.handed-st.ensures c.settings-given.ensures in
    rw st (shaped h 0)

pub returns-in_err-left : goal.returns-in_err-left
returns-in_err-left c =
    let l = c.args.pool.now in
    let st : c.handed-st.result ≡ settings_in l 0 = handed_is l 0 c.handed-st.ensures c.settings-given.ensures in
    let spare = c.in_ok-spare.spare in
    let slots : SlotsTold (settings_in l 0) (words l) (Some spare) = rw st at c.in_ok-spare.ensures in
    let one : Walked (settings_in l 0) (words l) ((given_in l).nodes - spare.unused) (None) = rw (st, c.settings-given.ensures) at c.in_err-left.ensures in
    rw c.from_residual-in_err-left.ensures (survey_not l (not_one l spare slots one))

pub left_edge-second-requires : goal.left_edge-second-requires
left_edge-second-requires c =
    let l = c.args.pool.now in
    let h = c.header_right.ensures.holds c.if-not-header_right.false in
    let su : c.handed-su.result ≡ settings_in l 1 = handed_is l 1 c.handed-su.ensures c.settings-given.ensures in
    rw su (shaped h 1)

pub walk_tree-requires-2-clause-shape : goal.walk_tree-requires-2-clause-shape
walk_tree-requires-2-clause-shape c =
    let l = c.args.pool.now in
    let h = c.header_right.ensures.holds c.if-not-header_right.false in
    let su : c.handed-su.result ≡ settings_in l 1 = handed_is l 1 c.handed-su.ensures c.settings-given.ensures in
    rw su (shaped h 1)

pub returns-in_err-unreached : goal.returns-in_err-unreached
returns-in_err-unreached c =
    let l = c.args.pool.now in
    let st : c.handed-st.result ≡ settings_in l 0 = handed_is l 0 c.handed-st.ensures c.settings-given.ensures in
    let su : c.handed-su.result ≡ settings_in l 1 = handed_is l 1 c.handed-su.ensures c.settings-given.ensures in
    let spare = c.in_ok-spare.spare in
    let slots : SlotsTold (settings_in l 0) (words l) (Some spare) = rw st at c.in_ok-spare.ensures in
    let left = c.in_ok-left.left in
    let one : Walked (settings_in l 0) (words l) ((given_in l).nodes - spare.unused) (Some left) = rw (st, c.settings-given.ensures) at c.in_ok-left.ensures in
    let two : Walked (settings_in l 1) (words l) left (None) = rw su at c.in_err-unreached.ensures in
    rw c.from_residual-in_err-unreached.ensures (survey_not l (not_two l spare slots left one two))

pub returns : goal.returns
returns c =
    let l = c.args.pool.now in
    let h = c.header_right.ensures.holds c.if-not-header_right.false in
    let st : c.handed-st.result ≡ settings_in l 0 = handed_is l 0 c.handed-st.ensures c.settings-given.ensures in
    let su : c.handed-su.result ≡ settings_in l 1 = handed_is l 1 c.handed-su.ensures c.settings-given.ensures in
    let spare = c.in_ok-spare.spare in
    let slots : SlotsTold (settings_in l 0) (words l) (Some spare) = rw st at c.in_ok-spare.ensures in
    let left = c.in_ok-left.left in
    let rest = c.in_ok-unreached.unreached in
    let one : Walked (settings_in l 0) (words l) ((given_in l).nodes - spare.unused) (Some left) = rw (st, c.settings-given.ensures) at c.in_ok-left.ensures in
    let two : Walked (settings_in l 1) (words l) left (Some rest) = rw su at c.in_ok-unreached.ensures in
    let found : Found l _ =
    record { given = c.settings-given.ensures; first = edge l 0 c.left_edge-first.ensures st; second = edge l 1 c.left_edge-second.ensures su; spared = slots.spared spare refl } in
    rw c.then_some.ensures (decided l _ rest (not_all l spare slots left one rest two) (all l spare slots left one rest two h) found)
