-- `take_keys` meets its contract. The loop's invariant (`Turn`): the model's leaf, going on from the rows, the key and the counts of now, ends as it
-- does from those at first. Where the test fails the model stops too (`turn_done`). Assumes nothing.
use mathlib.Core.Path.{refl, sym, ◌∙◌}
use Prim.Native.Nat.{◌-◌}
use native.Mathlib.Omega.{arith}
use Rattle.batch_leaf.proofs.Turns.{turn_start, turn_within, turn_leaf, turn_lent, turn_on, turn_done}
use Rattle.batch_leaf.proofs.take_keys.Goals as goal

pub loop-st-init : goal.loop-st-init
loop-st-init c = (turn_start c.requires.0 c.requires.1, refl)

pub takes-requires : goal.takes-requires
takes-requires c = let t = c.loop-st.invariant.0 in record { held = t.did.held; slot = t.slot }

pub offset_bounds-batch-next : goal.offset_bounds-batch-next
offset_bounds-batch-next c =
    let t = c.loop-st.invariant.0 in
    omega (arith, turn_within t (sym c.takes.ensures ∙ c.loop-st-test.true), t.batch.short)

pub bounds-batch-next : goal.bounds-batch-next
bounds-batch-next c =
    turn_within c.loop-st.invariant.0 (sym c.takes.ensures ∙ c.loop-st-test.true)

pub wish_at-wish-requires : goal.wish_at-wish-requires
wish_at-wish-requires c =
    turn_lent c.loop-st.invariant.0 (sym c.takes.ensures ∙ c.loop-st-test.true)

pub change_key-effect-requires : goal.change_key-effect-requires
change_key-effect-requires c =
    turn_leaf c.loop-st.invariant.0 (sym c.takes.ensures ∙ c.loop-st-test.true)

pub counted-now-requires : goal.counted-now-requires
counted-now-requires c =
    let b = c.loop-st.invariant.0.batch in
    record { few = omega (arith, b.few.few, b.within, b.short) }

pub overflow_add-now : goal.overflow_add-now
overflow_add-now c =
    let b = c.loop-st.invariant.0.batch in
    omega (arith, b.within, b.short)

pub loop-st-smaller : goal.loop-st-smaller
loop-st-smaller c =
    omega (arith, turn_within c.loop-st.invariant.0 (sym c.takes.ensures ∙ c.loop-st-test.true))

pub loop-st-preserved : goal.loop-st-preserved
loop-st-preserved c =
    let inv = c.loop-st.invariant in (
      turn_on inv.0 (sym c.takes.ensures ∙ c.loop-st-test.true) c.wish_at-wish.result c.wish_at-wish.ensures c.change_key-effect.ensures
          c.altered-changed.ensures c.counted-now.ensures,
      c.change_key-effect.auto.pool ∙ inv.1,
    )

pub shape_of-pool : goal.shape_of-pool
shape_of-pool c = c.loop-st.invariant.1

pub returns : goal.returns
returns c =
    turn_done c.loop-st.invariant.0 (sym c.takes.ensures ∙ c.loop-st-test.false) c.requires.0
