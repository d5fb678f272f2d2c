-- `fill_leaf` meets its contract. The loop's invariant (`Filling`): the leaf has the first `taken` entries of the piece. A run of rows that stand side
-- by side in the source is as many entries more. Assumes nothing.
use mathlib.Core.Path.{refl, ap, ◌∙◌}
use Prim.Native.Nat.{ℕ, ◌-◌, min}
use native.Mathlib.Omega.{arith}
use Rattle.pack.proofs.Fills.{filling_start, filling_spot, run_some, filling_asks, filling_on, filling_end}
use Rattle.pack.proofs.fill_leaf.Goals as goal

pub loop-taken-init : goal.loop-taken-init
loop-taken-init c = (filling_start _ _ _ _ _ c.requires, refl)

pub overflow_add-piece : goal.overflow_add-piece
overflow_add-piece c =
    let asked = c.requires in
    omega (arith, asked.within, asked.source.light, c.loop-taken.invariant.0.1)

pub spot_of-spot-requires : goal.spot_of-spot-requires
spot_of-spot-requires c =
    filling_spot _ _ _ _ _ c.requires _ _ c.loop-taken.invariant.0 c.loop-taken-test.true

pub count-requires : goal.count-requires
count-requires c =
    record { held = c.requires.source.held; slot = c.spot_of-spot.ensures.slot }

pub overflow_sub-side_by_side : goal.overflow_sub-side_by_side
overflow_sub-side_by_side c = omega (arith, c.spot_of-spot.ensures.row, c.count.ensures.is)

pub append_rows-requires : goal.append_rows-requires
append_rows-requires c =
    let is =
    c.min-n.ensures ∙ ap (λ (k : ℕ). min (k - c.spot_of-spot.result.row) (c.args.piece.count - c.loop-taken.taken)) c.count.ensures.is in
    filling_asks _ _ _ _ _ c.requires _ _ c.loop-taken.invariant.0 c.loop-taken-test.true _ c.spot_of-spot.ensures _ is

pub overflow_add-taken : goal.overflow_add-taken
overflow_add-taken c =
    omega (arith, c.min-n.ensures, c.requires.within, c.requires.source.light)

pub loop-taken-smaller : goal.loop-taken-smaller
loop-taken-smaller c =
    let is =
    c.min-n.ensures ∙ ap (λ (k : ℕ). min (k - c.spot_of-spot.result.row) (c.args.piece.count - c.loop-taken.taken)) c.count.ensures.is in
    omega (arith, run_some _ _ _ _ _ c.requires _ _ c.loop-taken.invariant.0 c.loop-taken-test.true _ c.spot_of-spot.ensures _ is, c.loop-taken-test.true)

pub loop-taken-preserved : goal.loop-taken-preserved
loop-taken-preserved c =
    let is =
    c.min-n.ensures ∙ ap (λ (k : ℕ). min (k - c.spot_of-spot.result.row) (c.args.piece.count - c.loop-taken.taken)) c.count.ensures.is in (
      filling_on _ _ _ _ _ c.requires _ _ c.loop-taken.invariant.0 c.loop-taken-test.true _ c.spot_of-spot.ensures _ is _ c.append_rows.ensures,
      c.append_rows.auto.pool ∙ c.loop-taken.invariant.1,
    )

pub shape_of-pool : goal.shape_of-pool
shape_of-pool c = c.loop-taken.invariant.1

pub returns : goal.returns
returns c =
    filling_end _ _ _ _ _ c.requires _ _ c.loop-taken.invariant.0 (omega (arith, c.loop-taken-test.false))
