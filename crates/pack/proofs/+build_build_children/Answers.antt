-- The cycle of `build` and `build_children`. The loop's invariant (`Growing`): the slot holds the children of the first `taken` entries, which have the slots
-- up to `next`. The height falls round the cycle. Assumes nothing.
use mathlib.Core.Path.{◌≡◌, refl, ap, ◌∙◌}
use Prim.Native.Nat.{ℕ, suc, ◌-◌, min}
use native.Mathlib.Omega.{arith}
use Rattle.model_pack.proofs.Pieces.{capacity_some}
use Rattle.pack.proofs.Grows.{growing_start, inside, child_asks, child_hangs, growing_on, growing_end}
use Rattle.pack.proofs.Roots.{leaf_asks, leaf_done, children_ask, children_begun, children_done}
use Rattle.pack.proofs.+build_build_children.Goals as goal

-- A TREE OF ANY HEIGHT
pub build-set_kind-requires : goal.build-set_kind-requires
build-set_kind-requires t c =
    let asked = c.requires in
    record { held = asked.root.held; slot = asked.root.slot }

pub build-fill_leaf-requires : goal.build-fill_leaf-requires
build-fill_leaf-requires t c =
    leaf_asks _ _ _ _ _ _ _ c.requires _ c.kind_for-kind.ensures c.set_kind.ensures c.if-piece-eq0.true

pub build-returns-then-piece-eq0 : goal.build-returns-then-piece-eq0
build-returns-then-piece-eq0 t c =
    leaf_done _ _ _ _ _ _ _ c.requires _ c.kind_for-kind.ensures c.set_kind.ensures c.if-piece-eq0.true _ c.fill_leaf.ensures

pub build-build_children-requires : goal.build-build_children-requires
build-build_children-requires t c =
    let e : c.args.piece.height ≡ suc (c.args.piece.height - 1) = omega (arith, c.if-piece-eq0.false) in (
      omega (arith, c.decreases),
      (
        omega (arith, c.if-piece-eq0.false),
        (
          children_ask _ _ _ _ _ _ _ c.requires _ c.kind_for-kind.ensures c.set_kind.ensures _ e,
          children_begun _ _ _ _ _ _ _ c.requires _ c.kind_for-kind.ensures c.set_kind.ensures _ e,
        ),
      ),
    )

pub build-returns : goal.build-returns
build-returns t c =
    let e : c.args.piece.height ≡ suc (c.args.piece.height - 1) = omega (arith, c.if-piece-eq0.false) in
    children_done _ _ _ _ _ _ _ c.requires _ c.kind_for-kind.ensures c.set_kind.ensures _ e _ _ c.build_children.ensures

pub build_children-overflow_sub-below : goal.build_children-overflow_sub-below
build_children-overflow_sub-below t c = omega (arith, c.requires.interior)

pub build_children-capacity-most-requires : goal.build_children-capacity-most-requires
build_children-capacity-most-requires t c =
    let asked = c.requires.asked in
    record { narrow = asked.root.held.shape.limits.narrow; low = omega (arith, asked.tall) }

pub build_children-loop-taken-init : goal.build_children-loop-taken-init
build_children-loop-taken-init t c =
    (growing_start _ _ _ _ _ _ c.requires.asked c.requires.begun, refl)

pub build_children-overflow_add-child : goal.build_children-overflow_add-child
build_children-overflow_add-child t c =
    let asked = c.requires.asked in
    omega (arith, inside _ _ _ _ _ _ asked _ _ _ _ c.loop-taken.invariant.0 c.loop-taken-test.true _ refl, asked.root.held.shape.limits.bounded)

pub build_children-overflow_add-child-in-loop-taken : goal.build_children-overflow_add-child-in-loop-taken
build_children-overflow_add-child-in-loop-taken t c =
    let asked = c.requires.asked in
    omega (arith, asked.within, asked.source.light, c.loop-taken.invariant.0.within)

pub build_children-build-next-requires : goal.build_children-build-next-requires
build_children-build-next-requires t c =
    let is = c.min.ensures ∙ ap (λ (k : ℕ). min k (c.args.piece.count - c.loop-taken.taken)) c.capacity-most.ensures in (
      omega (arith, c.decreases, c.requires.interior),
      child_asks _ _ _ _ _ _ c.requires.asked _ _ _ _ c.loop-taken.invariant.0 c.loop-taken-test.true _ is,
    )

pub build_children-hang-requires : goal.build_children-hang-requires
build_children-hang-requires t c =
    let is = c.min.ensures ∙ ap (λ (k : ℕ). min k (c.args.piece.count - c.loop-taken.taken)) c.capacity-most.ensures in
    child_hangs _ _ _ _ _ _ c.requires.asked _ _ _ _ c.loop-taken.invariant.0 c.loop-taken-test.true _ is _ _ c.build-next.ensures

pub build_children-overflow_add-taken : goal.build_children-overflow_add-taken
build_children-overflow_add-taken t c =
    let asked = c.requires.asked in
    omega (arith, c.min.ensures, asked.within, asked.source.light)

pub build_children-overflow_add-i : goal.build_children-overflow_add-i
build_children-overflow_add-i t c =
    let asked = c.requires.asked in
    omega (arith, c.loop-taken.invariant.0.order, asked.root.held.shape.limits.narrow)

pub build_children-loop-taken-smaller : goal.build_children-loop-taken-smaller
build_children-loop-taken-smaller t c =
    let is = c.min.ensures ∙ ap (λ (k : ℕ). min k (c.args.piece.count - c.loop-taken.taken)) c.capacity-most.ensures in
    let some = capacity_some c.args.st.order (omega (arith, c.requires.asked.root.held.shape.limits.wide)) (c.args.piece.height - 1) in
    omega (arith, is, some, c.loop-taken-test.true)

pub build_children-loop-taken-preserved : goal.build_children-loop-taken-preserved
build_children-loop-taken-preserved t c =
    let is = c.min.ensures ∙ ap (λ (k : ℕ). min k (c.args.piece.count - c.loop-taken.taken)) c.capacity-most.ensures in (
      growing_on _ _ _ _ _ _ c.requires.asked _ _ _ _ c.loop-taken.invariant.0 c.loop-taken-test.true _ is _ _ c.build-next.ensures _ c.hang.ensures,
      c.hang.auto.pool ∙ c.build-next.auto.pool ∙ c.loop-taken.invariant.1,
    )

pub build_children-shape_of-pool : goal.build_children-shape_of-pool
build_children-shape_of-pool t c = c.loop-taken.invariant.1

pub build_children-returns : goal.build_children-returns
build_children-returns t c =
    growing_end _ _ _ _ _ _ c.requires.asked _ _ _ _ c.loop-taken.invariant.0 (omega (arith, c.loop-taken-test.false))
