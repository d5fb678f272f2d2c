-- `scan_leaf` meets its contract. The loop's invariant: the entries that are left, listed on this page, give what all of them give on the first.
-- Assumes nothing.
use mathlib.Core.Path.{refl, sym, ap, ◌∙◌}
use mathlib.Core.List.{[], ◌∷◌}
use Prim.Native.Nat.{ℕ, ◌+◌, ◌-◌}
use native.Mathlib.Omega.{arith}
use Rattle.words.specs.Words.{words}
use Rattle.slots_raw.specs.declared.Row.{Row}
use Rattle.slots.specs.Nodes.{rows_at}
use Rattle.model.specs.Lists.{keep}
use Rattle.model.specs.Look.{due}
use Rattle.tree.specs.Bridge.{entry_of}
use Rattle.look_output.specs.Output.{page, enlist_all}
use Rattle.look_scan.specs.Walk.{place_in}
use Rattle.look_output.proofs.Outputs.{ended}
use Rattle.tree.proofs.Children.{held_at}
use Rattle.look_scan.proofs.Visits.{leaf_rest, leaf_next, leaf_end, leaf_visited}
use Rattle.look_scan.proofs.scan_leaf.Goals as goal

pub count-n-requires : goal.count-n-requires
count-n-requires c =
    let a = c.args in
    held_at a.st (words a.pool.now) 0 a.s c.requires.held c.requires.tree

pub overflow_add-opened : goal.overflow_add-opened
overflow_add-opened c = omega (arith, c.requires.ready.few)

pub loop-j-init : goal.loop-j-init
loop-j-init c = (omega arith, (refl, refl))

pub row_at-row-requires : goal.row_at-row-requires
row_at-row-requires c =
    let a = c.args in
    let n = c.count-n.ensures.is in
    let at = held_at a.st (words a.pool.now) 0 a.s c.requires.held c.requires.tree in
    record { held = at.held; slot = at.slot; within = omega (arith, c.place_in-i.ensures.inside, n) }

pub list_due-l-requires : goal.list_due-l-requires
list_due-l-requires c = record { space = omega (arith, c.requires.ready.fits, c.loop-j.invariant.1.0); unfilled = c.if-l.false }

pub loop-j-preserved : goal.loop-j-preserved
loop-j-preserved c =
    let a = c.args in
    let rs = rows_at a.st (words a.pool.now) a.s in
    let q = a.q in
    let n = c.count-n.ensures.is in
    let at = c.loop-j in
    let test = c.loop-j-test.true in
    let place = c.place_in-i in
    let listed = c.list_due-l in (
      omega (arith, test),
      (
        listed.auto.out ∙ at.invariant.1.0,
        ap (enlist_all a.room (leaf_rest q rs (at.j + 1)))
            (listed.ensures ∙ ap (λ (r : Row). enlist_all a.room (keep (due q) (entry_of r ∷ [])) (page at.out at.l)) c.row_at-row.ensures)
            ∙ leaf_next q a.room rs (page at.out at.l) at.j place.result (omega (arith, n, test)) (place.ensures.is ∙ ap (λ (m : ℕ). place_in a.q.direction m at.j) n)
            ∙ at.invariant.1.1,
      ),
    )

pub returns-then-l : goal.returns-then-l
returns-then-l c =
    let a = c.args in
    let rs = rows_at a.st (words a.pool.now) a.s in
    let q = a.q in
    let at = c.loop-j in
    let full = ended a.room (leaf_rest q rs at.j) (page at.out at.l) c.if-l.true in
    leaf_visited q a.room a.s rs a.out.now a.w at.out at.l c.requires.ready.fresh (sym full ∙ at.invariant.1.1)

pub returns-after-loop-j : goal.returns-after-loop-j
returns-after-loop-j c =
    let a = c.args in
    let rs = rows_at a.st (words a.pool.now) a.s in
    let q = a.q in
    let n = c.count-n.ensures.is in
    let at = c.loop-j in
    let end = leaf_end q a.room rs (page at.out at.l) at.j (omega (arith, n, c.loop-j-test.false)) in
    leaf_visited q a.room a.s rs a.out.now a.w at.out at.l c.requires.ready.fresh (sym end ∙ at.invariant.1.1)
