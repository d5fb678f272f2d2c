-- A turn takes at least a byte, and no more than the rest; its answer is no longer than the text.
use Rattle.std.proofs.Common.{ℕ, ◌≡◌, ◌-◌, List, length, take, drop, arith, rules, sym, length-drop, length-take-le}
use Rattle.desk_promise.proofs.Cuts.{turn_inside, turn_takes}
use Rattle.desk.proofs.serve.Goals as goal

-- what a turn is given is all that is left
left : (part : List ℕ) (from : ℕ) → length (take (length part - from) (drop from part)) ≡ length part - from
left part from = length-take-le _ _ (omega (arith, length-drop from part))

pub slice_bounds-text-end : goal.slice_bounds-text-end
slice_bounds-text-end c = turn_inside _ _ _ _ _ c.take_part-t.ensures

pub slice_bounds-write_all-end : goal.slice_bounds-write_all-end
slice_bounds-write_all-end c = sym (length-take-le _ _ (turn_inside _ _ _ _ _ c.take_part-t.ensures))

pub overflow_add-from : goal.overflow_add-from
overflow_add-from c =
    let long = left c.args.part.now c.loop-from.from in
    let some = turn_takes _ _ _ _ _ c.take_part-t.ensures (omega (arith, long, c.loop-from-test.true)) in
    search (rules, long, some)

pub loop-from-smaller : goal.loop-from-smaller
loop-from-smaller c =
    let long = left c.args.part.now c.loop-from.from in
    let some = turn_takes _ _ _ _ _ c.take_part-t.ensures (omega (arith, long, c.loop-from-test.true)) in
    omega (arith, long, some)

pub loop-from-preserved : goal.loop-from-preserved
loop-from-preserved c =
    let long = left c.args.part.now c.loop-from.from in
    let some = turn_takes _ _ _ _ _ c.take_part-t.ensures (omega (arith, long, c.loop-from-test.true)) in
    omega (arith, long, some)
