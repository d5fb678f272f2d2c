-- The last answer is no longer than its text.
use Rattle.std.proofs.Common.{sym, length-take-le}
use Rattle.desk_promise.proofs.Cuts.{answer_inside}
use Rattle.desk.proofs.main.Goals as goal

pub slice_bounds-text-end : goal.slice_bounds-text-end
slice_bounds-text-end c = answer_inside _ _ _ _ c.answer-n.ensures

pub slice_bounds-write_all-end : goal.slice_bounds-write_all-end
slice_bounds-write_all-end c = sym (length-take-le _ _ (answer_inside _ _ _ _ c.answer-n.ensures))
