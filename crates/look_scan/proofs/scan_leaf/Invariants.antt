-- `scan_leaf` meets its contract. The loop's invariant: the entries that are left, listed on this page, give what all of them give on the first.
-- Assumes nothing.
use mathlib.Core.Path.{◌≡◌}
use Prim.Native.Nat.{◌≤◌}
use lib.ListN.{length}
use Rattle.words.specs.Words.{words}
use Rattle.slots.specs.Nodes.{rows_at}
use Rattle.look_output.specs.Output.{page, enlist_all}
use Rattle.look_scan.proofs.Visits.{leaf_rest}
use Rattle.look_scan.proofs.scan_leaf.Given as goal

abbrev pub invariant-loop-j : goal.invariant-loop-j
invariant-loop-j l =
    let rs = rows_at l.st (words l.pool) l.s in
    (l.j ≤ l.n) × ((length l.out ≡ length l.initial.out) × (enlist_all l.room (leaf_rest l.q rs l.j) (page l.out l.l) ≡ enlist_all l.room (leaf_rest l.q rs 0) (page l.initial.out l.initial.l)))
