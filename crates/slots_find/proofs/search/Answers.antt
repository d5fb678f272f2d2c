-- `search` meets its contract. The loop's invariant: the keys before row `i` are below `key`. So where the walk ends, the row that it has come to tells, or
-- that there is none. Assumes nothing.
use mathlib.Core.Path.{sym, ◌∙◌}
use Prim.Native.Nat.{◌-◌}
use native.Mathlib.Omega.{arith}
use Rattle.words.specs.Words.{words}
use Rattle.slots.specs.Nodes.{rows_at}
use Rattle.slots_find.proofs.Finds.{found_at, found_not, found_end}
use Rattle.slots_find.proofs.search.Goals as goal

pub returns-then-key-here-2 : goal.returns-then-key-here-2
returns-then-key-here-2 c =
    let a = c.args in
    let l = rows_at a.st (words a.pool.now) a.s in
    record {
      is = found_at a.key l c.loop-i.i c.loop-i.invariant.1 (omega arith) (sym c.key_at-here.ensures ∙ sym c.if-key-here-2.true);
      within = omega arith;
    }

pub returns-then-key-here : goal.returns-then-key-here
returns-then-key-here c =
    let a = c.args in
    let l = rows_at a.st (words a.pool.now) a.s in
    record {
      is = found_not a.key l c.loop-i.i c.loop-i.invariant.1 (omega arith) (omega (arith, c.key_at-here.ensures));
      within = omega arith;
    }

pub returns : goal.returns
returns c =
    let n = c.count-n.ensures.is in
    let a = c.args in
    let l = rows_at a.st (words a.pool.now) a.s in
    record { is = found_end a.key l c.count-n.result (λ j h. c.loop-i.invariant.1 j (omega arith)) n; within = omega arith }
