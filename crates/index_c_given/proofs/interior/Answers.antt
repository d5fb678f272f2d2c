-- `interior` meets its contract. The loop's invariant: what is left to put makes the entries those of the 32 places. Assumes nothing.
use mathlib.Core.List.{List}
use lib.ListN.{replicate, length-replicate}
use Rattle.frame_text.specs.declared.Kind.TheVariants.{Interior}
use Rattle.frame_text.specs.declared.FrameEntry.{FrameEntry}
use Rattle.index_c_given.specs.Given.{branch_at}
use Rattle.index_c_given.proofs.Fills.{fill_start, fill_turn, fill_end}
use Rattle.index_c_given.proofs.interior.Goals as goal

pub loop-i-init : goal.loop-i-init
loop-i-init c =
    let none : List FrameEntry = replicate 32 c.branch-entries.result in
    fill_start (branch_at c.args.keys.now c.args.children.now c.args.live.now c.args.dead.now c.args.sums.now) 32 none (length-replicate 32 c.branch-entries.result)

pub loop-i-preserved : goal.loop-i-preserved
loop-i-preserved c =
    let h = c.loop-i in
    fill_turn (branch_at c.args.keys.now c.args.children.now c.args.live.now c.args.dead.now c.args.sums.now) 32 h.entries h.i _ c.loop-i-test.true c.branch-entries-in-loop-i.ensures h.invariant

pub returns : goal.returns
returns c =
    let h = c.loop-i in
    let entries = fill_end (branch_at c.args.keys.now c.args.children.now c.args.live.now c.args.dead.now c.args.sums.now) 32 h.entries h.i c.loop-i-test.false h.invariant in
    λ j. record { kind = Interior; count = c.args.count; entries = entries j }
