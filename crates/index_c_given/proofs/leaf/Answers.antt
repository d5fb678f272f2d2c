-- `leaf` meets its contract. The loop's invariant: what is left to put makes the entries those of the 32 places. Assumes nothing.
use mathlib.Core.List.{List}
use lib.ListN.{replicate, length-replicate}
use Rattle.frame_text.specs.declared.Kind.TheVariants.{Leaf}
use Rattle.frame_text.specs.declared.FrameEntry.{FrameEntry}
use Rattle.index_c_given.specs.Given.{leaf_at}
use Rattle.index_c_given.proofs.Fills.{fill_start, fill_turn, fill_end}
use Rattle.index_c_given.proofs.leaf.Goals as goal

pub loop-i-init : goal.loop-i-init
loop-i-init c =
    let none : List FrameEntry = replicate 32 c.leaf_entry-entries.result in
    fill_start (leaf_at c.args.keys.now c.args.places.now c.args.sizes.now) 32 none (length-replicate 32 c.leaf_entry-entries.result)

pub loop-i-preserved : goal.loop-i-preserved
loop-i-preserved c =
    let h = c.loop-i in
    fill_turn (leaf_at c.args.keys.now c.args.places.now c.args.sizes.now) 32 h.entries h.i _ c.loop-i-test.true c.leaf_entry.ensures h.invariant

pub returns : goal.returns
returns c =
    let h = c.loop-i in
    let entries = fill_end (leaf_at c.args.keys.now c.args.places.now c.args.sizes.now) 32 h.entries h.i c.loop-i-test.false h.invariant in
    λ j. record { kind = Leaf; count = c.args.count; entries = entries j }
