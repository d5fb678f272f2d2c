-- `put_branch` meets its contract: five numbers, one behind the other. Assumes nothing.
use mathlib.Core.List.{◌++◌}
use mathlib.Core.Path.{refl}
use native.Mathlib.Omega.{arith}
use Rattle.model.specs.Frame.{bytes}
use Rattle.frame_text.proofs.Lines.{then_on}
use Rattle.frame_write.proofs.put_branch.Goals as goal

pub returns : goal.returns
returns c =
    let s = c.args in
    let l = s.line.now in
    let key = bytes 8 s.e.key in
    let child = bytes 4 s.e.child in
    let live = bytes 4 s.e.totals.live in
    let dead = bytes 4 s.e.totals.dead in
    let sum = bytes 8 s.e.totals.size in
    let one = c.put_number in
    let two = c.put_number-2 in
    let three = c.put_number-3 in
    let four = c.put_number-4 in
    let five = c.put_number-5 in
    then_on l four.new.line five.new.line s.a 20 8 (key ++ child ++ live ++ dead) sum (omega (arith, c.requires)) refl
    (then_on l three.new.line four.new.line s.a 16 4 (key ++ child ++ live) dead (omega (arith, c.requires)) refl
    (then_on l two.new.line three.new.line s.a 12 4 (key ++ child) live (omega (arith, c.requires)) refl
    (then_on l one.new.line two.new.line s.a 8 4 key child (omega (arith, c.requires)) refl one.ensures two.ensures) three.ensures)
    four.ensures) five.ensures
