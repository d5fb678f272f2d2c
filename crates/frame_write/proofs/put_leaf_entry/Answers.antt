-- `put_leaf_entry` meets its contract: three numbers, one behind the other. Assumes nothing.
use mathlib.Core.List.{◌++◌}
use mathlib.Core.Path.{refl}
use native.Mathlib.Omega.{arith}
use Rattle.model.specs.Frame.{bytes}
use Rattle.frame_text.proofs.Lines.{then_on}
use Rattle.frame_write.proofs.put_leaf_entry.Goals as goal

pub returns : goal.returns
returns c =
    let s = c.args in
    let x = bytes 8 s.e.key in
    let y = bytes 8 s.e.reference.place in
    let z = bytes 4 s.e.reference.size in
    let one = c.put_number in
    let two = c.put_number-2 in
    let three = c.put_number-3 in
    then_on s.line.now two.new.line three.new.line s.a 16 4 (x ++ y) z (omega arith) refl
    (then_on s.line.now one.new.line two.new.line s.a 8 8 x y (omega arith) refl one.ensures two.ensures) three.ensures
