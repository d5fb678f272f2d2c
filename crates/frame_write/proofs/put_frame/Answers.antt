-- `put_frame` meets its contract. The loop's invariant: behind the header stand the first i entries. Assumes nothing.
use mathlib.Core.Path.{◌≡◌, refl, ap, ◌∙◌}
use Prim.Native.Nat.{ℕ, ◌+◌, ◌*◌}
use native.Mathlib.Omega.{arith}
use Rattle.model.specs.Frame.{bytes}
use Rattle.frame_text.specs.Entries.{width_of, header_of}
use Rattle.frame_text.specs.Digits.{spelled}
use Rattle.frame_text.specs.Contents.{first, frame_of}
use Rattle.frame_text.proofs.Told.{write_short, write_done}
use Rattle.frame_text.proofs.Coded.{codes, start_none, start_up, put_more, put_all, line_long}
use Rattle.frame_text.proofs.Lines.{spelled_none}
use Rattle.frame_write.proofs.put_frame.Goals as goal

pub returns-then-line-end : goal.returns-then-line-end
returns-then-line-end c =
    let a = c.args in
    write_short a.line.now (frame_of a.contents) (omega (arith, c.if-line-end.true, line_long a.contents))

pub put_number-requires : goal.put_number-requires
put_number-requires c =
    omega (arith, start_up c.args.contents.kind 0 c.args.contents.count (omega arith), start_none c.args.contents.kind)

pub loop-i-init : goal.loop-i-init
loop-i-init c =
    let k = c.args.contents.kind in
    let z : 0 * width_of k ≡ 0 = omega arith in
    (omega arith, (refl, rw z (spelled_none c.put_number.new.line 1 0 refl)))

pub put_entry-requires : goal.put_entry-requires
put_entry-requires c =
    let k = c.args.contents.kind in record {
      few = omega arith;
      within = omega (
        arith,
        c.loop-i.invariant.1.0,
        c.put_number.auto.line,
        c.if-line-end.false,
        start_up k (c.loop-i.i + 1) c.args.contents.count (omega arith),
        c.start_of-end.ensures.0,
      );
    }

pub loop-i-preserved : goal.loop-i-preserved
loop-i-preserved c =
    let a = c.args in
    let h = c.loop-i in (
      omega arith,
      (
        c.put_entry.auto.line ∙ h.invariant.1.0,
        put_more a.contents.kind a.contents.entries h.i c.put_number.new.line h.line c.put_entry.new.line
            (omega (
              arith,
              c.put_number.auto.line,
              c.if-line-end.false,
              c.start_of-end.ensures.0,
              start_up a.contents.kind 0 a.contents.count (omega arith),
              start_none a.contents.kind,
            ))
            h.invariant.1.1 c.put_entry.ensures,
      ),
    )

pub shape_of-line : goal.shape_of-line
shape_of-line c = c.loop-i.invariant.1.0 ∙ c.put_number.auto.line

pub returns : goal.returns
returns c =
    let a = c.args in
    let h = c.loop-i in
    let k = a.contents.kind in
    let l = a.line.now in
    let e : h.i ≡ a.contents.count = omega arith in
    let long = line_long a.contents in
    let first_byte : c.put_number.new.line ≡ spelled l 0 1 (bytes 1 (header_of k)) =
    c.put_number.ensures ∙ ap (λ (x : ℕ). spelled l 0 1 (bytes 1 x)) c.into.ensures in
    let all : h.line ≡ spelled c.put_number.new.line 1 (a.contents.count * width_of k) (codes k (first a.contents.count a.contents.entries)) =
    h.invariant.1.1 ∙ ap (λ (i : ℕ). spelled c.put_number.new.line 1 (i * width_of k) (codes k (first i a.contents.entries))) e in
    write_done l h.line (frame_of a.contents) (2 * c.start_of-end.result)
    (omega (arith, long, c.if-line-end.false, c.start_of-end.ensures.0))
    (omega (arith, long, c.start_of-end.ensures.0)) (put_all a.contents l c.put_number.new.line h.line first_byte all)
