-- `say_done` meets its contract: `done`, the four counts and a line feed, one behind the other. Assumes nothing.
use Rattle.desk_text.proofs.Overs.{Put, behind, put_length}
use Rattle.desk_text.specs.Texts.{done_word, line_feed, spaced, over}
use mathlib.Core.Path.{◌≡◌}
use mathlib.Core.List.{List}
use Prim.Native.Nat.{ℕ, ◌+◌, ◌≤◌}
use native.Mathlib.Omega.{arith}
use lib.ListN.{length}
use Rattle.desk_text.proofs.say_done.Goals as goal

-- a number that is put where there is room for 21 bytes
number : (n : ℕ) {at end : ℕ} {t t' : List ℕ} → at + 21 ≤ length t
    → end ≡ at + length (spaced n) → end ≤ at + 21 → t' ≡ over at (spaced n) t → Put at (spaced n) t end t'
number n room ends short written = record { room = omega (arith, room, ends, short); ends = ends; bytes = written }

pub returns-clause-written : goal.returns-clause-written
returns-clause-written c =
    let counts = c.args.c in
    let w = c.put-word in
    let n1 = c.put_number-added in
    let n2 = c.put_number-replaced in
    let n3 = c.put_number-removed in
    let n4 = c.put_number-nothing in
    let l = c.put in
    let p0 : Put 0 done_word c.args.bytes.now w.result w.new.bytes =
    record { room = omega (arith, c.requires); ends = w.ensures.end; bytes = w.ensures.written } in
    let p1 : Put w.result (spaced counts.added) w.new.bytes n1.result n1.new.bytes =
    number counts.added (omega (arith, c.requires, p0.ends, put_length p0)) n1.ensures.end n1.ensures.short n1.ensures.written in
    let q1 = behind p0 p1 in
    let r1 : n1.result ≤ 25 = omega (arith, p0.ends, n1.ensures.short) in
    let p2 : Put n1.result (spaced counts.replaced) n1.new.bytes n2.result n2.new.bytes =
    number counts.replaced (omega (arith, c.requires, r1, put_length q1)) n2.ensures.end n2.ensures.short n2.ensures.written in
    let q2 = behind q1 p2 in
    let r2 : n2.result ≤ 46 = omega (arith, r1, n2.ensures.short) in
    let p3 : Put n2.result (spaced counts.removed) n2.new.bytes n3.result n3.new.bytes =
    number counts.removed (omega (arith, c.requires, r2, put_length q2)) n3.ensures.end n3.ensures.short n3.ensures.written in
    let q3 = behind q2 p3 in
    let r3 : n3.result ≤ 67 = omega (arith, r2, n3.ensures.short) in
    let p4 : Put n3.result (spaced counts.nothing) n3.new.bytes n4.result n4.new.bytes =
    number counts.nothing (omega (arith, c.requires, r3, put_length q3)) n4.ensures.end n4.ensures.short n4.ensures.written in
    let q4 = behind q3 p4 in
    let p5 : Put n4.result line_feed n4.new.bytes l.result l.new.bytes =
    record { room = omega (arith, c.requires, r3, n4.ensures.short, put_length q4); ends = l.ensures.end; bytes = l.ensures.written } in
    (behind q4 p5).bytes
