-- `say_refused` meets its contract: `refused`, the number and a line feed, one behind the other. Assumes nothing.
use Rattle.desk_text.proofs.Overs.{Put, behind, put_length}
use Rattle.desk_text.specs.Texts.{refused_word, line_feed, spaced}
use mathlib.Core.Path.{sym}
use native.Mathlib.Omega.{arith}
use Rattle.desk_text.proofs.say_refused.Goals as goal

pub returns-clause-written : goal.returns-clause-written
returns-clause-written c =
    let p = c.put-word in
    let n = c.put_number-end in
    let l = c.put in
    let t = c.args.bytes.now in
    let word : Put 0 refused_word t p.result p.new.bytes = record { room = omega (arith, c.requires); ends = p.ensures.end; bytes = p.ensures.written } in
    let digits : Put p.result (spaced c.from-n.result) p.new.bytes n.result n.new.bytes =
    record { room = omega (arith, c.requires, put_length word, word.ends, n.ensures.end, n.ensures.short); ends = n.ensures.end; bytes = n.ensures.written } in
    let feed : Put n.result line_feed n.new.bytes l.result l.new.bytes =
    record {
      room = omega (arith, c.requires, put_length word, put_length digits, word.ends, n.ensures.short);
      ends = l.ensures.end;
      bytes = l.ensures.written;
    } in
    rw (sym c.from-n.ensures) (behind (behind word digits) feed).bytes
