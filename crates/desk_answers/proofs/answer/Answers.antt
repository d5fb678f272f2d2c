-- `answer` meets its contract: a line is read, and what it asks for is done. Assumes nothing.
use Rattle.desk_pool.proofs.Tells.{told}
use Rattle.desk_answers.proofs.Asked.{too_long, not_too_long, rows, keys_alone, dumps, is_refused}
use Rattle.desk_promise.specs.Replies.{refusing}
use Rattle.desk_promise.specs.Promise.{Outcome, Answers}
use Rattle.desk_orders.specs.Orders.{wanted}
use lib.Seq.{length-take-le}
use lib.ListN.{take}
use mathlib.Core.Path.{refl, sym, subst}
use native.Mathlib.Omega.{arith}
use Rattle.desk_answers.proofs.answer.Goals as goal

pub returns-then-n-gt-LONGEST : goal.returns-then-n-gt-LONGEST
returns-then-n-gt-LONGEST c =
    let x = c.args in
    let l = x.pool.now in
    let t = x.text.now in
    let s = c.say_refused in
    let a : Outcome = record { count = s.result; pool = l; text = s.new.bytes } in
    subst (λ w. Answers w l t a) (sym (too_long x.line.now x.n c.if-n-gt-LONGEST.true))
    (told (refusing l 15) s.result l t s.new.bytes s.ensures.end refl s.ensures.written)

pub slice_bounds-read_order-end : goal.slice_bounds-read_order-end
slice_bounds-read_order-end c = sym (length-take-le _ _ (omega (arith, c.told-line, c.if-n-gt-LONGEST.false)))

pub set_rows-requires : goal.set_rows-requires
set_rows-requires c =
    let x = c.args in
    let r = c.read_order-read in
    let w = wanted (take x.n x.line.now) in
    let s = rows r.result w r.ensures _ c.in-Set.is in
    (s.keys, s.places, s.sizes)

pub drop_keys-requires : goal.drop_keys-requires
drop_keys-requires c =
    let x = c.args in
    let r = c.read_order-read in
    let w = wanted (take x.n x.line.now) in
    let s = keys_alone r.result w r.ensures _ c.in-Drop.is in
    s.keys

pub returns-in-Set : goal.returns-in-Set
returns-in-Set c =
    let x = c.args in
    let r = c.read_order-read in
    let s = c.set_rows in
    let a : Outcome = record { count = s.result; pool = s.new.pool; text = s.new.text } in
    subst (λ v. Answers v x.pool.now x.text.now a) (not_too_long x.line.now x.n c.if-n-gt-LONGEST.false)
    ((rows r.result (wanted (take x.n x.line.now)) r.ensures _ c.in-Set.is).answers
    x.pool.now x.text.now a s.ensures)

pub returns-in-Drop : goal.returns-in-Drop
returns-in-Drop c =
    let x = c.args in
    let r = c.read_order-read in
    let s = c.drop_keys in
    let a : Outcome = record { count = s.result; pool = s.new.pool; text = s.new.text } in
    subst (λ v. Answers v x.pool.now x.text.now a) (not_too_long x.line.now x.n c.if-n-gt-LONGEST.false)
    ((keys_alone r.result (wanted (take x.n x.line.now)) r.ensures _ c.in-Drop.is).answers
    x.pool.now x.text.now a s.ensures)

pub returns-in-Dump : goal.returns-in-Dump
returns-in-Dump c =
    let x = c.args in
    let l = x.pool.now in
    let r = c.read_order-read in
    let a : Outcome = record { count = c.dump.result; pool = l; text = c.dump.new.text } in
    subst (λ v. Answers v x.pool.now x.text.now a) (not_too_long x.line.now x.n c.if-n-gt-LONGEST.false) (dumps r.result (wanted (take x.n x.line.now)) r.ensures c.in-Dump.is l
    x.text.now a c.dump.ensures)

pub returns-in-Malformed : goal.returns-in-Malformed
returns-in-Malformed c =
    let x = c.args in
    let l = x.pool.now in
    let t = x.text.now in
    let r = c.read_order-read in
    let s = c.say_refused-in-Malformed in
    let a : Outcome = record { count = s.result; pool = l; text = s.new.bytes } in
    subst (λ v. Answers v x.pool.now x.text.now a) (not_too_long x.line.now x.n c.if-n-gt-LONGEST.false)
    (is_refused r.result (wanted (take x.n x.line.now)) r.ensures c.in-Malformed.is l t a
    (told (refusing l 15) s.result l t s.new.bytes s.ensures.end refl s.ensures.written))
