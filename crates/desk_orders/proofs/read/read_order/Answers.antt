-- `read_order` meets its contract: what a line asks for is told by its first word. Assumes nothing.
use Rattle.desk_orders.proofs.Asks.{short, asks_set, asks_drop, asks_dump, asks_none}
use Rattle.desk_orders.specs.Orders.{is_word, reading_of}
use mathlib.Core.Path.{sym, ap, ◌∙◌}
use native.Mathlib.Omega.{arith}
use Rattle.desk_orders.proofs.read.read_order.Goals as goal

pub returns-then-starts_with : goal.returns-then-starts_with
returns-then-starts_with c =
    let l = c.args.line.now in
    let w = c.starts_with.ensures in
    let is = c.if-starts_with.true in
    c.read_set.ensures ∙ ap reading_of (sym (short l (omega arith) ∙ asks_set l (sym w.value ∙ is)))

pub returns-then-starts_with-2 : goal.returns-then-starts_with-2
returns-then-starts_with-2 c =
    let l = c.args.line.now in
    let w = c.starts_with-2.ensures in
    let is = c.if-starts_with-2.true in
    let no = sym c.starts_with.ensures.value ∙ c.if-starts_with.false in
    c.read_drop.ensures ∙ ap reading_of (sym (short l (omega arith) ∙ asks_drop l no (sym w.value ∙ is)))

pub returns-then-eq : goal.returns-then-eq
returns-then-eq c =
    let l = c.args.line.now in
    let no = sym c.starts_with.ensures.value ∙ c.if-starts_with.false in
    let nor = sym c.starts_with-2.ensures.value ∙ c.if-starts_with-2.false in
    let is = ap (λ w. is_word w l) (sym c.as_slice.ensures) ∙ sym c.eq.ensures ∙ c.if-eq.true in
    c.no_rows-then-eq.ensures ∙ ap reading_of (sym (short l (omega arith) ∙ asks_dump l no nor is))

pub returns : goal.returns
returns c =
    let l = c.args.line.now in
    let no = sym c.starts_with.ensures.value ∙ c.if-starts_with.false in
    let nor = sym c.starts_with-2.ensures.value ∙ c.if-starts_with-2.false in
    let other = ap (λ w. is_word w l) (sym c.as_slice.ensures) ∙ sym c.eq.ensures ∙ c.if-eq.false in
    c.no_rows-2.ensures ∙ ap reading_of (sym (short l (omega arith) ∙ asks_none l no nor other))
