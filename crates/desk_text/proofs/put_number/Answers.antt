-- `put_number` meets its contract: a space, and the fewest digits. Assumes nothing.
use Rattle.desk_text.proofs.Overs.{Put, behind, put_length}
use Rattle.desk_text.specs.Texts.{over, decimal}
use Prim.Native.Nat.{◌+◌}
use lib.ListN.{length, take}
use mathlib.Core.List.{[], ◌∷◌}
use mathlib.Core.Path.{◌≡◌, sym, ap, ◌∙◌}
use Rattle.desk_text.proofs.Decimals.{few_digits, fewest_decimal}
use native.Mathlib.Omega.{arith}
use borrow.Author.Rules.{rules}
use Rattle.desk_text.proofs.put_number.Goals as goal

pub returns : goal.returns
returns c =
    let a = c.args in
    let d = c.decimal-k.ensures in
    let e = c.put-behind.ensures in
    let f = c.put.ensures in
    let few = few_digits a.n _ (search (rules, c.ranges)) d.len in
    let is : take c.decimal-k.result c.decimal-k.new.out ≡ decimal a.n =
    d.digits ∙ fewest_decimal 20 a.n c.decimal-k.result few d.len in
    let long : length (decimal a.n) ≡ c.decimal-k.result = ap length (sym is) ∙ sym d.in_bounds.1 in
    let space : Put a.at (32 ∷ []) a.bytes.now c.put-behind.result c.put-behind.new.bytes =
    record { room = omega (arith, c.requires); ends = e.end; bytes = e.written } in
    let number : Put c.put-behind.result (decimal a.n) c.put-behind.new.bytes c.put.result c.put.new.bytes =
    record {
      room = omega (arith, c.requires, e.end, long, few, put_length space);
      ends = f.end ∙ ap (λ s. c.put-behind.result + length s) is;
      bytes = f.written ∙ ap (λ s. over c.put-behind.result s c.put-behind.new.bytes) is;
    } in
    let both = behind space number in record { end = both.ends; short = omega (arith, both.ends, long, few); written = both.bytes }
