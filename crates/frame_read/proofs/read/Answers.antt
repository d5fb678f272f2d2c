-- `read` meets its contract: one law for each of its answers. Assumes nothing.
use mathlib.Core.Path.{◌≡◌, sym, ap, subst, ◌∙◌}
use mathlib.Core.Bool.{Bool, true, false, not}
use mathlib.Core.List.{List}
use Prim.Native.Nat.{ℕ, ◌*◌, ◌/◌}
use native.Mathlib.Omega.{arith}
use lib.ListN.{length}
use borrow.Author.Tests.{not-true, not-false}
use Rattle.std.specs.Prelude.{Result, Err}
use Rattle.std.proofs.lemmas.Result.{err_from_is_err_and}
use Rattle.model.specs.declared.Refusal.{Refusal}
use Rattle.model.specs.declared.Refusal.TheVariants as Why
use Rattle.model.specs.ReadFrame.{read_line}
use Rattle.frame_text.specs.declared.Contents.{Contents}
use Rattle.frame_text.specs.Answers.{Reads}
use Rattle.frame_text.specs.Digits.{is_hex}
use Rattle.frame_text.proofs.Told.{read_as, read_refused, line_empty, line_other, line_kind, line_unknown}
use Rattle.frame_text.proofs.Spelt.{hex_even}
use Rattle.frame_read.proofs.read.Goals as goal

-- a line that is not empty and has only digits, two a byte
record Spelling (l : List ℕ) : Type 0 where
  digits : is_hex l ≡ true
  whole : 2 * (length l / 2) ≡ length l

spelling : (l : List ℕ) (b : Bool) → b ≡ is_hex l → not b ≡ false → Spelling l
spelling l b e t = let digits : is_hex l ≡ true = sym e ∙ not-false b t in record { digits = digits; whole = hex_even l digits }

pub returns-then-line-eq0 : goal.returns-then-line-eq0
returns-then-line-eq0 c = read_refused Why.EmptyLine (line_empty c.args.line.now c.if-line-eq0.true)

pub returns-then-not-is_hex : goal.returns-then-not-is_hex
returns-then-not-is_hex c =
    read_refused Why.NotHex (line_other c.args.line.now (sym c.is_hex.ensures ∙ not-true c.is_hex.result c.if-not-is_hex.true-raw))

pub number-requires : goal.number-requires
number-requires c =
    let s = spelling c.args.line.now c.is_hex.result c.is_hex.ensures c.if-not-is_hex.false-raw in
    record { digits = s.digits; within = omega (arith, s.whole); narrow = omega arith }

pub returns-in_err-kind : goal.returns-in_err-kind
returns-in_err-kind c =
    let l = c.args.line.now in
    let s = spelling l c.is_hex.result c.is_hex.ensures c.if-not-is_hex.false-raw in
    let head = c.in_err-kind.ensures in
    let p = err_from_is_err_and c.from_residual.result c.from_residual.ensures.1 in
    let same : c.from_residual.result ≡ Err Why.UnknownHeader = p.1 ∙ ap Err (p.2 ∙ head.0) in
    subst (λ (r : Result Contents Refusal). Reads (read_line l) r) (sym same)
    (read_refused Why.UnknownHeader (line_unknown l s.digits (omega (arith, s.whole)) (λ k e. head.1 k (c.number.ensures.0 ∙ e))))

pub read_entries-requires : goal.read_entries-requires
read_entries-requires c =
    let s = spelling c.args.line.now c.is_hex.result c.is_hex.ensures c.if-not-is_hex.false-raw in
    record { digits = s.digits; some = omega (arith, s.whole) }

pub returns : goal.returns
returns c =
    let l = c.args.line.now in
    let s = spelling l c.is_hex.result c.is_hex.ensures c.if-not-is_hex.false-raw in
    read_as c.read_entries.result (line_kind l s.digits (omega (arith, s.whole)) c.in_ok-kind.kind (sym c.number.ensures.0 ∙ c.in_ok-kind.ensures)) c.read_entries.ensures
