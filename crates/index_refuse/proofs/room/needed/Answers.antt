-- `needed` meets its contract: a depth below two counts as two (`needed_low`, `needed_high`), and at most 32 keys at a depth of at most 8 fit a word.
-- Assumes nothing.
use native.Mathlib.Nat.{mul-le-mul}
use borrow.Author.Rules.{rules}
use Rattle.index_refuse.proofs.Refuses.{needed_low, needed_high}
use Rattle.index_refuse.proofs.room.needed.Goals as goal

pub returns-then-depth-lt2 : goal.returns-then-depth-lt2
returns-then-depth-lt2 c = needed_low _ _ c.if-depth-lt2.true

pub overflow_mul-result-2 : goal.overflow_mul-result-2
overflow_mul-result-2 c = let p = c.requires in search (rules, mul-le-mul p.0 p.1)

pub overflow_add-result-2 : goal.overflow_add-result-2
overflow_add-result-2 c = let p = c.requires in search (rules, mul-le-mul p.0 p.1)

pub returns : goal.returns
returns c = needed_high _ _ c.if-depth-lt2.false
