-- `entries_in` meets its contract. The loop's invariant: the first i places are filled, and the others hold nothing. Assumes nothing.
use mathlib.Core.List.{List, [], ◌∷◌, ◌++◌}
use mathlib.Core.Path.{◌≡◌, sym, ap, ◌∙◌}
use Prim.Native.Nat.{ℕ, ◌+◌}
use native.Mathlib.Omega.{arith}
use lib.ListN.{length, drop, set, replicate}
use Rattle.frame_text.specs.Entries.{entries_in}
use Rattle.frame_text.specs.Digits.{pairs}
use Rattle.frame_text.specs.Contents.{padded}
use Rattle.frame_text.specs.declared.FrameEntry.{FrameEntry}
use Rattle.frame_text.proofs.Coded.{start_up, padded_more, entries_long, entries_more}
use Rattle.frame_read.proofs.entries_in.Goals as goal

pub loop-i-init : goal.loop-i-init
loop-i-init c = (omega arith, ap (λ (e : FrameEntry). replicate 32 e) c.no_entry-entries.ensures)

pub entry_at-requires : goal.entry_at-requires
entry_at-requires c = record { digits = c.requires.digits; few = omega arith; within = omega (arith, start_up c.args.kind (c.loop-i.i + 1) c.args.n (omega arith)) }

pub loop-i-preserved : goal.loop-i-preserved
loop-i-preserved c =
    let s = c.args in
    let h = c.loop-i in
    let bs = pairs s.line.now in (
      omega arith,
      ap (λ (l : List FrameEntry). set l h.i c.entry_at.result) h.invariant.1
          ∙ padded_more (entries_in s.kind h.i (drop 1 bs)) h.i c.entry_at.result (entries_long s.kind h.i (drop 1 bs)) (omega arith)
          ∙ ap (λ (e : FrameEntry). padded (entries_in s.kind h.i (drop 1 bs) ++ (e ∷ []))) c.entry_at.ensures
          ∙ ap padded (sym (entries_more s.kind h.i bs)),
    )

pub returns : goal.returns
returns c =
    let s = c.args in
    let h = c.loop-i in
    let bs = drop 1 (pairs s.line.now) in
    let e : h.i ≡ s.n = omega arith in
    let entries : h.entries ≡ padded (entries_in s.kind s.n bs) = h.invariant.1 ∙ ap (λ (i : ℕ). padded (entries_in s.kind i bs)) e in
    let count : s.n ≡ length (entries_in s.kind s.n bs) = sym (entries_long s.kind s.n bs) in
    λ j. record { kind = s.kind; count = count j; entries = entries j }
