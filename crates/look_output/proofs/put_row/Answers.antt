-- `put_row` meets its contract: the part of the output that is lent comes back as the entry's bytes. Assumes nothing.
use mathlib.Core.Path.{ap, ◌∙◌}
use Prim.Native.Nat.{ℕ, ◌+◌, ◌-◌, ◌*◌}
use mathlib.Core.List.{List, [], ◌∷◌, ◌++◌}
use native.Mathlib.Omega.{arith}
use lib.ListN.{take}
use borrow.Rule.Slice.PartMut.{put_mid, Post-is}
use Rattle.words.specs.Words.{bytes_of}
use Rattle.tree.specs.Bridge.{entry_of}
use Rattle.look_output.specs.Output.{entry_words}
use Rattle.look_output.proofs.put_row.Goals as goal

pub returns : goal.returns
returns c =
    let a = c.args in
    let new : List ℕ = bytes_of (entry_words (entry_of a.row ∷ [])) in
    ap (λ (ys : List ℕ). put_mid (24 * a.n) (24 * a.n + 24 - 24 * a.n) a.out.now ys) c.spell_row.ensures
    ∙ ap (λ (l : List ℕ). take (24 * a.n) a.out.now ++ (new ++ l)) (Post-is (24 * a.n) (24 * a.n + 24) a.out.now (omega arith))
