-- A pool that its survey found sound: its trees with the settings and heights that were found. Assumes nothing.
use Rattle.std.specs.Prelude.{Some}
use Prim.Native.Nat.{ℕ}
use mathlib.Core.Path.{◌≡◌, refl}
use mathlib.Core.List.{List}
use Rattle.model.specs.declared.Settings.{Settings}
use Rattle.model.specs.Sound.{handed}
use Rattle.tree.specs.Promises.{InPool}
use Rattle.survey.specs.declared.Findings.{Findings}
use Rattle.survey.specs.Promises.{Surveyed, height_for}
use Rattle.survey.proofs.Founds.{tree_in}

pub found_tree : {l : List ℕ} {f : Findings} → Surveyed l (Some f) → (i : ℕ) (st : Settings) → st ≡ handed f.given i → InPool l st (height_for i f)
found_tree {f = f} s i st e = tree_in s i st (height_for i f) e refl
