-- Limits that do not differ, and that no sound tree is smaller than a packed one. Assumes nothing.
use mathlib.Core.Path.{◌≡◌, refl}
use mathlib.Core.Bool.{true, false, ◌&&◌}
use mathlib.Core.List.{List}
use Prim.Native.Nat.{ℕ}
use native.Mathlib.Omega.{arith}
use lib.Dec.{eqb}
use borrow.Author.Tests.{eqb-true, not-false}
use Rattle.model.specs.declared.Entry.{Entry}
use Rattle.model.specs.declared.Limits.{Limits}
use Rattle.model.specs.declared.Settings.{Settings}
use Rattle.model.specs.Tree.{Index}
use Rattle.model_pack.specs.Pack.{differ}
use Rattle.model_pack.specs.Packing.{Over, Least}
use Rattle.model.specs.Forest.{index_with}
use Rattle.model_pack.specs.PackForest.{packed_tree}
use Rattle.model.proofs.Lists.{both_left, both_right}
use Rattle.model_pack.proofs.Packs.{over_wide, is_packed_tree, packed_tree_whole, packed_tree_rooted}
use Rattle.model_pack.proofs.Least.{least_law}

pub not_differ : (a b : Limits) → differ a b ≡ false → (a.order ≡ b.order) × (a.minimum ≡ b.minimum)
not_differ a b e =
    let t : (eqb a.order b.order && eqb a.minimum b.minimum) ≡ true = not-false _ e in
    (eqb-true _ _ (both_left (eqb a.order b.order) _ t), eqb-true _ _ (both_right (eqb a.order b.order) _ t))

-- no sound tree over these entries is smaller than a packed one, wherever either stands
pub least_tree : (st : Settings) (i : ℕ) (es : List Entry) (us : List ℕ) {x : Index} → Over st.order es x
    → Least st.order es (index_with (packed_tree st i es) us)
least_tree st i es us v =
    let p = is_packed_tree st i es us v in
    least_law st.order st es (index_with (packed_tree st i es) us) (omega (arith, over_wide v)) refl (packed_tree_whole st i es us v)
    (packed_tree_rooted st i es us v) p.same p.full
