-- The nodes of a packed tree are as many as `packed_nodes` counts, whatever its entries and its slots. Assumes nothing.
use mathlib.Core.Path.{◌≡◌, refl, ap}
use mathlib.Core.List.{List, [], ◌∷◌}
use Prim.Native.Nat.{ℕ, zero, suc, ◌+◌}
use native.Mathlib.Omega.{arith}
use lib.ListN.{length, take, drop, length-append, length-take, length-drop}
use Rattle.model.specs.declared.Entry.{Entry}
use Rattle.model.specs.Tree.{Tree, slots}
use Rattle.model.specs.Frame.{nodes_in}
use Rattle.model_pack.specs.Pack.{capacity, pieces, in_preorder, packed}
use Rattle.model.proofs.Trees.{slots_in, leaf_bare}
use Rattle.pack_plan.specs.Plan.{over_pieces, packed_nodes}

siblings_nodes : (h : ℕ) (pack : ℕ → ℕ → List Entry → Tree h) (f : ℕ → ℕ)
    → ((s i : ℕ) (p : List Entry) → nodes_in (suc h) (pack s i p) ≡ f (length p))
    → (most n i : ℕ) (es : List Entry) → length (slots_in (suc h) (in_preorder h pack i (pieces most n es))) ≡ over_pieces most n f (length es)
siblings_nodes h pack f each zero n i es = refl
siblings_nodes h pack f each (suc most) n i [] = refl
siblings_nodes h pack f each (suc most) n i (e ∷ es) =
    let c : Tree h = pack i (suc i) (take n (e ∷ es)) in
    let j : ℕ = i + nodes_in (suc h) c in
    let rest : List Entry = drop n (e ∷ es) in
    omega (
      arith,
      length-append (slots (suc h) c) (slots_in (suc h) (in_preorder h pack j (pieces most n rest))),
      each i (suc i) (take n (e ∷ es)),
      ap f (length-take n (e ∷ es)),
      siblings_nodes h pack f each most n j rest,
      ap (over_pieces most n f) (length-drop n (e ∷ es)),
    )

pub packed_nodes_lem : (o h s i : ℕ) (es : List Entry) → nodes_in (suc h) (packed o h s i es) ≡ packed_nodes o h (length es)
packed_nodes_lem o zero s i es = ap suc (leaf_bare es)
packed_nodes_lem o (suc h) s i es = omega (arith, siblings_nodes h (packed o h) (packed_nodes o h) (packed_nodes_lem o h) o (capacity o h) i es)
