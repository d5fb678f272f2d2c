-- Packings worked out: what is computed, and what is wanted. Assumes nothing.
use Rattle.std.specs.Prelude.{List, [], ◌∷◌, map, ℕ, zero, suc}
use Rattle.model.specs.Lists.{up_from}
use Rattle.model.specs.Tree.{Tree, Index, slots_of}
use Rattle.model.specs.Plain.{entry_for}
use Rattle.model.specs.Forest.{tree_of, new_forest}
use Rattle.model.specs.Cases.{Case, case, both, ref, Shape, shape, below, pool, grown, same_on_second}
use Rattle.model_pack.specs.PackForest.{packed_forest, packed_from, pack_forest_refusal}

-- the slots of the root's children, of a tree that is no leaf
abbrev pub child_slots_of : Index → List ℕ
child_slots_of x = go x.height x.root
  where
    go : (h : ℕ) → Tree h → List ℕ
    go zero n = []
    go (suc h) n = map (λ c. c.slot) n.items

abbrev pub readings : List Case
readings =
    -- P packed: the last leaf may be below the minimum
    case Shape (shape (tree_of 0 (packed_from pool (grown [])))) (below ((1 ∷ 2 ∷ 3 ∷ 4 ∷ []) ∷ (5 ∷ []) ∷ []))
    -- seventeen entries: the first interior's leaves have the slots behind it, and then comes the second interior
    ∷ case (List (List ℕ) × List ℕ)
    (let x = tree_of 0 (packed_forest pool (map (λ k. entry_for k (ref k)) (up_from 1 17)) []) in ((shape x).leaves, child_slots_of x))
    ((1 ∷ 2 ∷ 3 ∷ 4 ∷ []) ∷ (5 ∷ 6 ∷ 7 ∷ 8 ∷ []) ∷ (9 ∷ 10 ∷ 11 ∷ 12 ∷ []) ∷ (13 ∷ 14 ∷ 15 ∷ 16 ∷ []) ∷ (17 ∷ []) ∷ [], 2 ∷ 7 ∷ [])
    -- both trees packed: the second's other nodes come behind the first's
    ∷ case (List (List ℕ)) (let f = packed_from pool (grown same_on_second) in slots_of (tree_of 0 f) ∷ slots_of (tree_of 1 f) ∷ [])
    ((0 ∷ 2 ∷ 3 ∷ []) ∷ (1 ∷ 4 ∷ 5 ∷ []) ∷ [])
    -- 17 before 18 before 7, and a target that has just the nodes that are needed, one for the second tree's leaf
    ∷ case (List ℕ)
    (let f = grown [] in
    pack_forest_refusal pool (both 3 4 1) f f ∷ pack_forest_refusal pool (both 3 4 2) f f
    ∷ pack_forest_refusal pool (both 3 4 2) f (new_forest 3) ∷ pack_forest_refusal pool (both 4 4 2) f (new_forest 4) ∷ [])
    (17 ∷ 18 ∷ 7 ∷ 0 ∷ [])
    ∷ []
