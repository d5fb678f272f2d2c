-- What document 02 demands of packing, said of the definitions. proofs/Packing.antt and proofs/Packs.antt prove the statements here. Assumes nothing.
use Rattle.std.specs.Prelude.{◌≡◌, cond, List, [], ◌∷◌, map, ℕ, zero, suc, ◌≤◌, length, eqb}
use Rattle.model.specs.declared.Entry.{Entry}
use Rattle.model.specs.declared.Settings.{Settings}
use Rattle.model.specs.Lists.{concat}
use Rattle.model.specs.Tree.{Tree, Index, len, depth, entries_of, slots_of}
use Rattle.model.specs.Sound.{Sound}

-- LEVELS

-- the lengths of the nodes of height j, left to right, of a tree of height h
abbrev pub lengths_at : ℕ → (h : ℕ) → Tree h → List ℕ
lengths_at j zero n = cond (eqb j zero) (len n ∷ []) []
lengths_at j (suc h) n = cond (eqb j (suc h)) (len n ∷ []) (concat (map (lengths_at j h) n.items))

-- of an index; the nodes of height 0 are its leaves
abbrev pub level : ℕ → Index → List ℕ
level j x = lengths_at j x.height x.root

-- every node is full but the last one
abbrev pub Full : ℕ → List ℕ → Type 0
Full o [] = Unit {0}
Full o (n ∷ []) = n ≤ o
Full o (n ∷ (m ∷ ns)) = (n ≡ o) × Full o (m ∷ ns)

-- WHAT PACKING SHOULD GIVE stands in specs/PackForest; this is what it is measured against

-- some index of that order over these entries, sound with whatever is in use elsewhere in its pool
pub record Over (o : ℕ) (es : List Entry) (y : Index) : Type 0 where
  pub settings : Settings
  pub elsewhere : List ℕ
  pub order : settings.order ≡ o
  pub sound : Sound settings elsewhere y
  pub entries : entries_of y ≡ es

-- x is, in each level, as small as any such index, and so it has the fewest leaves; it is not deeper; and it needs no more nodes
pub record Least (o : ℕ) (es : List Entry) (x : Index) : Type 0 where
  pub levels : (y : Index) → Over o es y → (j : ℕ) → j ≤ x.height → length (level j x) ≤ length (level j y)
  pub shallow : (y : Index) → Over o es y → depth x ≤ depth y
  pub nodes : (y : Index) → Over o es y → length (slots_of x) ≤ length (slots_of y)
