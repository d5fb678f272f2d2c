-- What the walk over a tree carries from node to node: the last key that it has met, and what it has found. Assumes nothing.
use Rattle.std.specs.Prelude.{ℕ, zero, suc, ◌<◌, List, [], ◌∷◌, Option, Some, None}
use Rattle.model.specs.declared.Entry.{Entry}
use Rattle.model.specs.declared.Totals.{Totals}
use Rattle.model.specs.Tree.{no_totals, plus}
use Rattle.survey_node.specs.declared.Part.{Part}

-- THE LAST KEY that a walk has met, if it has met one

-- after an entry, and after some
abbrev pub met : Entry → Option ℕ
met e = Some e.key

abbrev pub after : Option ℕ → List Entry → Option ℕ
after p [] = p
after p (e ∷ es) = after (met e) es

-- the key of e is above it, if there is one
abbrev pub Beyond : Option ℕ → Entry → Type 0
Beyond None e = Unit {0}
Beyond (Some k) e = k < e.key

-- WHAT IT HAS FOUND

-- at the start of a node's rows, and after another row
abbrev pub begun : Option ℕ → ℕ → Part
begun p left = record { last = p; totals = no_totals; left = left }

abbrev pub grown : Totals → ℕ → Totals → ℕ → Part
grown sum key t left = record { last = Some key; totals = plus sum t; left = left }

-- how many items a root has at least
abbrev pub least_root : ℕ → ℕ
least_root zero = 0
least_root (suc h) = 2
