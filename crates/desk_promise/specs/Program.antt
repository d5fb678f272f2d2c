-- What the desk program writes for any text on its standard input. Assumes nothing.
use Rattle.std.specs.Prelude.{ℕ, List, [], ◌∷◌, ◌++◌}
use Rattle.model.specs.declared.Limits.{Limits}
use Rattle.model.specs.declared.PoolSettings.{PoolSettings}
use Rattle.model.specs.Sound.{handed}
use Rattle.model.specs.Tree.{Index}
use Rattle.model.specs.Forest.{tree_of, new_forest}
use Rattle.desk_lines.specs.Lines.{lines_of}
use Rattle.desk_orders.specs.Orders.{wanted}
use Rattle.desk_promise.specs.Replies.{Reply, reply}

-- 16 nodes; order 4 and minimum 2, of either tree
abbrev pub desk_tree : Limits
desk_tree = record { order = 4; minimum = 2 }

abbrev pub desk : PoolSettings
desk = record { nodes = 16; first = desk_tree; second = desk_tree }

-- it keeps to tree 0: the answer to a line, and that tree afterwards
abbrev pub answered : List ℕ → Index → Reply Index
answered l x = reply (λ y. y) x (handed desk 0) (wanted l) x

-- the answers to lines, one after the other
abbrev pub answers : List (List ℕ) → Index → List ℕ
answers [] x = []
answers (l ∷ ls) x = (answered l x).text ++ answers ls (answered l x).after

abbrev pub program : List ℕ → List ℕ
program text = answers (lines_of text) (tree_of 0 (new_forest desk.nodes))
