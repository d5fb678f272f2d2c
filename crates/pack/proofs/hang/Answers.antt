-- `hang` meets its contract: the row is what the child's rows make, and behind the last row is at the end. Assumes nothing.
use mathlib.Core.Path.{ap, ◌∙◌}
use mathlib.Core.List.{[], ◌∷◌, ◌++◌}
use Rattle.words.specs.Words.{words}
use Rattle.slots_raw.specs.declared.Row.{Row}
use Rattle.slots.specs.Nodes.{nodes, rows_at, put_rows}
use Rattle.slots.proofs.Nodes.{become, at_end}
use Rattle.pack.specs.Build.{hung}
use Rattle.pack.proofs.hang.Goals as goal

pub returns : goal.returns
returns c =
    let a = c.args in
    let W = words a.pool.now in
    let rows = rows_at a.st W a.s in
    become a.st W (words c.insert_row.new.pool) _ (hung (nodes a.st W) a.below a.s a.child) c.insert_row.ensures
    (ap (put_rows (nodes a.st W) a.s)
    (at_end rows (c.weigh-row.result ∷ []) a.i c.requires.rows ∙ ap (λ (r : Row). rows ++ (r ∷ [])) c.weigh-row.ensures))
