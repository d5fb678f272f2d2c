-- `get_key` meets its contract: what the search of the leaf finds is what is listed of the key. Assumes nothing.
use mathlib.Core.Path.{ap, ◌∙◌}
use mathlib.Core.List.{List, [], ◌∷◌}
use native.Mathlib.Omega.{arith}
use Rattle.words.specs.Words.{words}
use Rattle.slots_raw.specs.declared.Row.{Row}
use Rattle.std.specs.Prelude.{Ok}
use Rattle.slots.specs.Nodes.{rows_at}
use Rattle.model.specs.declared.Entry.{Entry}
use Rattle.tree.specs.Bridge.{entry_of}
use Rattle.look_output.specs.Output.{page, enlist_all}
use Rattle.look.proofs.Descents.{grown_sorted, found_inside, found_listed}
use Rattle.look.proofs.lookup.get_key.Goals as goal

pub search-requires : goal.search-requires
search-requires c =
    let a = c.args in
    grown_sorted a.st (words a.pool.now) 0 c.leaf_for-leaf.result c.leaf_for-leaf.ensures.grown

pub row_at-row-requires : goal.row_at-row-requires
row_at-row-requires c =
    let a = c.args in
    let leaf = c.leaf_for-leaf in
    let q = c.search in
    let s = grown_sorted a.st (words a.pool.now) 0 leaf.result leaf.ensures.grown in
    record {
      held = s.held;
      slot = s.slot;
      within = omega (arith, found_inside a.key (rows_at a.st (words a.pool.now) leaf.result) q.result c.in-Ok.i q.ensures c.in-Ok.is);
    }

pub returns-in-Ok : goal.returns-in-Ok
returns-in-Ok c =
    let a = c.args in
    let leaf = c.leaf_for-leaf in
    let q = c.search in
    c.list_row.ensures ∙ ap (λ (r : Row). enlist_all a.room (entry_of r ∷ []) (page a.out.now a.l)) c.row_at-row.ensures
    ∙ ap (λ (es : List Entry). enlist_all a.room es (page a.out.now a.l))
    (found_listed a.st (words a.pool.now) a.height a.key leaf.result leaf.ensures q.result (Ok c.in-Ok.i) q.ensures c.in-Ok.is)

pub returns-in-Err : goal.returns-in-Err
returns-in-Err c =
    let a = c.args in
    let leaf = c.leaf_for-leaf in
    let q = c.search in
    ap (λ (es : List Entry). enlist_all a.room es (page a.out.now a.l))
    (found_listed a.st (words a.pool.now) a.height a.key leaf.result leaf.ensures q.result _ q.ensures c.in-Err.is)
