-- `crown` meets its contract: a kind and two rows put into a node without rows (`two_rows`). Assumes nothing.
use mathlib.Core.Path.{◌≡◌, ap, ◌∙◌}
use mathlib.Core.List.{List, [], ◌∷◌}
use Prim.Native.Nat.{◌<◌}
use native.Mathlib.Omega.{arith}
use lib.ListN.{length, set}
use Rattle.words.specs.Words.{words}
use Rattle.slots_raw.specs.declared.Row.{Row}
use Rattle.slots.specs.Nodes.{Node, nodes, nth, rows_at, put_rows, put_kind, put_in}
use Rattle.batch_root.specs.Roots.{crowned}
use Rattle.slots.proofs.Nodes.{then, become, length_nodes}
use Rattle.slots.proofs.Pairs.{kept_same, own_rows}
use Rattle.batch_root.proofs.Sets.{two_rows}
use Rattle.batch_root.proofs.grow.crown.Goals as goal

pub set_kind-requires : goal.set_kind-requires
set_kind-requires c = record { held = c.requires.held; slot = c.requires.root }

pub insert_row-requires : goal.insert_row-requires
insert_row-requires c =
    let held = c.set_kind.ensures.held in
    let none = ap length (let it : rows_at c.args.st (words c.set_kind.new.pool) c.args.st.root ≡ [] = let w = c.set_kind in
    kept_same c.args.st (words c.args.pool.now) (words w.new.pool) c.args.st.root c.args.st.root _ w.ensures
    c.requires.root
    ∙ c.requires.bare in it) in
    record {
      held = held;
      slot = c.requires.root;
      within = omega (arith, none);
      room = omega (arith, none, held.shape.limits.wide, held.shape.roomy);
    }

pub insert_row-requires-2 : goal.insert_row-requires-2
insert_row-requires-2 c =
    let st = c.args.st in
    let w = c.insert_row in
    let first = c.weigh-a.result in
    let W₁ = words c.set_kind.new.pool in
    let W₂ = words w.new.pool in
    let inside : st.root < st.nodes = c.requires.root in
    let mine : length (rows_at st W₂ st.root) ≡ 1 =
    ap length (own_rows st W₁ W₂ st.root (put_in (rows_at st W₁ st.root) 0 (first ∷ [])) w.ensures inside ∙ ap (λ (l : List Row). put_in l 0 (first ∷ [])) (let it : rows_at c.args.st (words c.set_kind.new.pool) c.args.st.root ≡ [] = let w = c.set_kind in
    kept_same c.args.st (words c.args.pool.now) (words w.new.pool) c.args.st.root c.args.st.root _ w.ensures
    c.requires.root
    ∙ c.requires.bare in it)) in
    record { held = w.ensures.held; slot = inside; within = omega arith; room = omega (arith, w.ensures.held.shape.limits.wide, w.ensures.held.shape.roomy) }

pub returns : goal.returns
returns c =
    let a = c.args in
    let lower = c.weigh-a in
    let upper = c.weigh-b in
    let W₀ = words a.pool.now in
    let W₁ = words c.set_kind.new.pool in
    let W₂ = words c.insert_row.new.pool in
    let W₃ = words c.insert_row-2.new.pool in
    let ns = nodes a.st W₀ in
    let f : List Node → List Node = λ ms. put_rows ms a.st.root (put_in (nth ms a.st.root).rows 0 (lower.result ∷ [])) in
    let g : List Node → List Node = λ ms. put_rows ms a.st.root (put_in (nth ms a.st.root).rows 1 (upper.result ∷ [])) in
    let inside : a.st.root < length (nodes a.st W₀) = omega (arith, length_nodes a.st W₀, c.requires.root) in
    become a.st W₀ W₃ (g (f (put_kind ns a.st.root 2))) (crowned a.st.root ns a.height a.lower a.upper)
    (then g a.st W₀ W₂ W₃ (f (put_kind ns a.st.root 2)) (then f a.st W₀ W₁ W₂ (put_kind ns a.st.root 2) c.set_kind.ensures c.insert_row.ensures)
    c.insert_row-2.ensures)
    (two_rows ns a.st.root 2 lower.result upper.result inside c.requires.bare
    ∙ (λ j. set ns a.st.root (record { kind = 2; rows = lower.ensures j ∷ upper.ensures j ∷ [] })))
