-- A turn of the walk among children: the nodes hold what the model's place says. Laws over lists of nodes alone. Assumes nothing.
use mathlib.Core.Path.{◌≡◌, refl, sym, ap, ◌∙◌}
use mathlib.Core.Logic.{◌≢◌}
use mathlib.Core.List.{List, ◌∷◌, ◌++◌, reverse_aux}
use Prim.Native.Nat.{ℕ, suc, ◌+◌, ◌≤◌, ◌<◌}
use native.Mathlib.Omega.{arith}
use native.Mathlib.Decide.{dec_lt}
use Rattle.slots.specs.Nodes.{nth}
use Rattle.slots.specs.Nodes as S
use Rattle.model.specs.declared.Counts.{Counts}
use Rattle.model.specs.Lists.{hit, times, All}
use Rattle.model.specs.Tree.{Item, Tree, slots}
use Rattle.model.specs.Plain.{Task}
use Rattle.model.specs.Share.{Place}
use Rattle.model.specs.declared.ChangeResult.{ChangeResult}
use Rattle.model.specs.Change.{Outcome}
use Rattle.model.specs.Promises.{joined, back}
use Rattle.model.proofs.Lists.{all_append, all_left, all_right, all_head, all_tail, hit_same, times_append}
use Rattle.model.proofs.Trees.{back_joined, slots_in, own, own_turned, slots_joined}
use Rattle.tree.specs.Bridge.{cells, cells_of, Stands, Holds, unused_of, Blank, Apart, Frame}
use Rattle.tree.proofs.Cells.{used_tree, agree_items, turned_cells, cells_rest, cells_before, slots_turned}
use Rattle.tree.proofs.Unused.{used_none, unused_once}
use Rattle.batch_share.specs.Children.{inner}
use Rattle.batch_share.specs.Promises.{Loose, Settled}
use Rattle.batch_node.specs.Promises.{Answers}

-- THE SLOTS of a child and its siblings, and of their parent s
pub parts : (x h s : ℕ) (before : List (Tree h)) (c : Tree h) (after : List (Tree h))
    → times x (slots (suc (suc h)) (inner h s (reverse_aux before (c ∷ after))))
    ≡ hit x s + (times x (slots_in (suc h) before) + (times x (slots (suc h) c) + times x (slots_in (suc h) after)))
parts x h s before c after =
    omega (arith, slots_turned x (suc h) before (c ∷ after), times_append x (slots (suc h) c) (slots_in (suc h) after))

-- of children side by side: their own, and those of their items
pub deep : (x h s : ℕ) (b r : List (Tree h))
    → times x (slots (suc (suc h)) (inner h s (reverse_aux b r))) ≡ hit x s + (own x b + own x r + times x (slots_in h (back b ++ joined r)))
deep x h s b r =
    omega (arith, slots_joined x h (reverse_aux b r), own_turned x b r, ap (λ (ys : List (Item h)). times x (slots_in h ys)) (back_joined b r))

-- where used and unused slots are what they were together, no slot is taken twice
pub apart_kept : (ns : List S.Node) (h : ℕ) (t u : Tree h) (unused : List ℕ) → Holds ns h t → Apart h t
    → ((x : ℕ) → times x (slots (suc h) u) + times x unused ≡ times x (slots (suc h) t) + times x (unused_of ns)) → Apart h u
apart_kept ns h t u unused k a same x = by (dec_lt 0 (times x (slots (suc h) t)))
  where
    by : Dec (0 < times x (slots (suc h) t)) → times x (slots (suc h) u) ≤ 1
    by (yes g) = omega (arith, same x, a x, used_none ns x (used_tree ns h t k x g))
    by (no g) = omega (arith, same x, unused_once ns x)

-- A CHILD AMONG ITS SIBLINGS, held by the nodes
pub record Among (h s : ℕ) (ns : List S.Node) (before : List (Tree h)) (child : Tree h) (after : List (Tree h)) : Type 0 where
  pub holds : Holds ns (suc h) (inner h s (reverse_aux before (child ∷ after)))
  pub apart : Apart (suc h) (inner h s (reverse_aux before (child ∷ after)))

module _ {h s : ℕ} {ns : List S.Node} {before : List (Tree h)} {child : Tree h} {after : List (Tree h)} (a : Among h s ns before child after) where
  kids : All (Stands ns) (cells_of (suc h) (reverse_aux before (child ∷ after)))
  kids = all_tail a.holds

  rest : All (Stands ns) (cells_of (suc h) (child ∷ after))
  rest = cells_rest (Stands ns) (suc h) before (child ∷ after) kids

  pub child_holds : Holds ns h child
  child_holds = all_left (cells (suc h) child) (cells_of (suc h) after) rest

  pub child_apart : Apart h child
  child_apart x = omega (arith, a.apart x, parts x h s before child after)

  -- THE CHILD CHANGED
  module _ {ms : List S.Node} {o : Outcome (Tree h)} {ts : List Task} {r : ChangeResult} {c : Counts} (done : Answers h ns ms child o ts r c) (slot : o.node.slot ≡ child.slot)
      (same : (x : ℕ) → times x (slots (suc h) o.node) + times x o.run.unused ≡ times x (slots (suc h) child) + times x (unused_of ns)) where
    -- used and unused slots together are what they were
    pub loose_same : (x : ℕ)
        → times x (slots (suc (suc h)) (inner h s (reverse_aux before (o.node ∷ after)))) + times x o.run.unused
        ≡ times x (slots (suc (suc h)) (inner h s (reverse_aux before (child ∷ after)))) + times x (unused_of ns)
    loose_same x = omega (arith, parts x h s before child after, parts x h s before o.node after, same x)

    -- a slot of the rest of the tree is as it was
    kept : (x : ℕ) → 0 < times x (slots (suc (suc h)) (inner h s (reverse_aux before (child ∷ after)))) → times x (slots (suc h) child) ≡ 0 → nth ms x ≡ nth ns x
    kept x g e = done.frame x (used_tree ns (suc h) (inner h s (reverse_aux before (child ∷ after))) a.holds x g) e

    pub loosened : Loose h s ms before child o.node after
    loosened =
        record {
          parent =
              kept s (omega (arith, parts s h s before child after, hit_same s s refl)) (omega (arith, parts s h s before child after, hit_same s s refl, a.apart s))
              ∙ all_head a.holds;
          kids = turned_cells (Stands ms) (suc h) before (o.node ∷ after)
              (agree_items ns ms (suc h) before
              (λ x g. kept x (omega (arith, parts x h s before child after)) (omega (arith, parts x h s before child after, a.apart x)))
              (cells_before (Stands ns) (suc h) before (child ∷ after) kids))
              (all_append done.holds
              (agree_items ns ms (suc h) after
              (λ x g. kept x (omega (arith, parts x h s before child after)) (omega (arith, parts x h s before child after, a.apart x)))
              (all_right (cells (suc h) child) (cells_of (suc h) after) rest)));
          slot = slot;
          apart = apart_kept ns (suc h) (inner h s (reverse_aux before (child ∷ after))) (inner h s (reverse_aux before (o.node ∷ after))) o.run.unused
              a.holds a.apart loose_same;
        }

-- THE WALK among the children of slot s, begun with the tree t₀ in the nodes ns₀
pub record Strolling (h s : ℕ) (ns₀ ns : List S.Node) (t₀ : Tree (suc h)) (before rest : List (Tree h)) : Type 0 where
  pub holds : Holds ns (suc h) (inner h s (reverse_aux before rest))
  -- used and unused slots together are what they were
  pub same : (x : ℕ)
      → times x (slots (suc (suc h)) (inner h s (reverse_aux before rest))) + times x (unused_of ns) ≡ times x (slots (suc (suc h)) t₀) + times x (unused_of ns₀)
  pub frame : Frame ns₀ ns (slots (suc (suc h)) t₀)
  pub empty : Blank ns

-- the place after a turn
module _ {h s : ℕ} {ns₀ ns ms ls : List S.Node} {t₀ : Tree (suc h)} {b₀ r₀ before : List (Tree h)} {old : Tree h} {after : List (Tree h)} {o : Outcome (Tree h)} {p : Place (Tree h)}
    {ts : List Task} {r : ChangeResult} {c : Counts} (stroll : Strolling h s ns₀ ns t₀ b₀ r₀) (a : Among h s ns before old after)
    (sought : reverse_aux before (old ∷ after) ≡ reverse_aux b₀ r₀)
    (done : Answers h ns ms old o ts r c) (slot : o.node.slot ≡ old.slot)
    (kept : (x : ℕ) → times x (slots (suc h) o.node) + times x o.run.unused ≡ times x (slots (suc h) old) + times x (unused_of ns))
    (settled : Settled h s ms ls (reverse_aux before (o.node ∷ after)) p)
    (turned : (x : ℕ) → own x p.before + own x p.rest + times x (slots_in h (back p.before ++ joined p.rest)) + times x p.unused
    ≡ own x b₀ + own x r₀ + times x (slots_in h (back b₀ ++ joined r₀)) + times x (unused_of ns)) where
  slots_sought : (x : ℕ) → times x (slots (suc (suc h)) (inner h s (reverse_aux before (old ∷ after)))) ≡ times x (slots (suc (suc h)) (inner h s (reverse_aux b₀ r₀)))
  slots_sought x = ap (λ (ys : List (Tree h)). times x (slots (suc (suc h)) (inner h s ys))) sought

  pub strolled_on : Strolling h s ns₀ ls t₀ p.before p.rest
  strolled_on =
      record {
        holds = settled.holds;
        same = λ x. omega (arith, deep x h s p.before p.rest, deep x h s b₀ r₀, turned x, stroll.same x, ap (times x) settled.unused);
        frame = λ x u e.
            let same₀ : nth ns x ≡ nth ns₀ x = stroll.frame x u e in
            let u₁ : (nth ns x).kind ≢ 0 = λ q. u (ap (λ (n : S.Node). n.kind) (sym same₀) ∙ q) in
            let out : times x (slots (suc (suc h)) (inner h s (reverse_aux before (old ∷ after)))) ≡ 0 =
            omega (arith, stroll.same x, e, used_none ns₀ x u, slots_sought x) in
            let same₁ : nth ms x ≡ nth ns x = done.frame x u₁ (omega (arith, out, parts x h s before old after)) in
            let u₂ : (nth ms x).kind ≢ 0 = λ q. u₁ (ap (λ (n : S.Node). n.kind) (sym same₁) ∙ q) in
            let out₂ : times x (slots (suc (suc h)) (inner h s (reverse_aux before (o.node ∷ after)))) ≡ 0 =
            omega (arith, out, used_none ns x u₁, loose_same a done slot kept x) in
            settled.frame x u₂ out₂ ∙ same₁ ∙ same₀;
        empty = settled.empty;
      }
