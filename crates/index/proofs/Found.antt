-- From the search for the tree that a batch names: one that was not found is refused; one that was is known, and what is stored in it keeps the promise
-- of the batch. Assumes nothing.
use Prim.Native.Nat.{ℕ}
use mathlib.Core.Path.{refl, sym, subst}
use mathlib.Core.List.{List}
use Rattle.std.specs.Prelude.{Result, Err}
use Rattle.model.specs.declared.Counts.{Counts}
use Rattle.model.specs.declared.Refusal.{Refusal}
use Rattle.model.specs.Answer.{number}
use Rattle.model.proofs.Refusals.{number_some}
use Rattle.model.specs.Refuse.{Call}
use Rattle.model.specs.Forest.{replant, answer_at}
use Rattle.tree.specs.Pool.{given_in, nodes_in, forest_of, image_of}
use Rattle.tree_spare.specs.Spared.{Spared}
use Rattle.index_promise.specs.Promise.{Batches}
use Rattle.index_named.specs.declared.Named.{Named}
use Rattle.index_named.specs.Promises.{TreeFound, Refused}
use Rattle.index_named.proofs.Trees.{not_left}
use Rattle.index_known.specs.Promises.{Knows}

pub batch_refused : {l : List ℕ} (i : ℕ) (c : Call) (why : Refusal) → Refused l i (number why) → Batches i c l (Err why) l
batch_refused {l = l} i c why r =
    not_left i (answer_at (given_in l) i c (forest_of l)) (λ late. rw late refl) (λ b. b.counts) (λ b. image_of (given_in l) (replant i b.index (forest_of l))) l r (number_some why)

module _ {l : List ℕ} {i : ℕ} {at : Named} (t : TreeFound l i at) where
  pub found_known : Knows l (record { settings = at.settings; height = at.height; spare = at.spare })
  found_known = record { pool = t.pool; spared = subst (λ (j : ℕ). Spared (nodes_in l j) at.spare) (sym t.number) t.spared }

  -- the tree's number is the slot of its root
  pub found_stored : (c : Call) (r : Result Counts Refusal) (l' : List ℕ) → Batches at.settings.root c l r l' → Batches i c l r l'
  found_stored c r l' = subst (λ (j : ℕ). Batches j c l r l') t.number
