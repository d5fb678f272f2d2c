-- No interior passes 2 × order while a batch runs: it begins with at most order children, and each task adds one at most. Assumes nothing.
use mathlib.Core.Bool.{false}
use mathlib.Core.List.{List, [], ◌∷◌, ◌++◌}
use Prim.Native.Nat.{ℕ, zero, suc, ◌≤◌}
use native.Mathlib.Omega.{arith}
use native.Mathlib.Nat.{le_trans}
use lib.ListN.{length}
use Rattle.model.specs.declared.Counts.{Counts}
use Rattle.model.specs.declared.Settings.{Settings}
use Rattle.model.specs.Lists.{All, none, one}
use Rattle.model.specs.Tree.{Tree, Index, greatest_key}
use Rattle.model.specs.Plain.{Task}
use Rattle.model.specs.Change.{Run, Walked, walk, change, no_ceiling, change_root}
use Rattle.model.specs.Sound.{InLimits, Stocked, Whole, Sorted}
use Rattle.model.specs.Promises.{flat, joined, Rising, Given}
use Rattle.model.specs.Demands.{Uncrowded}
use Rattle.model.proofs.Lists.{all_left, all_right, all_map, ordered_left, ordered_right}
use Rattle.model.proofs.Plain.{list_sorted}
use Rattle.model.proofs.Trees.{flat_append}
use Rattle.model.proofs.Changes.{did_fewer, did_left, did_rising, Ranged, Strolled, strolled, first_ranged, none_passed, change_law}
use Rattle.model.proofs.Batches.{Fine, ready_few, calling, called, after_call, call_owes, call_settled, call_fewer}

module _ (st : Settings) where
  -- tasks that may come to a node may come to each of its children
  each_given : (h : ℕ) (us : List Task) → Rising us → length us ≤ st.order
      → {ns : List (Tree h)} → All (Stocked st) ns → All (Whole st h) (joined ns) → Sorted (flat h (joined ns))
      → All (λ c. Given st h c us) ns
  each_given h us rising short none w s = none
  each_given h us rising short (one {x = c} {xs = ns} g gs) w s =
      let t : Sorted (flat h c.items ++ flat h (joined ns)) = rw (flat_append h c.items (joined ns)) at s in
      one (record {
        whole = all_left c.items (joined ns) w;
        few = g.few;
        sorted = ordered_left (flat h c.items) (flat h (joined ns)) t;
        rising = rising;
        short = short;
      })
      (each_given h us rising short gs (all_right c.items (joined ns) w) (ordered_right (flat h c.items) (flat h (joined ns)) t))

  pub uncrowded : InLimits st → (h : ℕ) (n : Tree h) (ts : List Task) (run : Run) → Given st h n ts → Uncrowded st h n ts run
  uncrowded lim zero n ts run g = tt
  uncrowded lim (suc h) n ts run g = λ turns ceiling.
      let w : Walked (Tree h) = walk st (greatest_key (suc h)) (change st h) turns ceiling [] n.items false ts run in
      let r : Ranged st h [] n.items = first_ranged st h n.items g.whole g.sorted in
      let y : Strolled st h turns ceiling ts [] n.items false run w =
      strolled st h lim (change st h) (change_law st lim h) turns ceiling [] n.items false ts run r g.rising (none_passed st h ts)
      g.short in (
        omega (arith, y.grown, g.few, g.short),
        all_map (λ c q. uncrowded lim h c w.tasks w.run q)
            (each_given h w.tasks (did_rising y.did g.rising) (le_trans (did_fewer y.did) g.short) y.stocked y.whole
            (rw y.did.list (list_sorted y.did.taken r.sorted))),
      )

  fine_given : (x : Index) (ts : List Task) → length ts ≤ st.order → Fine st x → Rising ts → Given st x.height x.root ts
  fine_given x ts short f rising =
      record { whole = f.whole; few = ready_few st x.height x.root f.ready; sorted = f.sorted; rising = rising; short = short }

  -- the index and the tasks after some calls of the root
  pub root_given : (lim : InLimits st) (calls : ℕ) (x : Index) (ts : List Task) (c : Counts) → length ts ≤ st.order → Fine st x → Rising ts
      → All (λ t. t.key ≤ no_ceiling) ts
      → let b = change_root st calls x ts c in Given st b.index.height b.index.root b.tasks
  unfolding calling called after_call
  root_given lim zero x ts c short f rising low = fine_given x ts short f rising
  root_given lim (suc calls) x [] c short f rising low = fine_given x [] short f rising
  root_given lim (suc calls) x (t ∷ ts) c short f rising low =
      let owes = call_owes st lim x t ts c f rising short low in
      let root = call_settled st lim x t ts c f rising short low in
      let less = call_fewer st lim x t ts c f rising short low in
      root_given lim calls (after_call st lim x t ts c f rising short low) (called st lim x t ts c f rising short low).tasks
      (called st lim x t ts c f rising short low).run.counts (omega (arith, less)) root.fine (did_rising owes.did rising) (did_left owes.did low)
