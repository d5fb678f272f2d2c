-- A separator is the greatest key below its node, wherever nodes are stocked and keys ascend: so in a sound index, and once an over-full child
-- is shared out. Assumes nothing.
use mathlib.Core.Path.{◌≡◌, sym, ◌∙◌}
use mathlib.Core.List.{List, [], ◌∷◌, ◌++◌, map, reverse_aux}
use Prim.Native.Nat.{ℕ, zero, suc, ◌<◌}
use native.Mathlib.Omega.{arith}
use Rattle.model.specs.declared.Entry.{Entry}
use Rattle.model.specs.declared.Settings.{Settings}
use Rattle.model.specs.Lists.{times, All, none, one}
use Rattle.model.specs.Tree.{Item, Tree, entries}
use Rattle.model.specs.Share.{Place, share_out}
use Rattle.model.specs.declared.ChangeResult.TheVariants.{Split}
use Rattle.model.specs.Sound.{Stocked, Whole, Sorted}
use Rattle.model.specs.Promises.{flat, joined}
use Rattle.model.specs.Demands.{Greatest, Separated, SharedSeparators, SoundSeparators}
use Rattle.model.proofs.Lists.{all_append, all_map, all_turned, all_drop, ordered_left, ordered_right, hit_same}
use Rattle.model.proofs.Trees.{Ends, separator_ends, ends_under, flat_joined, back_joined}
use Rattle.model.proofs.Settles.{Settles, settles}
use Rattle.model.proofs.Changes.{whole_joined, whole_back, joined_whole}

-- the last of ascending keys is the greatest
last_greatest : {es : List Entry} {k : ℕ} → Ends es k → Sorted es → Greatest k es
last_greatest {es} {k} e s =
    record { among = rw e.whole (stands e.init); most = all_map (λ x h. omega arith) (ends_under {m = suc k} e s (omega arith)) }
  where
    stands : (init : List Entry) → 0 < times k (map (λ x. x.key) (init ++ (e.last ∷ [])))
    stands [] = omega (arith, hit_same k e.last.key (sym e.key))
    stands (x ∷ xs) = omega (arith, stands xs)

module _ (st : Settings) where
  -- items side by side, from what holds of each
  row_separated : (h : ℕ) → ((i : Item h) → Whole st h i → Sorted (entries h i) → Separated h i)
      → {xs : List (Item h)} → All (Whole st h) xs → Sorted (flat h xs) → All (Separated h) xs
  row_separated h f none s = none
  row_separated h f (one {x = x} {xs = xs} w ws) s =
      one (f x w (ordered_left (entries h x) (flat h xs) s)) (row_separated h f ws (ordered_right (entries h x) (flat h xs) s))

  separated : (h : ℕ) (i : Item h) → Whole st h i → Sorted (entries h i) → Separated h i
  separated zero e w s = tt
  separated (suc h) n w s = (last_greatest (separator_ends st (suc h) n w) s, row_separated h (separated h) w.1 s)

pub sound_separators_lem : SoundSeparators
sound_separators_lem st elsewhere x s = row_separated st x.height (separated st x.height) s.whole s.sorted

pub shared_separators_lem : SharedSeparators
shared_separators_lem st h before c after unused lim over b w g s =
    let p : Place (Tree h) = share_out st before c after unused in
    let stocked : All (Stocked st) before = all_map (λ n q. q.0) b in
    let law : Settles st 1 before c after unused p = settles st lim Split c unused over stocked (all_map (λ n q. q.0) g) in
    let same : joined (reverse_aux p.before p.rest) ≡ joined (reverse_aux before (c ∷ after)) =
    back_joined p.before p.rest ∙ law.same ∙ sym (back_joined before (c ∷ after)) in
    let below : All (Whole st h) (joined (reverse_aux before (c ∷ after))) =
    rw (back_joined before (c ∷ after)) (all_append (whole_back st h b) (all_append w (whole_joined st h g))) in
    row_separated st (suc h) (separated st (suc h))
    (joined_whole st h (reverse_aux p.before p.rest)
    (all_turned p.before p.rest (rw law.stepped (all_drop law.steps stocked)) law.stocked)
    (rw same below))
    (rw (flat_joined h (reverse_aux p.before p.rest), same, sym (flat_joined h (reverse_aux before (c ∷ after)))) s)
