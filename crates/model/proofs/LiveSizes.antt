-- The statements of specs/LiveSizes, proved: a child that only the sum of before lets a scan enter holds nothing due. And what clearing takes off the
-- sum of now. Assumes nothing.
use mathlib.Core.Path.{◌≡◌, refl, ap, sym, ◌∙◌}
use mathlib.Core.Bool.{Bool, true, false, ◌&&◌, true≢false}
use mathlib.Core.List.{List, [], ◌∷◌, ◌++◌}
use mathlib.Core.Option.{Option, some}
use Prim.Native.Nat.{ℕ, suc, ◌+◌, ◌≤◌}
use native.Mathlib.Omega.{arith}
use lib.Dec.{leb}
use borrow.Author.Tests.{leb-true, le-leb}
use Rattle.model.specs.declared.Entry.{Entry}
use Rattle.model.specs.declared.Reference.{Reference}
use Rattle.model.specs.declared.Action.TheVariants as Do
use Rattle.model.specs.declared.Effect.TheVariants.{Leave}
use Rattle.model.specs.declared.Totals.{Totals}
use Rattle.model.specs.declared.Direction.{Direction}
use Rattle.model.specs.declared.Direction.TheVariants.{Up, Down}
use Rattle.model.specs.declared.Request.{Request}
use Rattle.model.specs.Tree.{Item, Tree, entries, greatest_key, is_mark, adds, total}
use Rattle.model.specs.Look.{least, starts, ends, figure, listing, until_end, reached, entered, entering, openings_by, openings}
use Rattle.model.specs.Plain.{act, entry_for, below, from, above, held, under, plain_list}
use Rattle.model.specs.Refuse.{tasks_of}
use Rattle.model.specs.LiveSizes.{all_sizes, clear, entered_by_all, entering_by_all, ListsStay, OpensNoMore}
use Rattle.model.proofs.Lists.{by_test, both_left, both_right, all_every}
use Rattle.model.proofs.Plain.{joined_again}
use Rattle.model.proofs.Trees.{list_totals, totals_append, total_list, adds_most}
use Rattle.model.proofs.Thinned.{Thinned, done, stays, thin_same, thin_none, thin_keep, thin_keeps, thin_again, thin_joined}
use Rattle.model.proofs.Scans.{NoneDue, Among, openings_thin, too_little, openings_law, count_thin}

-- THE TWO SUMS

live_most : (es : List Entry) → (list_totals es).size ≤ all_sizes es
live_most [] = omega arith
live_most (e ∷ es) = omega (arith, adds_most e, live_most es)

total_most : (h : ℕ) (i : Item h) → (total h i).size ≤ all_sizes (entries h i)
total_most h i = omega (arith, live_most (entries h i), ap (λ (t : Totals). t.size) (total_list h i))

-- CLEARING

-- a live entry that is set to a mark takes its size off the sum
pub clear_frees : (k size : ℕ) (es : List Entry) (r : Reference) → held k es ≡ some r → is_mark r.place ≡ false
    → (list_totals (plain_list (tasks_of (clear (k ∷ []) size)) es)).size + r.size ≡ (list_totals es).size
clear_frees k size es r h live =
    let mark : Reference = record { place = 0; size = size } in
    let a : List Entry = below k es in
    let c : List Entry = above k (from k es) in
    let now : plain_list (tasks_of (clear (k ∷ []) size)) es ≡ a ++ (entry_for k mark ∷ c) =
    ap (λ (o : Option Reference). a ++ (under k o (act (Do.Set mark) o) ++ c)) h in
    let was : es ≡ a ++ (entry_for k r ∷ c) = sym (joined_again k es) ∙ ap (λ (o : Option Reference). a ++ (under k o Leave ++ c)) h in
    let counted : (adds (entry_for k r)).size ≡ r.size = rw live refl in
    omega (
      arith,
      ap (λ (fs : List Entry). (list_totals fs).size) now,
      ap (λ (fs : List Entry). (list_totals fs).size) was,
      ap (λ (t : Totals). t.size) (totals_append a (entry_for k mark ∷ c)),
      ap (λ (t : Totals). t.size) (totals_append a (entry_for k r ∷ c)),
      counted,
    )

-- SCANS

module _ (q : Request) where
  -- what the rule enters, the rule of before entered
  more_entered : (h : ℕ) (c : Item h) → entered q h c ≡ true → entered_by_all q h c ≡ true
  more_entered h c e =
      let start = starts q.start (greatest_key h c) in
      let enough = leb (least q.sift) (figure (total h c)) in
      let large : least q.sift ≤ figure (total h c) = leb-true (least q.sift) (figure (total h c)) (both_right start enough e) in
      rw (both_left start enough e, le-leb (least q.sift) (all_sizes (entries h c)) (omega (arith, large, total_most h c))) refl

  -- and what that rule alone entered holds nothing due
  left_out : (h : ℕ) (c : Item h) → entered q h c ≡ false → entered_by_all q h c ≡ true → NoneDue q h c
  left_out h c e f =
      let start = starts q.start (greatest_key h c) in
      too_little q h c (second start (leb (least q.sift) (figure (total h c))) (both_left start (leb (least q.sift) (all_sizes (entries h c))) f) e)
    where
      second : (a b : Bool) → a ≡ true → (a && b) ≡ false → b ≡ false
      second true b g e = e
      second false b g e = absurd (true≢false (sym g))

  until_among : (h : ℕ) (cs : List (Item h)) → Thinned (λ c. Unit {0}) (until_end q h cs) cs
  until_among h [] = done
  until_among h (c ∷ cs) =
      stays (by_test (λ zs. Thinned (λ c. Unit {0}) zs cs) (ends q.end (greatest_key h c)) (λ _. until_among h cs) (λ _. thin_none (all_every cs (λ c. tt))))

  reached_among : (d : Direction) (h : ℕ) (cs : List (Item h)) → Thinned (λ c. Unit {0}) (reached q d h cs) cs
  reached_among Up h cs = until_among h cs
  reached_among Down h cs = thin_same cs

  by_all_among : Among q (entering_by_all q)
  by_all_among h cs =
      thin_again (thin_keep (entered_by_all q (suc h)) (all_every (reached q q.direction (suc h) cs) (λ c e. tt))) (reached_among q.direction (suc h) cs)

  openings_kept : (h : ℕ) (n : Tree h) → Thinned (λ es. es ≡ []) (openings q h n) (openings_by q (entering_by_all q) h n)
  openings_kept h n =
      openings_thin q (λ k xs. Unit {0}) (λ k cs g. all_every cs (λ c. tt)) (entering q) (entering_by_all q) by_all_among
      (λ k cs g.
      let among = reached q q.direction (suc k) cs in
      thin_keeps (entered q (suc k)) (entered_by_all q (suc k)) (all_every among (λ c. more_entered (suc k) c)) (all_every among (λ c. left_out (suc k) c)))
      h n tt

pub lists_stay : ListsStay
lists_stay st elsewhere q room x s =
    ap (listing room) (sym (openings_law q st x.height x.root s.whole s.sorted) ∙ thin_joined (openings_kept q x.height x.root))

pub opens_no_more : OpensNoMore
opens_no_more q room x = count_thin (openings_kept q x.height x.root) room
