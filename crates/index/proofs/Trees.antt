-- The statements of specs/Trees, proved of whatever keeps the promises. Assumes nothing.
use mathlib.Core.Path.{◌≡◌, refl, sym, ap, ◌∙◌, subst}
use mathlib.Core.Logic.{◌≢◌}
use mathlib.Core.Bool.{cond}
use mathlib.Core.List.{List, [], ◌++◌}
use Prim.Native.Nat.{ℕ, zero, suc, ◌+◌, ◌≤◌, ◌<◌}
use native.Mathlib.Decide.{ℕ_discrete}
use native.Mathlib.Omega.{arith}
use lib.ListN.{length, drop}
use lib.Dec.{ltb}
use borrow.Author.Tests.{le-ltb, lt-ltb, eq-eqb, ne_eqb}
use Rattle.words.specs.Words.{words}
use Rattle.model.specs.declared.PoolSettings.{PoolSettings}
use Rattle.std.specs.Prelude.{Ok, Err}
use Rattle.model.specs.declared.Counts.{Counts}
use Rattle.look_output.specs.Output.{room_in}
use Rattle.look_portion.specs.Portion.{portion}
use Rattle.model.specs.Answer.{Answer, refused, done, told}
use Rattle.model.specs.Lists.{times}
use Rattle.model.specs.Tree.{Index, slots_of, totals_of}
use Rattle.model.specs.Look.{scan}
use Rattle.model.specs.Frame.{write_node}
use Rattle.model.specs.Refuse.{Call, get, refusal}
use Rattle.model.specs.Sound.{handed}
use Rattle.model.specs.Forest.{Forest, Planted, index_with, tree_of, planted_of, planted, other, replant, named, refusal_at, batch_at}
use Rattle.model.specs.TwoTrees.{but7}
use Rattle.model.proofs.Lists.{by_test, times_append}
use Rattle.model.proofs.Answers.{refused_done}
use Rattle.model.proofs.Forest.{replant_other, other_refusals_lem, freed_serves_either_lem as freed-unused}
use Rattle.tree.specs.Bridge.{unused_of}
use Rattle.tree.specs.Pool.{SoundPool, given_in, nodes_in, index_of, forest_of}
use Rattle.tree.proofs.Pools.{sees_unused, tree_of_lem}
use Rattle.index_promise.specs.Promise.{holds, Left, ◌leaving◌, leaves, listed, written, swept, shown}
use Rattle.index_promise.proofs.Unique.{by_sound, by_unsound, one_totals, one_get, one_scan, one_portion, one_frame}
use Rattle.index.specs.Trees.{ReadsSame, SameBut7, Untouched, Independent, OneSupply, FreedServesEither, NumbersRefused, RefusedAs2, OldRefused, SharedRefused}
use Rattle.index.proofs.Register.{accepted, refused_same, left_by, After, after}

-- OLD POOLS

pub refused_as_2 : (l : List ℕ) → (SoundPool l → ⊥) → RefusedAs2 l
refused_as_2 l u =
    record {
      trees = λ i. record {
        totals = λ r p. by_unsound u p;
        batches = λ c r l' p. by_unsound u p;
        gets = λ ks out r out' p. by_unsound u p;
        scans = λ q out r out' p. by_unsound u p;
        portions = λ start end sift out r out' p. by_unsound u p;
        frames = λ n line r line' p. by_unsound u p;
      };
      source = λ m r m' p. by_unsound (λ s. u s.0) p;
      target = λ k r l' p. by_unsound (λ s. u s.1) p;
    }

pub old_refused : OldRefused
old_refused l e = refused_as_2 l (λ s. omega (arith, s.layout))

-- A SLOT THAT BOTH TREES NAME

pub shared_refused : SharedRefused
shared_refused l s a b = refused_as_2 l (λ p. twice (p.once s))
  where
    one : List ℕ
    one = slots_of (index_of l 0)

    two : List ℕ
    two = slots_of (index_of l 1)

    us : List ℕ
    us = unused_of (nodes_in l 0)

    -- it is there twice, and no slot is
    twice : times s (one ++ two) + times s us ≡ cond (ltb s (given_in l).nodes) 1 0 → ⊥
    twice =
        by_test (λ (m : ℕ). times s (one ++ two) + times s us ≡ m → ⊥) (ltb s (given_in l).nodes) (λ _ q. omega (arith, times_append s one two, a, b, q))
        (λ _ q. omega (arith, times_append s one two, a, b, q))

-- ANOTHER NUMBER

module _ (i : ℕ) (high : 2 ≤ i) where
  unnamed : {A : Type 0} (a : Answer A) → named i a ≡ refused 19
  unnamed a = rw (le-ltb i 2 high) refl

pub numbers_refused : NumbersRefused
numbers_refused i l s high =
    record {
      totals = λ r p. by_sound s p ∙ unnamed i high _;
      batches = λ c r l' p. by_sound s p ∙ ap (left_by i c l) (nineteen c);
      gets = λ ks out r out' p. by_sound s p ∙ ap (leaves listed (written out) out) (unnamed i high _);
      scans = λ q out r out' p. by_sound s p ∙ ap (leaves swept (λ s. written out s.listed) out) (unnamed i high _);
      portions = λ start end sift out r out' p. by_sound s p ∙ ap (leaves shown (λ x. written out x.scanned.listed) out) (unnamed i high _);
      frames = λ n line r line' p. by_sound s p ∙ ap (leaves length (λ s. s ++ drop (length s) line) line) (unnamed i high _);
    }
  where
    nineteen : (c : Call) → refusal_at (given_in l) i c (forest_of l) ≡ 19
    nineteen c = rw (le-ltb i 2 high) refl

-- ONE SUPPLY of unused slots

pub one_supply : OneSupply
one_supply l i j = sees_unused (given_in l) (words l) i ∙ sym (sees_unused (given_in l) (words l) j)

pub freed_serves_either_lem : FreedServesEither
freed_serves_either_lem i j c l l' k lent b =
    let now : After i c l l' = after i c l k l' lent (accepted i c l b) in
    let x : Index = (batch_at (given_in l) i c (forest_of l)).index in
    ap (λ (y : Index). y.unused) (sym (tree_of_lem l' j)) ∙ ap (λ (f : Forest). (tree_of j f).unused) now.forest ∙ freed-unused i j x (forest_of l)

-- A BATCH ON ONE TREE

-- the number that is not 7 and not 0 is known by what is left of it where 7 is taken for none
but7_back : (n m : ℕ) → but7 n ≡ but7 m → m ≢ 7 → m ≢ 0 → n ≡ m
but7_back n m e no7 some = by (ℕ_discrete n 7)
  where
    same : but7 m ≡ m
    same = rw (ne_eqb m 7 no7) refl

    by : Dec (n ≡ 7) → n ≡ m
    by (yes q) = let none : but7 n ≡ 0 = rw (eq-eqb n 7 q) refl in absurd (some (sym same ∙ sym e ∙ none))
    by (no q) = let own : but7 n ≡ n = rw (ne_eqb n 7 q) refl in sym own ∙ e ∙ same

abbrev number : {A : Type 0} → Answer A → ℕ
number (refused n) = n
number (done a) = 0

-- a batch that was refused as n has that refusal
refused_number : (j : ℕ) (d : Call) (l m : List ℕ) (k n : ℕ) → (refused n leaving m) ≡ left_by j d l k → (k ≡ n) × (n ≢ 0)
refused_number j d l m zero n e = absurd (refused_done n (batch_at (given_in l) j d (forest_of l)).counts (ap (λ (w : Left Counts). w.answer) e))
refused_number j d l m (suc k) n e =
    let q : n ≡ suc k = ap (λ (w : Left Counts). number w.answer) e in
    (sym q, λ z. absurd (omega (arith, q)))

other_low : (i : ℕ) → other i < 2
other_low zero = omega arith
other_low (suc i) = omega arith

-- the other tree's refusal is its own, since its number is 0 or 1
own_refusal : (g : PoolSettings) (i : ℕ) (d : Call) (f : Forest) → refusal_at g (other i) d f ≡ refusal (handed g (other i)) d (tree_of (other i) f)
own_refusal g i d f = rw (lt-ltb (other i) 2 (other_low i)) refl

module _ (i : ℕ) (l l' : List ℕ) (s : SoundPool l) (s' : SoundPool l') where
  abbrev j : ℕ
  j = other i

  -- two pools whose other trees are the same are read alike
  reads_same : planted_of (index_of l' j) ≡ planted_of (index_of l j) → ReadsSame j l l'
  reads_same e =
      record {
        totals = λ r r' p q. one_totals l j r' r (holds s (by_sound s' q ∙ ap (λ (t : Planted). named j (done (totals_of (index_with t [])))) e)) p;
        gets = λ ks out r r' o o' p q. one_get l j ks out o' o r' r
            (holds s (by_sound s' q ∙ ap (λ (t : Planted). leaves listed (written out) out (named j (get ks (room_in out) (index_with t [])))) e)) p;
        scans = λ k out r r' o o' p q. one_scan l j k out o' o r' r
            (holds s (by_sound s' q
            ∙ ap (λ (t : Planted). leaves swept (λ s. written out s.listed) out (named j (done (scan k (room_in out) (index_with t []))))) e)) p;
        portions = λ start end sift out r r' o o' p q. one_portion l j start end sift out o' o r' r
            (holds s (by_sound s' q
            ∙ ap (λ (t : Planted). leaves shown (λ x. written out x.scanned.listed) out (named j (done (portion start end sift (room_in out) (index_with t []))))) e)) p;
        frames = λ n line r r' o o' p q. one_frame l j n line o' o r' r
            (holds s (by_sound s' q
            ∙ ap (λ (t : Planted). leaves length (λ s. s ++ drop (length s) line) line (named j (write_node n (length line) (index_with t [])))) e)) p;
      }

  -- where their refusals are the same but for 7, so are the answers
  same_but_7 : ((d : Call) → but7 (refusal_at (given_in l') j d (forest_of l')) ≡ but7 (refusal_at (given_in l) j d (forest_of l))) → SameBut7 j l l'
  same_but_7 f d r r' m m' p q n no7 e =
      let old = refused_number j d l m (refusal_at (given_in l) j d (forest_of l)) n (ap (λ (a : Answer Counts). a leaving m) (sym e) ∙ by_sound s p) in
      let new : refusal_at (given_in l') j d (forest_of l') ≡ n =
      but7_back (refusal_at (given_in l') j d (forest_of l')) n (f d ∙ ap but7 old.0) no7 old.1 in
      by n old.1 (by_sound s' q ∙ ap (left_by j d l') new)
    where
      by : (n : ℕ) → n ≢ 0 → (told r' leaving m') ≡ left_by j d l' n → (told r' ≡ refused n) × (m' ≡ l')
      by zero some g = absurd (some refl)
      by (suc n) some g = (ap (λ (w : Left Counts). w.answer) g, ap (λ (w : Left Counts). w.bytes) g)

pub independent : Independent
independent i c l l' (Err why) lent s b = subst (Untouched i l) (sym (refused_same i c l why b)) same
  where
    same : Untouched i l l
    same =
        record {
          settings = refl;
          tree = refl;
          reads = reads_same i l l s s refl;
          refusals = same_but_7 i l l s s (λ d. refl);
          others = same_but_7 i l l s s (λ d. refl);
        }
independent i c l l' (Ok k) lent s b =
    let now : After i c l l' = after i c l k l' lent (accepted i c l b) in
    let x : Index = (batch_at (given_in l) i c (forest_of l)).index in
    let tree : planted_of (index_of l' (other i)) ≡ planted_of (index_of l (other i)) =
    ap planted_of (sym (tree_of_lem l' (other i))) ∙ ap (planted (other i)) now.forest ∙ replant_other i x (forest_of l) ∙ ap planted_of (tree_of_lem l (other i)) in
    let same : (d : Call) → but7 (refusal_at (given_in l') (other i) d (forest_of l')) ≡ but7 (refusal_at (given_in l) (other i) d (forest_of l)) =
    λ d.
    ap (λ (g : PoolSettings). but7 (refusal_at g (other i) d (forest_of l'))) now.given
    ∙ ap (λ (f : Forest). but7 (refusal_at (given_in l) (other i) d f)) now.forest
    ∙ ap but7 (own_refusal (given_in l) i d (replant i x (forest_of l))) ∙ other_refusals_lem (given_in l) i x d (forest_of l)
    ∙ ap but7 (sym (own_refusal (given_in l) i d (forest_of l))) in
    record {
      settings = now.given;
      tree = tree;
      reads = reads_same i l l' s now.sound tree;
      refusals = same_but_7 i l l' s now.sound same;
      others = same_but_7 i l' l now.sound s (λ d. sym (same d));
    }
