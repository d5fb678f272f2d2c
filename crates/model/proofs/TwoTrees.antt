-- Any sequence of batches on two trees in one pool, and two neighbours that change places: the rest of specs/TwoTrees.antt, and all of it together.
-- Assumes nothing.
use mathlib.Core.Path.{◌≡◌, refl, sym, ap, ◌∙◌, subst}
use mathlib.Core.Logic.{◌≢◌}
use mathlib.Core.List.{List, []}
use mathlib.Core.Bool.{cond}
use Prim.Native.Nat.{ℕ, zero, suc, ◌<◌}
use native.Mathlib.Omega.{arith}
use lib.Dec.{eqb}
use borrow.Author.Tests.{eqb-true, eqb-false}
use Rattle.model.specs.declared.Entry.{Entry}
use Rattle.model.specs.declared.PoolSettings.{PoolSettings}
use Rattle.model.specs.declared.Settings.{Settings}
use Rattle.model.specs.Lists.{All, none, one}
use Rattle.model.specs.Tree.{Index, entries_of}
use Rattle.model.specs.Plain.{plain_list, plain_counts, no_counts}
use Rattle.model.specs.Change.{batch}
use Rattle.model.specs.Answer.{unless}
use Rattle.model.specs.Refuse.{Call, tasks_of, refusal}
use Rattle.model.specs.Demands.{Lent, plain_after, ChangePlaces}
use Rattle.model.specs.Sound.{handed}
use Rattle.model.specs.Forest.{Forest, tree_of, other, elsewhere, replant, new_forest, SoundForest, refusal_at, batch_at, forest_after}
use Rattle.model.specs.TwoTrees.{done_at, BatchesAt, Turn, after_turn, run_forest, plain_turn, plain_for, Onwards, Demand3PerTree, BothAccepted, ChangePlacesAt, SwapSame, SwapTrees, TwoTrees}
use Rattle.model.proofs.Lists.{by_test}
use Rattle.model.proofs.Demands.{answers_from, swap}
use Rattle.model.proofs.Forest.{new_forest_sound_lem, replant_tree, independent, freed_serves_either_lem, other_refusals_lem, accepted, one_batch_at_lem}

-- WHICH TREE

-- of two numbers that differ each is the other's
other_is : (i j : ℕ) → i < 2 → j < 2 → i ≢ j → other i ≡ j
other_is zero zero a b ne = absurd (ne refl)
other_is zero (suc j) a b ne = omega arith
other_is (suc i) zero a b ne = refl
other_is (suc i) (suc j) a b ne = let e : suc i ≡ suc j = omega arith in absurd (ne e)

-- what holds of tree i and of the other holds of each
each_tree : (P : (Forest → Index) → Type 0) (i : ℕ) → P (tree_of i) → P (tree_of (other i)) → (k : ℕ) → P (tree_of k)
each_tree P zero p q zero = p
each_tree P zero p q (suc k) = q
each_tree P (suc i) p q zero = q
each_tree P (suc i) p q (suc k) = p

-- ANY SEQUENCE

-- the forest is sound, and tree i holds a list
record KeptAt (g : PoolSettings) (i : ℕ) (es : List Entry) (f : Forest) : Type 0 where
  sound : SoundForest g f
  list : entries_of (tree_of i f) ≡ es

keeps_at : (g : PoolSettings) (t : Turn) (f : Forest) (i : ℕ) (es : List Entry) → i < 2 → Lent t.call → KeptAt g i es f
    → KeptAt g i (plain_turn g i t f es) (after_turn g t f)
keeps_at g t f i es low lent k = by (refusal_at g t.tree t.call f) refl
  where
    done_list : BatchesAt g t.tree t.call f → t.tree ≡ i → entries_of (tree_of i (done_at g t.tree t.call f)) ≡ plain_list (tasks_of t.call) es
    done_list b e =
        subst (λ (j : ℕ). entries_of (tree_of j (done_at g t.tree t.call f)) ≡ plain_list (tasks_of t.call) (entries_of (tree_of j f))) e b.list
        ∙ ap (plain_list (tasks_of t.call)) k.list

    other_list : t.tree < 2 → t.tree ≢ i → entries_of (tree_of i (done_at g t.tree t.call f)) ≡ es
    other_list small ne =
        subst (λ (j : ℕ). entries_of (tree_of j (done_at g t.tree t.call f)) ≡ entries_of (tree_of j f)) (other_is t.tree i small low ne)
        (independent t.tree (batch_at g t.tree t.call f).index f).list
        ∙ k.list

    by : (n : ℕ) → refusal_at g t.tree t.call f ≡ n
        → KeptAt g i (cond (eqb t.tree i) (plain_after n (tasks_of t.call) es) es)
        (forest_after t.tree f (unless n (batch_at g t.tree t.call f)))
    by zero q =
        let b : BatchesAt g t.tree t.call f = one_batch_at_lem g t.tree t.call f k.sound lent q in
        record {
          sound = b.sound;
          list = by_test (λ (l : List Entry). entries_of (tree_of i (done_at g t.tree t.call f)) ≡ l) (eqb t.tree i)
              (λ e. done_list b (eqb-true _ _ e)) (λ e. other_list (accepted g t.tree t.call f q).0 (eqb-false _ _ e));
        }
    by (suc n) q = record { sound = k.sound; list = by_test (λ (l : List Entry). entries_of (tree_of i f) ≡ l) (eqb t.tree i) (λ e. k.list) (λ e. k.list) }

sequence_at : (g : PoolSettings) {ts : List Turn} (f : Forest) (i : ℕ) (es : List Entry) → i < 2 → All (λ t. Lent t.call) ts → KeptAt g i es f
    → KeptAt g i (plain_for g i ts f es) (run_forest g ts f)
sequence_at g f i es low none k = k
sequence_at g f i es low (one {x = t} h hs) k = sequence_at g _ i _ low hs (keeps_at g t f i es low h k)

pub onwards : Onwards
onwards g ts f i es low lent s e =
    let k : KeptAt g i (plain_for g i ts f es) (run_forest g ts f) = sequence_at g f i es low lent (record { sound = s; list = e }) in
    (k.sound, answers_from (tree_of i (run_forest g ts f)) (plain_for g i ts f es) k.list)

pub demand_3_per_tree : Demand3PerTree
demand_3_per_tree g ts i low lim lent = onwards g ts (new_forest g.nodes) i [] low lent (new_forest_sound_lem g lim) (bare i)
  where
    bare : (i : ℕ) → entries_of (tree_of i (new_forest g.nodes)) ≡ []
    bare zero = refl
    bare (suc i) = refl

-- TWO NEIGHBOURS

-- on one tree: it changes places there, and the other tree is as it was
pub swap_same_lem : SwapSame
swap_same_lem g i c d f s lc ld apart q =
    record {
      first = p.first ∙ ap (λ (y : Index). (batch st (tasks_of c) y).counts) (sym (replant_tree i dx f));
      second = ap (λ (y : Index). (batch st (tasks_of d) y).counts) (replant_tree i cx f) ∙ p.second;
      same = λ k. answers_from (tree_of k (done_at g i d (done_at g i c f))) (entries_of (tree_of k (done_at g i c (done_at g i d f))))
          (each_tree (λ (tree : Forest → Index). entries_of (tree (done_at g i d (done_at g i c f))) ≡ entries_of (tree (done_at g i c (done_at g i d f)))) i here there k);
    }
  where
    st : Settings
    st = handed g i

    x : Index
    x = tree_of i f

    cx : Index
    cx = (batch st (tasks_of c) x).index

    dx : Index
    dx = (batch st (tasks_of d) x).index

    -- what is not refused of the forest is not refused of the tree
    after : (e : Call) (y : Index) → refusal_at g i e (replant i y f) ≡ 0 → refusal st e y ≡ 0
    after e y r = subst (λ (z : Index). refusal st e z ≡ 0) (replant_tree i y f) (accepted g i e (replant i y f) r).1

    p : ChangePlaces st c d x
    p =
        swap st (elsewhere i f) c d x (s.trees i) lc ld apart (accepted g i c f q.first).1 (after d cx q.then_second) (accepted g i d f q.second).1
        (after c dx q.then_first)

    -- the tree after two batches on it
    twice : (a b : Call) → tree_of i (done_at g i b (done_at g i a f)) ≡ (batch st (tasks_of b) (batch st (tasks_of a) x).index).index
    twice a b =
        replant_tree i (batch_at g i b (done_at g i a f)).index (done_at g i a f)
        ∙ ap (λ (y : Index). (batch st (tasks_of b) y).index) (replant_tree i (batch_at g i a f).index f)

    here : entries_of (tree_of i (done_at g i d (done_at g i c f))) ≡ entries_of (tree_of i (done_at g i c (done_at g i d f)))
    here = ap entries_of (twice c d) ∙ p.same.holds ∙ sym (ap entries_of (twice d c))

    untouched : (a b : Call) → entries_of (tree_of (other i) (done_at g i b (done_at g i a f))) ≡ entries_of (tree_of (other i) f)
    untouched a b = (independent i (batch_at g i b (done_at g i a f)).index (done_at g i a f)).list ∙ (independent i (batch_at g i a f).index f).list

    there : entries_of (tree_of (other i) (done_at g i d (done_at g i c f))) ≡ entries_of (tree_of (other i) (done_at g i c (done_at g i d f)))
    there = untouched c d ∙ sym (untouched d c)

-- tree i is as it was, whatever is put in the place of the other
other_same : (i : ℕ) (x : Index) (f : Forest) → entries_of (tree_of i (replant (other i) x f)) ≡ entries_of (tree_of i f)
other_same zero x f = refl
other_same (suc i) x f = refl

-- on a tree and the other: each takes its own batch, as if it came alone
swap_other : (g : PoolSettings) (i : ℕ) (c d : Call) (f : Forest) → SoundForest g f → Lent c → Lent d → BothAccepted g i c (other i) d f
    → ChangePlacesAt g i c (other i) d f
swap_other g i c d f s lc ld q =
    record {
      first = cf.counts ∙ sym (dc.counts ∙ ap (λ (es : List Entry). plain_counts (tasks_of c) es no_counts) (other_same i dx f));
      second = cd.counts ∙ ap (λ (es : List Entry). plain_counts (tasks_of d) es no_counts) (independent i cx f).list ∙ sym df.counts;
      same = λ k. answers_from (tree_of k (done_at g j d (done_at g i c f))) (entries_of (tree_of k (done_at g i c (done_at g j d f))))
          (each_tree (λ (tree : Forest → Index). entries_of (tree (done_at g j d (done_at g i c f))) ≡ entries_of (tree (done_at g i c (done_at g j d f)))) i here there k);
    }
  where
    j : ℕ
    j = other i

    cx : Index
    cx = (batch_at g i c f).index

    dx : Index
    dx = (batch_at g j d f).index

    cf : BatchesAt g i c f
    cf = one_batch_at_lem g i c f s lc q.first

    df : BatchesAt g j d f
    df = one_batch_at_lem g j d f s ld q.second

    cd : BatchesAt g j d (done_at g i c f)
    cd = one_batch_at_lem g j d (done_at g i c f) cf.sound ld q.then_second

    dc : BatchesAt g i c (done_at g j d f)
    dc = one_batch_at_lem g i c (done_at g j d f) df.sound lc q.then_first

    here : entries_of (tree_of i (done_at g j d (done_at g i c f))) ≡ entries_of (tree_of i (done_at g i c (done_at g j d f)))
    here =
        other_same i (batch_at g j d (done_at g i c f)).index (done_at g i c f) ∙ cf.list
        ∙ sym (dc.list ∙ ap (plain_list (tasks_of c)) (other_same i dx f))

    there : entries_of (tree_of j (done_at g j d (done_at g i c f))) ≡ entries_of (tree_of j (done_at g i c (done_at g j d f)))
    there =
        cd.list ∙ ap (plain_list (tasks_of d)) (independent i cx f).list
        ∙ sym ((independent i (batch_at g i c (done_at g j d f)).index (done_at g j d f)).list ∙ df.list)

pub swap_trees_lem : SwapTrees
swap_trees_lem g i j c d f ne s lc ld q =
    let is : other i ≡ j = other_is i j (accepted g i c f q.first).0 (accepted g j d f q.second).0 ne in
    subst (λ (k : ℕ). BothAccepted g i c k d f → ChangePlacesAt g i c k d f) is (swap_other g i c d f s lc ld) q

-- ALL

pub two_trees : TwoTrees
two_trees =
    record {
      new_forest_sound = new_forest_sound_lem;
      one_batch_at = one_batch_at_lem;
      independent = independent;
      other_refusals = other_refusals_lem;
      freed_serves_either = freed_serves_either_lem;
      onwards = onwards;
      demand3 = demand_3_per_tree;
      swap_same = swap_same_lem;
      swap_trees = swap_trees_lem;
    }
