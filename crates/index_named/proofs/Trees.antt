-- From the survey of a pool to a tree of it; and what a call takes from a tree that was found, or was not. Assumes nothing.
use Rattle.std.specs.Prelude.{Some, Result, Ok, Err, is_ok}
use Rattle.model.specs.declared.Refusal.TheVariants as Why
use Prim.Native.Nat.{ℕ, zero, suc, ◌≤◌, ◌<◌}
use native.Mathlib.Omega.{arith}
use mathlib.Core.Path.{◌≡◌, refl, sym, ap, ◌∙◌, subst}
use mathlib.Core.Logic.{◌≢◌}
use mathlib.Core.Bool.{false, true≢false}
use mathlib.Core.List.{List}
use lib.Dec.{ltb}
use borrow.Author.Tests.{lt-ltb}
use Rattle.words.specs.Words.{words}
use Rattle.model.specs.declared.Settings.{Settings}
use Rattle.model.specs.Answer.{Answer, refused}
use Rattle.model.specs.Sound.{root_for, handed}
use Rattle.model.specs.Forest.{named}
use Rattle.model.proofs.Lists.{by_test}
use Rattle.tree.specs.Pool.{given_in, nodes_in, SoundPool}
use Rattle.tree.proofs.Pools.{tree_sees, number_below}
use Rattle.survey.specs.declared.Findings.{Findings}
use Rattle.survey.specs.Promises.{Surveyed, height_for}
use Rattle.survey.proofs.Founds.{sound, found, tree_in}
use Rattle.index_promise.specs.Promise.{Where, holds, fails, ◌leaving◌, leaves}
use Rattle.index_named.specs.declared.Named.{Named}
use Rattle.index_named.specs.Promises.{TreeFound, Refused, Finds}
use Rattle.index_named.proofs.Spares.{spared_seen}

-- THE SEARCH

err_ok : {T E : Type 0} {e : E} {t : T} → ◌≡◌ {A = Result T E} (Err e) (Ok t) → ⊥
err_ok q = true≢false (sym (ap is_ok q))

ok_same : {T E : Type 0} {t u : T} → ◌≡◌ {A = Result T E} (Ok t) (Ok u) → t ≡ u
ok_same q = cc

root_is : (i : ℕ) → i ≤ 1 → root_for i ≡ i
root_is zero h = refl
root_is (suc i) h = omega arith

pub no_pool : {l : List ℕ} (i : ℕ) → (SoundPool l → ⊥) → Finds l i (Err Why.Unsound)
no_pool i f = record { refusal = fails f refl; tree = λ t e. absurd (err_ok e) }

module _ {l : List ℕ} {f : Findings} (s : Surveyed l (Some f)) (i : ℕ) where
  module _ (h : i ≤ 1) (st : Settings) (height : ℕ) (handed_is : st ≡ handed f.given i) (tall : height ≡ height_for i f) where
    abbrev tree : Named
    tree = record { settings = st; height = height; spare = f.spare }

    number : st.root ≡ i
    number = ap (λ (u : Settings). u.root) handed_is ∙ root_is i h

    its_own : TreeFound l i tree
    its_own =
        record {
          number = number;
          pool = tree_in s i st height handed_is tall;
          spared = rw (tree_sees (given_in l) (words l) i) (spared_seen (root_for i) (nodes_in l 0) f.spare (found s).spared);
        }

    pub known : Finds l i (Ok tree)
    known =
        record {
          refusal = holds (sound s) (rw (lt-ltb i 2 (omega arith)) refl);
          tree = λ t e. subst (TreeFound l i) (ok_same e) its_own;
        }

-- A TREE THAT WAS FOUND is there

module _ {l : List ℕ} {i : ℕ} {r : Named} (t : TreeFound l i r) where
  pub there : i < 2
  there = subst (λ (j : ℕ). j < 2) t.number (number_below t.pool)

  -- so the call answers as it answers of the tree
  pub answers : {A : Type 0} (a : Answer A) → named i a ≡ a
  answers a = rw (lt-ltb i 2 there) refl

-- ONE THAT WAS NOT keeps the promise of every call that refuses it before all else

module _ {A : Type 0} {l : List ℕ} {n : ℕ} (i : ℕ) (a : Answer A) (late : ltb i 2 ≡ false → a ≡ refused 19) where
  pub not_there : Refused l i n → n ≢ 0 → Where (SoundPool l) a (refused 2) (refused n)
  not_there (holds s e) some =
      holds s (by_test (λ (m : ℕ). n ≡ m → ◌≡◌ {A = Answer A} (refused n) a) (ltb i 2) (λ _ z. absurd (some z)) (λ f z. ap refused z ∙ sym (late f)) e)
  not_there (fails u e) some = fails u (ap refused e)

  -- and leaves the lent bytes as they were
  pub not_left : {B : Type 0} (told : A → B) (bytes : A → List ℕ) (lent : List ℕ) → Refused l i n → n ≢ 0
      → Where (SoundPool l) (leaves told bytes lent a) (refused 2 leaving lent) (refused n leaving lent)
  not_left told bytes lent r some = by (not_there r some)
    where
      by : Where (SoundPool l) a (refused 2) (refused n) → Where (SoundPool l) (leaves told bytes lent a) (refused 2 leaving lent) (refused n leaving lent)
      by (holds s e) = holds s (ap (leaves told bytes lent) e)
      by (fails u e) = fails u (ap (leaves told bytes lent) e)

-- such as those that name the tree
pub late_named : {A : Type 0} (i : ℕ) (a : Answer A) → ltb i 2 ≡ false → named i a ≡ refused 19
late_named i a f = rw f refl
