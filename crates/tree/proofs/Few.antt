-- A sound index is small: at most 2 ^ 19 entries, and every slot of it is one of the pool's, taken once. Assumes nothing.
use mathlib.Core.Path.{◌≡◌}
use mathlib.Core.Bool.{cond}
use mathlib.Core.List.{List}
use Prim.Native.Nat.{ℕ, ◌+◌, ◌≤◌, ◌<◌}
use native.Mathlib.Omega.{arith}
use native.Mathlib.Decide.{dec_lt}
use native.Mathlib.Nat.{le_trans, mul-le-mul}
use lib.Dec.{ltb}
use lib.ListN.{length}
use borrow.Author.Tests.{le-ltb}
use Rattle.model.specs.declared.Settings.{Settings}
use Rattle.model.specs.Lists.{times, All}
use Rattle.model.specs.Tree.{Index, entries_of, slots_of}
use Rattle.model.specs.Sound.{Sound}
use Rattle.model.proofs.Lists.{by_test, times_append}
use Rattle.model.proofs.Numbers.{all_times}
use Rattle.model.proofs.Trees.{root_few, entries_few, used_most}

pub used_few : (st : Settings) {elsewhere : List ℕ} (x : Index) → Sound st elsewhere x → length (slots_of x) ≤ 16384
used_few st x s = omega (arith, used_most st x s, s.settings.bounded)

pub entries_most : (st : Settings) {elsewhere : List ℕ} (x : Index) → Sound st elsewhere x → length (entries_of x) ≤ 524288
entries_most st x s =
    le_trans (entries_few st x.height x.root (root_few st x.height x.root s.rooted) s.whole) (mul-le-mul s.settings.narrow (used_few st x s))

-- SLOTS

once_most : (s m n : ℕ) → n ≡ cond (ltb s m) 1 0 → n ≤ 1
once_most s m n = by_test (λ (v : ℕ). n ≡ v → n ≤ 1) (ltb s m) (λ q e. omega arith) (λ q e. omega arith)

module _ (st : Settings) {elsewhere : List ℕ} (x : Index) (s : Sound st elsewhere x) where
  -- a slot is used once at most, and then not unused
  pub slot_once : (t : ℕ) → times t (slots_of x) + times t x.unused ≤ 1
  slot_once t = omega (arith, once_most t st.nodes _ (s.once t), times_append t elsewhere (slots_of x))

  pub slot_outside : (t : ℕ) → st.nodes ≤ t → times t (slots_of x) + times t x.unused ≡ 0
  slot_outside t h = omega (arith, rw (le-ltb t st.nodes h) at (s.once t), times_append t elsewhere (slots_of x))

  pub slot_low : (t : ℕ) → 0 < times t (slots_of x) → t < st.nodes
  slot_low t h = by (dec_lt t st.nodes)
    where
      by : Dec (t < st.nodes) → t < st.nodes
      by (yes g) = g
      by (no g) = let le : st.nodes ≤ t = omega arith in absurd (omega (arith, slot_outside t le))

  pub slots_low : All (λ t. t < st.nodes) (slots_of x)
  slots_low = all_times (λ t. t < st.nodes) (slots_of x) slot_low
