-- As many slots as a pool has, none of them twice, are each of them once. Assumes nothing.
use mathlib.Core.Path.{◌≡◌, refl, sym, ap, ◌∙◌}
use mathlib.Core.Bool.{cond}
use mathlib.Core.List.{List, [], ◌∷◌, map}
use Prim.Native.Nat.{ℕ, ◌+◌, ◌≤◌, ◌<◌}
use native.Mathlib.Omega.{arith}
use native.Mathlib.Decide.{dec_lt, ℕ_discrete}
use lib.Dec.{ltb}
use lib.ListN.{length, length-map}
use borrow.Author.Tests.{lt-ltb, le-ltb}
use Rattle.slots.specs.Nodes.{nth, unused}
use Rattle.slots.specs.Nodes as S
use Rattle.model.specs.Lists.{hit, times, up_from}
use Rattle.model.specs.Sound.{Once}
use Rattle.model.proofs.Lists.{hit_same, hit_other}
use Rattle.model.proofs.Numbers.{length_up, map_up}
use Rattle.model.proofs.Trees.{once_count}
use Rattle.tree.specs.Bridge.{unused_of}
use Rattle.tree.proofs.Unused.{used_none, unused_one, unused_past}

-- no number stands in a list more often than the list is long
pub hit_most : (x y : ℕ) → hit x y ≤ 1
hit_most x y = by (ℕ_discrete x y)
  where
    by : Dec (x ≡ y) → hit x y ≤ 1
    by (yes e) = omega (arith, hit_same x y e)
    by (no ne) = omega (arith, hit_other x y ne)

times_most : (x : ℕ) (l : List ℕ) → times x l ≤ length l
times_most x [] = omega arith
times_most x (y ∷ l) = omega (arith, hit_most x y, times_most x l)

module _ (n : ℕ) (l : List ℕ) (apart : (x : ℕ) → times x l ≤ 1) (low : (x : ℕ) → n ≤ x → times x l ≡ 0) where
  -- the slots that are missing, found as the unused ones of a pool whose kinds are how often a slot stands in l
  abbrev marks : List S.Node
  marks = map (λ s. record { kind = times s l; rows = [] }) (up_from 0 n)

  mark : (x : ℕ) → x < n → (nth marks x).kind ≡ times x l
  mark x lt =
      let e : 0 + x ≡ x = omega arith in
      ap (λ (m : S.Node). m.kind) (map_up (λ (s : ℕ). record { kind = times s l; rows = [] }) 0 n x unused lt) ∙ ap (λ (s : ℕ). times s l) e

  all_marks : length marks ≡ n
  all_marks = length-map (up_from 0 n) (λ (s : ℕ). record { kind = times s l; rows = [] }) ∙ length_up 0 n

  missing : (x : ℕ) → x < n → times x l ≡ 0 → times x (unused_of marks) ≡ 1
  missing x lt z = unused_one marks x (omega (arith, all_marks)) (mark x lt ∙ z)

  one_each : Once n l (unused_of marks)
  one_each x = by (dec_lt x n)
    where
      inside : x < n → Dec (times x l ≡ 0) → times x l + times x (unused_of marks) ≡ 1
      inside lt (yes z) = omega (arith, missing x lt z)
      inside lt (no some) = omega (arith, apart x, used_none marks x (λ e. some (sym (mark x lt) ∙ e)))

      by : Dec (x < n) → times x l + times x (unused_of marks) ≡ cond (ltb x n) 1 0
      by (yes lt) = inside lt (ℕ_discrete (times x l) 0) ∙ rw (lt-ltb x n lt) refl
      by (no ge) =
          let le : n ≤ x = omega arith in
          let past : length marks ≤ x = omega (arith, all_marks) in
          let none : times x l + times x (unused_of marks) ≡ 0 = omega (arith, low x le, unused_past marks x past) in
          none ∙ rw (le-ltb x n le) refl

  pub each_once : length l ≡ n → (x : ℕ) → x < n → times x l ≡ 1
  each_once long x lt = by (ℕ_discrete (times x l) 0)
    where
      by : Dec (times x l ≡ 0) → times x l ≡ 1
      by (yes z) = absurd (omega (arith, missing x lt z, once_count n l (unused_of marks) one_each, times_most x (unused_of marks)))
      by (no some) = omega (arith, apart x)
