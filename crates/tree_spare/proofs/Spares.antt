-- What is known of the unused slots stays known: where they are as they were, where the lowest was taken, and where one was released. Assumes nothing.
use mathlib.Core.Path.{◌≡◌, refl, sym, ap, ◌∙◌}
use mathlib.Core.List.{List, [], ◌∷◌}
use Prim.Native.Nat.{ℕ, suc, ◌+◌, ◌≤◌, ◌<◌, min}
use native.Mathlib.Omega.{arith}
use native.Mathlib.Decide.{ℕ_discrete, dec_lt}
use lib.Dec.{eqb}
use lib.ListN.{length}
use Rattle.slots.specs.Nodes.{Held, nodes, nth}
use Rattle.slots.specs.Nodes as S
use Rattle.slots_find.specs.Promises.{Below, Lowest}
use Rattle.slots.proofs.Nodes.{length_nodes}
use Rattle.model.specs.declared.Settings.{Settings}
use Rattle.model.specs.Lists.{times}
use Rattle.model.specs.Tree.{lowest, others, release}
use Rattle.model.proofs.Lists.{by_test, hit_same, hit_other}
use Rattle.model.proofs.Settles.{length_release, times_release, times_taken}
use Rattle.tree.specs.Bridge.{unused_from, unused_of}
use Rattle.tree.proofs.Unused.{used_none, unused_one, unused_once, unused_past, unused_taken}
use Rattle.tree_spare.specs.declared.Spare.{Spare}
use Rattle.tree_spare.specs.Spared.{Spared, ToTake, freeing}

-- THE LOWEST

low_none : (ns : List S.Node) (low : ℕ) → Lowest ns low → (x : ℕ) → x < low → times x (unused_of ns) ≡ 0
low_none ns low l x h = used_none ns x (l.before x h)

low_one : (ns : List S.Node) (low : ℕ) → Lowest ns low → low < length ns → times low (unused_of ns) ≡ 1
low_one ns low l h = unused_one ns low h (l.here h)

-- slots of which none is unused
below_from : (ns : List S.Node) (low : ℕ) → low ≤ length ns → ((x : ℕ) → x < low → times x (unused_of ns) ≡ 0) → Below ns low
below_from ns low le f x h z = absurd (omega (arith, f x h, unused_one ns x (omega arith) z))

low_from : (ns : List S.Node) (low : ℕ) → low ≤ length ns → ((x : ℕ) → x < low → times x (unused_of ns) ≡ 0)
    → (low < length ns → 0 < times low (unused_of ns)) → Lowest ns low
low_from ns low le f g = record { within = le; before = below_from ns low le f; here = λ h. free (ℕ_discrete (nth ns low).kind 0) h }
  where
    free : Dec ((nth ns low).kind ≡ 0) → low < length ns → (nth ns low).kind ≡ 0
    free (yes e) h = e
    free (no ne) h = absurd (omega (arith, used_none ns low ne, g h))

-- where a slot is unused, the lowest is one of the pool's
lowest_in : (ns : List S.Node) (r : ℕ) → Lowest ns r → 1 ≤ length (unused_of ns) → r < length ns
lowest_in ns r l some = by (dec_lt r (length ns)) (unused_of ns) refl some
  where
    none_there : (length ns ≤ r) → (x : ℕ) → times x (unused_of ns) ≡ 0
    none_there le x = of (dec_lt x r)
      where
        of : Dec (x < r) → times x (unused_of ns) ≡ 0
        of (yes h) = used_none ns x (l.before x h)
        of (no h) = unused_past ns x (omega arith)

    by : Dec (r < length ns) → (us : List ℕ) → unused_of ns ≡ us → 1 ≤ length us → r < length ns
    by (yes h) us e g = h
    by (no h) [] e g = absurd (omega arith)
    by (no h) (u ∷ us) e g =
        let le : length ns ≤ r = omega arith in
        absurd (omega (arith, none_there le u, ap (times u) e, hit_same u u refl))

-- THEIR NUMBER

few_from : (s : ℕ) (ns : List S.Node) → length (unused_from s ns) ≤ length ns
few_from s [] = omega arith
few_from s (n ∷ ns) =
    by_test (λ (l : List ℕ). length l ≤ suc (length ns)) (eqb n.kind 0) (λ _. omega (arith, few_from (suc s) ns)) (λ _. omega (arith, few_from (suc s) ns))

pub unused_few : (ns : List S.Node) → length (unused_of ns) ≤ length ns
unused_few ns = few_from 0 ns

-- ONE ANSWER

lowest_same : (ns : List S.Node) (a b : ℕ) → Lowest ns a → Lowest ns b → a ≡ b
lowest_same ns a b x y = by (dec_lt a b) (dec_lt b a)
  where
    by : Dec (a < b) → Dec (b < a) → a ≡ b
    by (yes lt) q = absurd (y.before a lt (x.here (omega (arith, y.within))))
    by (no ge) (yes lt) = absurd (x.before b lt (y.here (omega (arith, x.within))))
    by (no ge) (no le) = omega arith

pub spared_one : (ns : List S.Node) (x y : Spare) → Spared ns x → Spared ns y → x ≡ y
spared_one ns x y a b =
    let low : x.low ≡ y.low = lowest_same ns x.low y.low a.lowest b.lowest in
    let unused : x.unused ≡ y.unused = a.count ∙ sym b.count in
    λ j. record { low = low j; unused = unused j }

-- IN A POOL

module _ (st : Settings) (W : List ℕ) {x : Spare} (k : Spared (nodes st W) x) where
  pub spared_in : 0 < length (unused_of (nodes st W)) → x.low < st.nodes
  spared_in some = omega (arith, lowest_in (nodes st W) x.low k.lowest some, length_nodes st W)

  -- one more can be counted
  pub spared_few : Held st W → x.unused ≤ 16384
  spared_few h = omega (arith, k.count, unused_few (nodes st W), length_nodes st W, h.shape.limits.bounded)

  module _ (W' : List ℕ) where
    long : length (nodes st W') ≡ length (nodes st W)
    long = length_nodes st W' ∙ sym (length_nodes st W)

    -- unused slots that are as they were
    pub spared_same : unused_of (nodes st W') ≡ unused_of (nodes st W) → Spared (nodes st W') x
    spared_same e =
        record {
          lowest = low_from (nodes st W') x.low (omega (arith, k.lowest.within, long))
              (λ z h. ap (times z) e ∙ low_none (nodes st W) x.low k.lowest z h)
              (λ h. omega (arith, ap (times x.low) e, low_one (nodes st W) x.low k.lowest (omega (arith, h, long))));
          count = k.count ∙ ap length (sym e);
        }

    -- the lowest of them was taken
    pub spared_taken : Held st W' → 0 < length (unused_of (nodes st W)) → unused_of (nodes st W') ≡ others (unused_of (nodes st W)) → ToTake st W' x
    spared_taken h some e =
        record {
          held = h;
          slot = spared_in some;
          below = below_from (nodes st W') (x.low + 1) (omega (arith, spared_in some, length_nodes st W')) (λ z g. ap (times z) e ∙ gone z (dec_lt z x.low) g);
          count = k.count ∙ one_less (unused_of (nodes st W)) some ∙ ap (λ (l : List ℕ). suc (length l)) (sym e);
        }
      where
        one_less : (us : List ℕ) → 0 < length us → length us ≡ suc (length (others us))
        one_less [] q = absurd (omega arith)
        one_less (u ∷ us) q = refl

        is : lowest (unused_of (nodes st W)) ≡ x.low
        is =
            (unused_taken (nodes st W) x.low (record { kind = 1; rows = [] }) k.lowest (lowest_in (nodes st W) x.low k.lowest some)
            (λ z. absurd (omega (arith, z)))).0

        gone : (z : ℕ) → Dec (z < x.low) → z < x.low + 1 → times z (others (unused_of (nodes st W))) ≡ 0
        gone z (yes l) g = omega (arith, times_taken z (unused_of (nodes st W)) some, used_none (nodes st W) z (k.lowest.before z l))
        gone z (no l) g =
            let here : z ≡ lowest (unused_of (nodes st W)) = omega (arith, is) in
            omega (arith, times_taken z (unused_of (nodes st W)) some, unused_once (nodes st W) z, hit_same z (lowest (unused_of (nodes st W))) here)

    -- slot y was released
    pub spared_freed : (y : ℕ) → unused_of (nodes st W') ≡ release y (unused_of (nodes st W)) → Spared (nodes st W') (freeing x y)
    spared_freed y e =
        record {
          lowest = low_from (nodes st W') (min x.low y) (omega (arith, k.lowest.within, long))
              (λ z g. ap (times z) e ∙ omega (
                arith,
                times_release z y (unused_of (nodes st W)),
                hit_other z y (λ q. absurd (omega arith)),
                low_none (nodes st W) x.low k.lowest z (omega arith),
              ))
              (λ g. rw e (found (dec_lt x.low y) (omega (arith, g, long))));
          count = omega (arith, k.count, ap length e, length_release y (unused_of (nodes st W)));
        }
      where
        found : Dec (x.low < y) → min x.low y < length (nodes st W) → 0 < times (min x.low y) (release y (unused_of (nodes st W)))
        found (yes h) g =
            let is : min x.low y ≡ x.low = omega arith in
            rw is (omega (arith, times_release x.low y (unused_of (nodes st W)), low_one (nodes st W) x.low k.lowest (omega arith)))
        found (no h) g =
            let is : min x.low y ≡ y = omega arith in
            rw is (omega (arith, times_release y y (unused_of (nodes st W)), hit_same y y refl))
