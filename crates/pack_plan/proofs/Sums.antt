-- Sums over the pieces of a number: one piece taken off, and what they come to at most. Assumes nothing.
use mathlib.Core.Path.{◌≡◌, refl, ap, ◌∙◌}
use Prim.Native.Nat.{ℕ, zero, suc, ◌+◌, ◌-◌, ◌*◌, ◌≤◌, ◌<◌, min}
use native.Mathlib.Omega.{arith}
use native.Mathlib.Nat.{zero-mul, suc-mul, mul-add, mul-le-mul_right}
use Rattle.model_pack.specs.Pack.{capacity}
use Rattle.model_pack.proofs.Pieces.{capacity_some}
use Rattle.pack_plan.specs.Plan.{over_pieces, packed_nodes}
use Rattle.pack_plan.specs.Promises.{ToCount}

module _ (n : ℕ) (f : ℕ → ℕ) where
  -- one more piece than are needed changes nothing
  over_spare : (most m : ℕ) → m ≤ most * n → over_pieces most n f m ≡ over_pieces (suc most) n f m
  over_spare zero zero le = refl
  over_spare zero (suc m) le = absurd (omega (arith, zero-mul n))
  over_spare (suc most) zero le = refl
  over_spare (suc most) (suc m) le =
      ap (f (min n (suc m)) +◌) (over_spare most (suc m - n) (omega (arith, suc-mul most n)))

  -- the first piece, and then the others
  pub over_first : (most m : ℕ) → m ≤ most * n → 0 < m → over_pieces most n f m ≡ f (min n m) + over_pieces most n f (m - min n m)
  over_first zero m le some = absurd (omega (arith, zero-mul n))
  over_first (suc most) zero le some = absurd (omega arith)
  over_first (suc most) (suc m) le some =
      let rest : suc m - n ≡ suc m - min n (suc m) = omega arith in
      ap (f (min n (suc m)) +◌) (over_spare most (suc m - n) (omega (arith, suc-mul most n)) ∙ ap (over_pieces (suc most) n f) rest)

  -- nothing has no piece
  pub over_none : (most : ℕ) → over_pieces most n f 0 ≡ 0
  over_none zero = refl
  over_none (suc most) = refl

  -- a bound for each piece by its size bounds the sum
  over_bounded : (most k m : ℕ) → 0 < n → ((p : ℕ) → f p ≤ 1 + k * p) → over_pieces most n f m ≤ suc k * m
  over_bounded zero k m pos each = omega arith
  over_bounded (suc most) k zero pos each = omega arith
  over_bounded (suc most) k (suc m) pos each =
      let p : ℕ = min n (suc m) in
      let q : ℕ = suc m - n in
      let sum : p + q ≡ suc m = omega arith in
      omega (
        arith,
        each p,
        over_bounded most k q pos each,
        suc-mul k p,
        mul-add (suc k) p q,
        ap (λ (x : ℕ). suc k * x) sum,
      )

-- THE NODES OF A PACKED TREE: at most one for each entry in each level below the root

nodes_few : (o h n : ℕ) → 0 < o → packed_nodes o h n ≤ 1 + h * n
nodes_few o zero n some = omega arith
nodes_few o (suc h) n some = omega (arith, over_bounded (capacity o h) (packed_nodes o h) o h n (capacity_some o some h) (λ p. nodes_few o h p some))

pub nodes_bound : (o h n : ℕ) → ToCount o h n → packed_nodes o h n ≤ 1 + 7 * n
nodes_bound o h n asked = omega (arith, nodes_few o h n asked.some, mul-le-mul_right n asked.measured.low)

-- A COUNT ON ITS WAY: the root and the nodes of some pieces are counted, and `left` entries are left

pub record Counting (o below n nodes left : ℕ) : Type 0 where
  pub less : left ≤ n
  pub sum : nodes + over_pieces o (capacity o below) (packed_nodes o below) left ≡ packed_nodes o (suc below) n

pub counting_start : (o below n : ℕ) → Counting o below n 1 n
counting_start o below n = record { less = omega arith; sum = refl }

module _ {o below n nodes left : ℕ} (c : Counting o below n nodes left) where
  -- one more piece
  pub counting_more : n ≤ capacity o (suc below) → 0 < left → (p r : ℕ) → p ≡ min (capacity o below) left → r ≡ packed_nodes o below p
      → Counting o below n (nodes + r) (left - p)
  counting_more fit some p r e q =
      let k : ℕ = capacity o below in
      let f : ℕ → ℕ = packed_nodes o below in
      record {
        less = omega (arith, c.less);
        sum =
            omega (
              arith,
              c.sum,
              over_first k f o left (omega (arith, c.less)) some,
              ap f e,
              ap (λ (x : ℕ). over_pieces o k f (left - x)) e,
            );
      }

  pub counting_end : left ≡ 0 → nodes ≡ packed_nodes o (suc below) n
  counting_end e =
      let k : ℕ = capacity o below in
      let f : ℕ → ℕ = packed_nodes o below in
      omega (arith, c.sum, over_none k f o, ap (over_pieces o k f) e)
