-- Opening a pool: what the tests of the settings tell, the image of a new forest, and that the promise leaves one answer. Assumes nothing.
use mathlib.Core.Path.{◌≡◌, refl, sym, ap, ◌∙◌}
use mathlib.Core.Bool.{Bool, true, false, true≢false}
use mathlib.Core.List.{List, [], ◌∷◌, ◌++◌, map}
use Prim.Native.Nat.{ℕ, zero, suc, ◌+◌, ◌-◌, ◌*◌, ◌≤◌, ◌<◌}
use native.Mathlib.Omega.{arith}
use native.Mathlib.Nat.{mul-le-mul}
use lib.Dec.{leb}
use lib.ListN.{length, replicate}
use borrow.Author.Tests.{leb-true, le-leb, ne_eqb}
use Rattle.words.specs.Words.{words, bytes_of}
use Rattle.words.proofs.Laws.{Bytes, bytes_of_words}
use Rattle.slots_raw.specs.Slots.{width, head_len}
use Rattle.slots_pool.specs.Header.{header_of}
use Rattle.slots.specs.Nodes.{node_seen, unused}
use Rattle.slots.specs.Nodes as S
use Rattle.slots_pool.specs.Image.{image, empty_leaf, new_nodes}
use Rattle.model.specs.declared.PoolSettings.{PoolSettings}
use Rattle.model.specs.Lists.{up_from}
use Rattle.model.specs.Forest.{new_forest}
use Rattle.model.specs.Sound.{limits_for, rows_for, handed, InLimits, PoolLimits}
use Rattle.model.proofs.Layers.{handed_most}
use Rattle.tree.specs.Bridge.{Cell}
use Rattle.tree.specs.Pool.{pool_len, node_in, nodes_of, image_of}
use Rattle.tree.specs.Promises.{LimitsRight, Opened}
use Rattle.model.specs.Answer.{Tells}
use Rattle.model.proofs.Answers.{tells_unique}

-- WHAT A TEST TELLS

pub tells_most : (low n high : ℕ) → low ≤ n → Tells (leb n high) ((low ≤ n) × (n ≤ high))
tells_most low n high h = record { holds = λ e. (h, leb-true n high e); told = λ p. le-leb n high p.1 }

pub tells_least : (low n high : ℕ) → n < low → Tells (leb low n) ((low ≤ n) × (n ≤ high))
tells_least low n high h = record { holds = λ e. absurd (omega (arith, leb-true low n e)); told = λ p. le-leb low n p.0 }

-- the settings are in limits if each is
pub limits_of : (given : PoolSettings) (i : ℕ) → InLimits (handed given i) → LimitsRight (limits_for given i)
limits_of given i lim = record { wide = lim.wide; narrow = lim.narrow; some = lim.some; least = lim.least }

in_limits : (given : PoolSettings) (i : ℕ) → (8 ≤ given.nodes) × (given.nodes ≤ 16384) → LimitsRight (limits_for given i) → InLimits (handed given i)
in_limits given i n t = record { many = n.0; bounded = n.1; wide = t.wide; narrow = t.narrow; some = t.some; least = t.least }

pub tells_limits : (given : PoolSettings) (r : Bool) → (8 ≤ given.nodes) × (given.nodes ≤ 16384) → LimitsRight given.first
    → Tells r (LimitsRight given.second) → Tells r (PoolLimits given)
tells_limits given r n first t =
    record {
      holds = λ e. (in_limits given 0 n first, in_limits given 1 n (t.holds e));
      told = λ lim. t.told (limits_of given 1 lim.1);
    }

-- THE LENGTH of a pool fits a number

pub slots_small : (given : PoolSettings) → PoolLimits given → given.nodes * width (rows_for given) ≤ 3178496
slots_small given lim =
    mul-le-mul {n₁ = given.nodes} {m₁ = width (rows_for given)} {n₂ = 16384} {m₂ = 194} lim.0.bounded (omega (arith, handed_most given lim))

-- A NEW FOREST: its nodes are an empty leaf of each tree, and then unused ones

abbrev new_cells : List Cell
new_cells = record { slot = 0; node = empty_leaf } ∷ record { slot = 1; node = node_seen 1 empty_leaf } ∷ []

later_unused : (a n : ℕ) → 1 < a → map (node_in new_cells) (up_from a n) ≡ replicate n unused
later_unused a zero h = refl
later_unused a (suc n) h =
    let first : node_in new_cells a ≡ unused = rw (ne_eqb a 0 (λ e. omega arith), ne_eqb a 1 (λ e. omega arith)) in
    ap (λ (m : S.Node). m ∷ map (node_in new_cells) (up_from (suc a) n)) first ∙ ap (λ (l : List S.Node). unused ∷ l) (later_unused (suc a) n (omega arith))

pub new_nodes_lem : (n : ℕ) → 1 < n → nodes_of n (new_forest n) ≡ new_nodes n
new_nodes_lem zero h = absurd (omega arith)
new_nodes_lem (suc zero) h = absurd (omega arith)
new_nodes_lem (suc (suc n)) h =
    let e : suc (suc n) - 2 ≡ n = omega arith in
    rw e (ap (λ (l : List S.Node). empty_leaf ∷ node_seen 1 empty_leaf ∷ l) (later_unused 2 n (omega arith)))

-- a pool of these nodes is its image
pub new_image : (given : PoolSettings) (l : List ℕ) → PoolLimits given → length l ≡ pool_len given → Bytes l
    → words l ≡ header_of given ++ image 0 (rows_for given) (new_nodes given.nodes) → l ≡ image_of given (new_forest given.nodes)
new_image given l lim n b e =
    sym (bytes_of_words (head_len + given.nodes * width (rows_for given)) l n b) ∙ ap bytes_of e
    ∙ ap (λ (ns : List S.Node). bytes_of (header_of given ++ image 0 (rows_for given) ns)) (sym (new_nodes_lem given.nodes (omega (arith, lim.0.many))))

-- THE PROMISE LEAVES ONE ANSWER, and one pool

pub opened_unique : (given : PoolSettings) (l₀ : List ℕ) (q r : Bool) (k l : List ℕ) → Opened given l₀ q k → Opened given l₀ r l → (q ≡ r) × (k ≡ l)
opened_unique given l₀ q r k l a b = (tells_unique a.answer b.answer, by q r (tells_unique a.answer b.answer) a b)
  where
    by : (q r : Bool) → q ≡ r → Opened given l₀ q k → Opened given l₀ r l → k ≡ l
    by true true e a b = a.new refl ∙ sym (b.new refl)
    by false false e a b = a.kept refl ∙ sym (b.kept refl)
    by true false e a b = absurd (true≢false e)
    by false true e a b = absurd (true≢false (sym e))
