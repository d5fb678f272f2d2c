-- What the layers are handed: room in a slot for a node that is about to be split, and a root among the nodes. Assumes nothing.
use Prim.Native.Nat.{ℕ, zero, suc, ◌*◌, ◌≤◌, ◌<◌}
use native.Mathlib.Omega.{arith}
use Rattle.model.specs.declared.PoolSettings.{PoolSettings}
use Rattle.model.specs.Sound.{rows_for, handed, InLimits, PoolLimits}

module _ (given : PoolSettings) where
  pub handed_roomy : (i : ℕ) → 2 * (handed given i).order ≤ (handed given i).rows
  unfolding rows_for
  handed_roomy zero = omega arith
  handed_roomy (suc i) = omega arith

  module _ (lim : PoolLimits given) where
    pub limits_at_lem : (i : ℕ) → InLimits (handed given i)
    limits_at_lem zero = lim.0
    limits_at_lem (suc i) = lim.1

    pub handed_most : rows_for given ≤ 64
    unfolding rows_for
    handed_most = omega (arith, lim.0.narrow, lim.1.narrow)

    pub handed_root : (i : ℕ) → (handed given i).root < (handed given i).nodes
    handed_root zero = omega (arith, lim.0.many)
    handed_root (suc i) = omega (arith, lim.0.many)
