-- What a survey tells: the pool is not sound, or it is, and what was found is its own. Assumes nothing.
use Rattle.std.specs.Prelude.{Option, None, Some, Result, Err, is_ok}
use Rattle.std.specs.Option.{ok_or}
use Prim.Native.Nat.{ℕ, zero, suc}
use mathlib.Core.Path.{◌≡◌, refl, sym, ap, subst}
use mathlib.Core.Bool.{true≢false}
use mathlib.Core.List.{List}
use Rattle.model.specs.declared.Refusal.{Refusal}
use Rattle.model.specs.declared.Refusal.TheVariants as Why
use Rattle.model.specs.declared.Settings.{Settings}
use Rattle.model.specs.Sound.{handed, PoolLimits}
use Rattle.model.proofs.Answers.{told_no}
use Rattle.tree.specs.Pool.{settings_in, SoundPool}
use Rattle.tree.specs.Promises.{InPool}
use Rattle.survey.specs.declared.Findings.{Findings}
use Rattle.survey.specs.Promises.{Found, Surveyed, height_for}
use Rattle.survey.proofs.Steps.{handed_is}

-- NO SOUND POOL, where the survey is refused as 2 if it finds none
pub unsound : {l : List ℕ} (r : Option Findings) (why : Refusal) → Surveyed l r → ◌≡◌ {A = Result Findings Refusal} (Err why) (ok_or r Why.Unsound)
    → (why ≡ Why.Unsound) × (SoundPool l → ⊥)
unsound None why s e = let is : ◌≡◌ {A = Result Findings Refusal} (Err why) (Err Why.Unsound) = e in (cc, told_no s.sound refl)
unsound (Some f) why s e = absurd (true≢false (sym (ap is_ok e)))

-- OF A SOUND POOL

module _ {l : List ℕ} {f : Findings} (s : Surveyed l (Some f)) where
  pub sound : SoundPool l
  sound = s.sound.holds refl

  pub found : Found l f
  found = s.found f refl

  pub limits : PoolLimits f.given
  limits = subst PoolLimits (sym found.given) sound.settings

  -- a tree whose settings are handed of those found is known, with its height
  pub tree_in : (i : ℕ) (st : Settings) (h : ℕ) → st ≡ handed f.given i → h ≡ height_for i f → InPool l st h
  tree_in i st h is tall =
      subst (λ (u : Settings). InPool l u h) (sym (handed_is l i is found.given)) (subst (InPool l (settings_in l i)) (sym tall) (known i))
    where
      known : (i : ℕ) → InPool l (settings_in l i) (height_for i f)
      known zero = record { sound = sound; own = refl; tall = found.first }
      known (suc i) = record { sound = sound; own = refl; tall = found.second }
