-- What is known of the two pools when their trees are copied. Assumes nothing.
use Rattle.std.specs.Prelude.{◌≡◌, true, false, List, Some, ℕ}
use Rattle.model_pack.specs.PackForest.{is_new_forest, forests_differ}
use Rattle.tree.specs.Pool.{given_in, forest_of}
use Rattle.survey.specs.declared.Findings.{Findings}
use Rattle.survey.specs.Promises.{Surveyed}

-- both pools are sound, and f and g were found of them; they do not differ, and the target is new
pub record ToCopy (l : List ℕ) (f : Findings) (m : List ℕ) (g : Findings) : Type 0 where
  pub source : Surveyed l (Some f)
  pub target : Surveyed m (Some g)
  pub alike : forests_differ (given_in l) (given_in m) ≡ false
  pub new : is_new_forest (forest_of m) ≡ true
