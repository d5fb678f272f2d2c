-- The header: the number of the layout, and the settings that the pool was opened with. Assumes nothing.
use Rattle.std.specs.Prelude.{ℕ, suc, ◌≡◌, List, [], ◌∷◌, get_or}
use Rattle.model.specs.declared.Limits.{Limits}
use Rattle.model.specs.declared.PoolSettings.{PoolSettings}

-- the number of the layout that is described here: two trees
abbrev pub layout_number : ℕ
layout_number = 2

-- behind the limits of each tree there is a word of zero
abbrev pub header_of : PoolSettings → List ℕ
header_of given =
    layout_number ∷ given.nodes
    ∷ given.first.order ∷ given.first.minimum ∷ 0
    ∷ given.second.order ∷ given.second.minimum ∷ 0 ∷ []

-- the layout that some words say
abbrev pub layout_of : List ℕ → ℕ
layout_of W = get_or W 0 0

-- the settings that some words say
abbrev pub limits_at : List ℕ → ℕ → Limits
limits_at W i = record { order = get_or W i 0; minimum = get_or W (suc i) 0 }

abbrev pub settings_of : List ℕ → PoolSettings
settings_of W = record { nodes = get_or W 1 0; first = limits_at W 2; second = limits_at W 5 }

-- the two words of zero
abbrev pub Reserved : List ℕ → Type 0
Reserved W = (get_or W 4 0 ≡ 0) × (get_or W 7 0 ≡ 0)
