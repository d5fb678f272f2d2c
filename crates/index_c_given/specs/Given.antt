-- What a caller's numbers, flags and arrays stand for. Assumes nothing.
use Rattle.std.specs.Prelude.{ℕ, Bool, cond, not, List, [], get_or, eqb}
use Rattle.model.specs.declared.PoolSettings.{PoolSettings}
use Rattle.model.specs.declared.Operation.{Operation}
use Rattle.model.specs.declared.Operation.TheVariants.{SetEach}
use Rattle.model.specs.declared.Bound.{Bound}
use Rattle.model.specs.declared.Bound.TheVariants.{Unbounded, Included, Excluded}
use Rattle.model.specs.declared.Direction.{Direction}
use Rattle.model.specs.declared.Direction.TheVariants.{Up, Down}
use Rattle.model.specs.declared.Sift.{Sift}
use Rattle.model.specs.declared.Sift.TheVariants.{SizeAtLeast}
use Rattle.model.specs.declared.Expectation.{Expectation}
use Rattle.model.specs.declared.Expectation.TheVariants.{Absent, Holds}
use Rattle.model.specs.declared.Action.{Action}
use Rattle.model.specs.declared.Action.TheVariants as Act
use Rattle.model.specs.Refuse.{Call}
use Rattle.frame_text.specs.declared.Kind.TheVariants.{Leaf, Interior}
use Rattle.frame_text.specs.declared.FrameEntry.{FrameEntry}
use Rattle.frame_text.specs.declared.Contents.{Contents}
use Rattle.frame_text.specs.Contents.{of_entry, of_branch}
use Rattle.model.specs.Plain.{reference_for}
use Rattle.index_c_given.specs.Places.{places}

-- the nodes, and order and minimum of each tree
abbrev pub settings_for : ℕ → ℕ → ℕ → ℕ → ℕ → PoolSettings
settings_for nodes order0 minimum0 order1 minimum1 =
    record { nodes = nodes; first = record { order = order0; minimum = minimum0 }; second = record { order = order1; minimum = minimum1 } }

-- BATCHES

abbrev pub expectation_for : Bool → ℕ → ℕ → Expectation
expectation_for holds place size = cond holds (Holds (reference_for place size)) Absent

abbrev pub action_for : Bool → ℕ → ℕ → Action
action_for set place size = cond set (Act.Set (reference_for place size)) Act.Remove

-- a batch that is lent no references, and one that is lent one a key
abbrev pub call_for : Operation → List ℕ → Call
call_for op keys = record { operation = op; places = []; sizes = []; keys = keys }

abbrev pub call_each : List ℕ → List ℕ → List ℕ → Call
call_each keys ps sizes = record { operation = SetEach; places = ps; sizes = sizes; keys = keys }

-- SCANS AND PORTIONS

abbrev pub bound_for : Bool → Bool → ℕ → Bound
bound_for bounded included key = cond bounded (cond included (Included key) (Excluded key)) Unbounded

-- the start of a portion by its three numbers, bounded, included and key: a flag is set where it is not 0
abbrev pub start_for : List ℕ → Bound
start_for from = bound_for (not (eqb (get_or from 0 0) 0)) (not (eqb (get_or from 1 0) 0)) (get_or from 2 0)

abbrev pub direction_for : Bool → Direction
direction_for down = cond down Down Up

-- every size is at least 0, so 0 sifts nothing
abbrev pub sift_for : ℕ → Sift
sift_for least = SizeAtLeast least

-- FRAMES: an array for each field of 32 places

abbrev pub leaf_at : List ℕ → List ℕ → List ℕ → ℕ → FrameEntry
leaf_at keys ps sizes i = of_entry (record { key = get_or keys i 0; place = get_or ps i 0; size = get_or sizes i 0 })

abbrev pub leaf_contents : ℕ → List ℕ → List ℕ → List ℕ → Contents
leaf_contents count keys ps sizes = record { kind = Leaf; count = count; entries = places (leaf_at keys ps sizes) }

abbrev pub branch_at : List ℕ → List ℕ → List ℕ → List ℕ → List ℕ → ℕ → FrameEntry
branch_at keys children live dead sums i =
    of_branch (record { key = get_or keys i 0; child = get_or children i 0; totals = record { live = get_or live i 0; dead = get_or dead i 0; size = get_or sums i 0 } })

abbrev pub interior_contents : ℕ → List ℕ → List ℕ → List ℕ → List ℕ → List ℕ → Contents
interior_contents count keys children live dead sums =
    record { kind = Interior; count = count; entries = places (branch_at keys children live dead sums) }
