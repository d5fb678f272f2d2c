-- The plain ordered list: what one key does to it, how that is counted, and a batch of keys, one after the other. Assumes nothing.
use Rattle.std.specs.Prelude.{Bool, true, false, ◌&&◌, cond, List, [], ◌∷◌, ◌++◌, ℕ, suc, eqb, ltb}
use Rattle.std.proofs.Math.Option.{Option, none, some}
use Rattle.model.specs.declared.Entry.{Entry}
use Rattle.model.specs.declared.Reference.{Reference}
use Rattle.model.specs.declared.Counts.{Counts}
use Rattle.model.specs.declared.Action.{Action}
use Rattle.model.specs.declared.Action.TheVariants as Do
use Rattle.model.specs.declared.Expectation.{Expectation}
use Rattle.model.specs.declared.Expectation.TheVariants as Expect
use Rattle.model.specs.declared.Wish.{Wish}
use Rattle.model.specs.declared.Wish.TheVariants.{Always, IfMet}
use Rattle.model.specs.declared.Effect.{Effect}
use Rattle.model.specs.declared.Effect.TheVariants.{Leave, Add, Replace, Remove}
use Rattle.model.specs.declared.Operation.{Operation}
use Rattle.model.specs.declared.Operation.TheVariants as Op

-- WHAT IS ASKED OF ONE KEY

pub record Task : Type 0 where
  pub key : ℕ
  pub wish : Wish

abbrev pub each : Wish → List ℕ → List Task
each w [] = []
each w (k ∷ ks) = record { key = k; wish = w } ∷ each w ks

abbrev pub pairs : List Reference → List ℕ → List Task
pairs [] [] = []
pairs [] (k ∷ ks) = []
pairs (r ∷ rs) [] = []
pairs (r ∷ rs) (k ∷ ks) = record { key = k; wish = Always (Do.Set r) } ∷ pairs rs ks

-- the references that some places and sizes make
abbrev pub references : List ℕ → List ℕ → List Reference
references [] [] = []
references [] (z ∷ zs) = []
references (p ∷ ps) [] = []
references (p ∷ ps) (z ∷ zs) = record { place = p; size = z } ∷ references ps zs

-- the tasks of an operation, with the references of a SetEach and the keys
abbrev pub tasks_for : Operation → List Reference → List ℕ → List Task
tasks_for (Op.Set r) rs ks = each (Always (Do.Set r)) ks
tasks_for Op.SetEach rs ks = pairs rs ks
tasks_for Op.Remove rs ks = each (Always Do.Remove) ks
tasks_for (Op.Compare e a) rs ks = each (IfMet e a) ks

-- WHAT IT DOES, by the reference held under the key, if there is one

-- setting an equal reference again is a replacement; removing an absent key does nothing
abbrev pub act : Action → Option Reference → Effect
act (Do.Set r) none = Add r
act (Do.Set r) (some held) = Replace r
act Do.Remove none = Leave
act Do.Remove (some held) = Remove

abbrev pub same : Reference → Reference → Bool
same a b = eqb a.place b.place && eqb a.size b.size

-- a dead entry is present, so Absent is not met by it
abbrev pub met : Expectation → Option Reference → Bool
met Expect.Absent none = true
met Expect.Absent (some held) = false
met (Expect.Holds r) none = false
met (Expect.Holds r) (some held) = same r held

abbrev pub effect : Wish → Option Reference → Effect
effect (Always a) held = act a held
effect (IfMet e a) held = cond (met e held) (act a held) Leave

abbrev pub alters : Effect → Bool
alters Leave = false
alters (Add r) = true
alters (Replace r) = true
alters Remove = true

-- COUNTS

abbrev pub no_counts : Counts
no_counts = record { added = 0; replaced = 0; removed = 0; nothing = 0 }

abbrev pub count : Effect → Counts → Counts
count Leave c = record { added = c.added; replaced = c.replaced; removed = c.removed; nothing = suc c.nothing }
count (Add r) c = record { added = suc c.added; replaced = c.replaced; removed = c.removed; nothing = c.nothing }
count (Replace r) c = record { added = c.added; replaced = suc c.replaced; removed = c.removed; nothing = c.nothing }
count Remove c = record { added = c.added; replaced = c.replaced; removed = suc c.removed; nothing = c.nothing }

-- THE LIST

abbrev pub entry_for : ℕ → Reference → Entry
entry_for k r = record { key = k; place = r.place; size = r.size }

abbrev pub reference_of : Entry → Reference
reference_of e = record { place = e.place; size = e.size }

abbrev pub reference_for : ℕ → ℕ → Reference
reference_for place size = record { place = place; size = size }

-- the entries below k, and those from k on
abbrev pub below : ℕ → List Entry → List Entry
below k [] = []
below k (e ∷ es) = cond (ltb e.key k) (e ∷ below k es) []

abbrev pub from : ℕ → List Entry → List Entry
from k [] = []
from k (e ∷ es) = cond (ltb e.key k) (from k es) (e ∷ es)

-- of the entries from k on: the reference under k itself, and the entries above k
abbrev pub first : ℕ → List Entry → Option Reference
first k [] = none
first k (e ∷ es) = cond (eqb e.key k) (some (reference_of e)) none

abbrev pub above : ℕ → List Entry → List Entry
above k [] = []
above k (e ∷ es) = cond (eqb e.key k) es (e ∷ es)

-- the reference held under k
abbrev pub held : ℕ → List Entry → Option Reference
held k es = first k (from k es)

-- what stands under k after an effect
abbrev pub under : ℕ → Option Reference → Effect → List Entry
under k none Leave = []
under k (some r) Leave = entry_for k r ∷ []
under k h (Add r) = entry_for k r ∷ []
under k h (Replace r) = entry_for k r ∷ []
under k h Remove = []

abbrev pub effect_on : Task → List Entry → Effect
effect_on t es = effect t.wish (held t.key es)

abbrev pub step : Task → List Entry → List Entry
step t es = below t.key es ++ (under t.key (held t.key es) (effect_on t es) ++ above t.key (from t.key es))

-- A BATCH, its keys taken one at a time: the list it leaves, and its counts

abbrev pub plain_list : List Task → List Entry → List Entry
plain_list [] es = es
plain_list (t ∷ ts) es = plain_list ts (step t es)

abbrev pub plain_counts : List Task → List Entry → Counts → Counts
plain_counts [] es c = c
plain_counts (t ∷ ts) es c = plain_counts ts (step t es) (count (effect_on t es) c)
