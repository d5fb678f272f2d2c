-- The keys of a batch in a leaf: what is wished of each, what is found and done under it, and what the model's leaf takes of them. Assumes nothing.
use Rattle.std.specs.Prelude.{ℕ, max, false, Bool, ◌&&◌, List, map, [], ◌∷◌, length, drop, get_or, set, leb}
use Rattle.slots.specs.Nodes.{rows_at, put_in, without}
use Rattle.model.specs.declared.Settings.{Settings}
use Rattle.model.specs.declared.Entry.{Entry}
use Rattle.model.specs.declared.Operation.{Operation}
use Rattle.model.specs.declared.Operation.TheVariants as Op
use Rattle.model.specs.declared.Action.TheVariants as Do
use Rattle.model.specs.declared.Wish.{Wish}
use Rattle.model.specs.declared.Wish.TheVariants.{Always, IfMet}
use Rattle.model.specs.Plain.{Task, entry_for}
use Rattle.model.specs.Refuse.{Call, tasks_of}
use Rattle.model.specs.Change.{Walked, take_tasks}
use Rattle.tree.specs.Bridge.{entry_of, entry_row}
use Rattle.slots_raw.specs.declared.Row.{Row}
use Rattle.std.specs.Prelude.{Result, Ok, Err, Option, Some, None}
use Rattle.slots_raw.specs.Slots.{blank}
use Rattle.model.specs.declared.Effect.{Effect}
use Rattle.model.specs.declared.Effect.TheVariants.{Leave, Add, Replace, Remove}
use Rattle.batch_effect.specs.Under.{is_due}
use Rattle.batch_effect.specs.declared.Held.{Held}
use Rattle.batch_leaf.specs.declared.Run.{Run}
use Rattle.batch_leaf.specs.declared.Subtree.{Subtree}

-- WHAT IS WISHED

-- what an operation wishes of key i, and the task of that key
abbrev pub wish_at : Operation → List ℕ → List ℕ → ℕ → Wish
wish_at (Op.Set r) ps zs i = Always (Do.Set r)
wish_at Op.SetEach ps zs i = Always (Do.Set (record { place = get_or ps i 0; size = get_or zs i 0 }))
wish_at Op.Remove ps zs i = Always Do.Remove
wish_at (Op.Compare e a) ps zs i = IfMet e a

abbrev pub task_at : Call → ℕ → Task
task_at b i = record { key = get_or b.keys i 0; wish = wish_at b.operation b.places b.sizes i }

-- WHAT WAS FOUND

-- what stands where a key was found among the rows l
abbrev pub held_at : List Row → Result ℕ ℕ → Option Held
held_at l (Ok i) = let e = entry_of (get_or l i blank) in Some (record { place = e.place; size = e.size })
held_at l (Err i) = None

-- the row where a key was found, or before which it would stand
abbrev pub place_of : Result ℕ ℕ → ℕ
place_of (Ok i) = i
place_of (Err i) = i

-- WHAT IS DONE

-- the rows l after an effect on key k at place i
abbrev pub performed : List Row → ℕ → ℕ → Effect → List Row
performed l i k Leave = l
performed l i k (Add r) = put_in l i (entry_row (entry_for k r) ∷ [])
performed l i k (Replace r) = set l i (entry_row (entry_for k r))
performed l i k Remove = without l i 1

-- WHAT IS TAKEN

-- the next key is taken: it is due, and the n entries do not exceed the limit
abbrev pub goes_on : List ℕ → ℕ → ℕ → ℕ → ℕ → Bool
goes_on ks next ceiling n limit = is_due ks next ceiling && leb n limit

-- what the model's leaf takes of the tasks from the next one on, with any unused slots
abbrev pub taking : Settings → List ℕ → Subtree → Call → Run → List ℕ → Walked Entry
taking st W leaf b run us =
    let rows = rows_at st W leaf.slot in
    take_tasks (max (length rows) st.order) leaf.ceiling (drop run.next (tasks_of b)) (map entry_of rows) false
    (record { unused = us; counts = run.counts })
