-- What a leaf that takes keys asks, of the leaf and of a batch, and what it promises: the model's leaf. Assumes nothing.
use Rattle.std.specs.Prelude.{ℕ, ◌≤◌, ◌<◌, ◌≡◌, List, map, length, drop}
use Rattle.slots.specs.Nodes.{Held, nodes, rows_at, put_rows}
use Rattle.slots.specs.Promises.{NodesPut, ToTouch, ToTouchRows, ToPutIn}
use Rattle.model.specs.declared.Settings.{Settings}
use Rattle.model.specs.declared.Operation.{Operation}
use Rattle.model.specs.declared.Operation.TheVariants as Op
use Rattle.model.specs.Plain.{Task, step, effect_on}
use Rattle.model.specs.Refuse.{Call, tasks_of}
use Rattle.model.specs.Sound.{Sorted}
use Rattle.tree.specs.Bridge.{entry_of, entry_row}
use Rattle.batch_effect.specs.Under.{AtMost}
use Rattle.model.specs.declared.Effect.{Effect}
use Rattle.model.specs.declared.Effect.TheVariants.{Leave, Add, Replace, Remove}
use Rattle.batch_leaf.specs.declared.Run.{Run}
use Rattle.batch_leaf.specs.declared.Subtree.{Subtree}
use Rattle.batch_leaf.specs.declared.Progress.{Progress}
use Rattle.batch_leaf.specs.Keys.{taking}

-- ONE KEY

-- leaf s can take a key: its keys ascend, and it has room for one more entry
pub record ToTakeKey (st : Settings) (W : List ℕ) (s : ℕ) : Type 0 where
  pub held : Held st W
  pub slot : s < st.nodes
  pub sorted : Sorted (map entry_of (rows_at st W s))
  pub few : length (rows_at st W s) ≤ st.order

-- node s lets an effect be done at place i
abbrev pub ToPerform : Settings → List ℕ → ℕ → ℕ → Effect → Type 0
ToPerform st W s i Leave = ToTouch st W s
ToPerform st W s i (Add r) = ToPutIn st W s i 1
ToPerform st W s i (Replace r) = ToTouchRows st W s i 1
ToPerform st W s i Remove = ToTouchRows st W s i 1

-- the leaf's entries are what the task makes of them, and e is its effect
pub record KeyDone (st : Settings) (W W' : List ℕ) (s : ℕ) (t : Task) (e : Effect) : Type 0 where
  pub did : NodesPut st W W' (put_rows (nodes st W) s (map entry_row (step t (map entry_of (rows_at st W s)))))
  pub effect : e ≡ effect_on t (map entry_of (rows_at st W s))

-- A BATCH

-- what is wished of each of the first n keys can be told: a reference is lent for it, if the operation takes one
abbrev pub ToWish : Operation → List ℕ → List ℕ → ℕ → Type 0
ToWish (Op.Set r) ps zs n = Unit {0}
ToWish Op.SetEach ps zs n = (n ≤ length ps) × (n ≤ length zs)
ToWish Op.Remove ps zs n = Unit {0}
ToWish (Op.Compare e a) ps zs n = Unit {0}

-- a batch under way: the keys up to the next one are taken, and counted
pub record Underway (b : Call) (run : Run) : Type 0 where
  pub lent : ToWish b.operation b.places b.sizes (length b.keys)
  pub short : length b.keys ≤ 4294967296
  pub within : run.next ≤ length b.keys
  pub few : AtMost run.counts run.next

-- the leaf, the tasks left, the change and the counts are the model's
pub record KeysTaken (st : Settings) (W W' : List ℕ) (leaf : Subtree) (b : Call) (run : Run) (us : List ℕ) (r : Progress) : Type 0 where
  pub did : NodesPut st W W' (put_rows (nodes st W) leaf.slot (map entry_row (taking st W leaf b run us).items))
  pub left : drop r.run.next (tasks_of b) ≡ (taking st W leaf b run us).tasks
  pub changed : r.changed ≡ (taking st W leaf b run us).changed
  pub counts : r.run.counts ≡ (taking st W leaf b run us).run.counts
  pub forth : run.next ≤ r.run.next
  pub batch : Underway b r.run
  pub spare : r.run.spare ≡ run.spare
