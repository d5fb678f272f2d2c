-- One batch on a tree: a leaf takes tasks, an interior node walks among its children, the root is called until no task is left.
-- Assumes nothing.
use Rattle.std.specs.Prelude.{Bool, true, false, ◌&&◌, ◌||◌, cond, ℕ, zero, suc, ◌-◌, ◌^◌, min, max, length, leb, ltb}
use mathlib.Core.List.{List, [], ◌∷◌, reverse_aux}
use Rattle.model.specs.declared.Entry.{Entry}
use Rattle.model.specs.declared.Counts.{Counts}
use Rattle.model.specs.declared.Settings.{Settings}
use Rattle.model.specs.declared.ChangeResult.{ChangeResult}
use Rattle.model.specs.declared.ChangeResult.TheVariants.{Unchanged, Remove, Split, Absorb, Changed}
use Rattle.model.specs.Tree.{Node, Item, Tree, Index, len, refill, greatest_key, lowest, others, release}
use Rattle.model.specs.declared.Effect.{Effect}
use Rattle.model.specs.Plain.{Task, alters, step, effect_on, count, no_counts}
use Rattle.model.specs.Share.{Place, half, cut_at, share_out, absorb, take_out}

-- RESULTS

-- what became of a node that was changed or not, and is now so long
abbrev pub result_of : Settings → Bool → ℕ → ChangeResult
result_of st false n = Unchanged
result_of st true zero = Remove
result_of st true (suc n) = cond (leb (suc n) st.order) (cond (leb st.minimum (suc n)) Changed Absorb) Split

abbrev pub is_change : ChangeResult → Bool
is_change Unchanged = false
is_change Remove = true
is_change Split = true
is_change Absorb = true
is_change Changed = true

-- WHAT IS HANDED ON

-- beside its tasks a batch carries the unused slots and the counts so far
pub record Run : Type 0 where
  pub unused : List ℕ
  pub counts : Counts

-- the items of a node after it took tasks, whether any of them changed, and the tasks not yet taken
pub record Walked (X : Type 0) : Type 0 where
  pub items : List X
  pub changed : Bool
  pub tasks : List Task
  pub run : Run

-- a node after its change
pub record Outcome (Y : Type 0) : Type 0 where
  pub node : Y
  pub result : ChangeResult
  pub tasks : List Task
  pub run : Run

abbrev pub conclude : Settings → {X : Type 0} → Node X → Walked X → Outcome (Node X)
conclude st n w = record { node = refill n w.items; result = result_of st w.changed (length w.items); tasks = w.tasks; run = w.run }

-- LEAF

abbrev pub counted : Effect → Run → Run
counted e run = record { unused = run.unused; counts = count e run.counts }

-- tasks are taken until none is left, the next key exceeds the ceiling, or the length exceeds the limit
abbrev pub take_tasks : ℕ → ℕ → List Task → List Entry → Bool → Run → Walked Entry
take_tasks limit ceiling [] es changed run = record { items = es; changed = changed; tasks = []; run = run }
take_tasks limit ceiling (t ∷ ts) es changed run =
    let on = take_tasks limit ceiling ts (step t es) (changed || alters (effect_on t es)) (counted (effect_on t es) run) in
    cond (leb t.key ceiling && leb (length es) limit) on (record { items = es; changed = changed; tasks = t ∷ ts; run = run })

-- the limit is the larger of the initial length and order
abbrev pub change_leaf : Settings → ℕ → Tree 0 → List Task → Run → Outcome (Tree 0)
change_leaf st ceiling n ts run = conclude st n (take_tasks (max (len n) st.order) ceiling ts n.items false run)

-- INTERIOR

-- a child and its siblings; `before` has the nearest first
pub record Spot (Y : Type 0) : Type 0 where
  pub before : List Y
  pub child : Y
  pub after : List Y

-- where a key goes: to the first child, from here on, whose separator is not below it, or else to the last
abbrev pub seek : {Y : Type 0} → (Y → ℕ) → ℕ → List Y → Y → List Y → Spot Y
seek separator k before c [] = record { before = before; child = c; after = [] }
seek separator k before c (n ∷ after) =
    let on = seek separator k (c ∷ before) n after in
    cond (ltb (separator c) k) on (record { before = before; child = c; after = n ∷ after })

-- the ceiling handed down: a key above the separator of the last child goes there with itself as ceiling
abbrev pub ceiling_for : ℕ → ℕ → ℕ → ℕ
ceiling_for separator k ceiling = cond (ltb separator k) k (min separator ceiling)

-- where the walk goes on once a child has its result
abbrev pub settle : Settings → {X : Type 0} → ChangeResult → List (Node X) → Node X → List (Node X) → List ℕ → Place (Node X)
settle st Unchanged before c after unused = record { before = before; rest = c ∷ after; unused = unused }
settle st Changed before c after unused = record { before = before; rest = c ∷ after; unused = unused }
settle st Split before c after unused = share_out st before c after unused
settle st Absorb before c after unused = absorb st before c after unused
settle st Remove before c after unused = take_out before c after unused

module _ (st : Settings) {X : Type 0} (separator : Node X → ℕ) (change_child : ℕ → Node X → List Task → Run → Outcome (Node X)) where
  abbrev pub stop : List (Node X) → List (Node X) → Bool → List Task → Run → Walked (Node X)
  stop before rest changed ts run = record { items = reverse_aux before rest; changed = changed; tasks = ts; run = run }

  -- The walk ends where no turn, no child or no task is left, or the next key exceeds the ceiling. Each turn takes a task at least, so that
  -- their number bounds the turns.
  abbrev pub walk : ℕ → ℕ → List (Node X) → List (Node X) → Bool → List Task → Run → Walked (Node X)
  walk zero ceiling before rest changed ts run = stop before rest changed ts run
  walk (suc turns) ceiling before [] changed ts run = stop before [] changed ts run
  walk (suc turns) ceiling before (c ∷ cs) changed [] run = stop before (c ∷ cs) changed [] run
  walk (suc turns) ceiling before (c ∷ cs) changed (t ∷ ts) run =
      let s = seek separator t.key before c cs in
      let o = change_child (ceiling_for (separator s.child) t.key ceiling) s.child (t ∷ ts) run in
      let p = settle st o.result s.before o.node s.after o.run.unused in
      let on =
      walk turns ceiling p.before p.rest (changed || is_change o.result) o.tasks (record { unused = p.unused; counts = o.run.counts }) in
      cond (leb t.key ceiling) on (stop before (c ∷ cs) changed (t ∷ ts) run)

  abbrev pub change_interior : ℕ → Node (Node X) → List Task → Run → Outcome (Node (Node X))
  change_interior ceiling n ts run = conclude st n (walk (length ts) ceiling [] n.items false ts run)

-- a node of any level: the height falls
abbrev pub change : Settings → (h : ℕ) → ℕ → Tree h → List Task → Run → Outcome (Tree h)
change st zero = change_leaf st
change st (suc h) = change_interior st (greatest_key (suc h)) (change st h)

-- ROOT

-- no key exceeds it, so the root has no ceiling
abbrev pub no_ceiling : ℕ
no_ceiling = 2 ^ 64 - 1

-- a root above two parts of t: the lower has k items and takes the lowest unused slot, the upper takes the next
abbrev pub cut_root : ℕ → (h : ℕ) → Tree h → List ℕ → Index
cut_root k h t unused =
    let two = cut_at k (record { slot = lowest unused; items = t.items }) (lowest (others unused)) in
    record { height = suc h; root = record { slot = t.slot; items = two.lower ∷ two.upper ∷ [] }; unused = others (others unused) }

-- a root that is split keeps the half of its items in the lower part
abbrev pub split_root : (h : ℕ) → Tree h → List ℕ → Index
split_root h t unused = cut_root (half (len t)) h t unused

abbrev pub settle_root : ChangeResult → (h : ℕ) → Tree h → List ℕ → Index
settle_root Unchanged h t unused = record { height = h; root = t; unused = unused }
settle_root Changed h t unused = record { height = h; root = t; unused = unused }
settle_root Absorb h t unused = record { height = h; root = t; unused = unused }
settle_root Split h t unused = split_root h t unused
settle_root Remove h t unused = record { height = zero; root = record { slot = t.slot; items = [] }; unused = unused }

pub record Batched : Type 0 where
  pub index : Index
  pub tasks : List Task
  pub counts : Counts

-- the root is called again until no task is left; each call takes one at least
abbrev pub change_root : Settings → ℕ → Index → List Task → Counts → Batched
change_root st zero x ts c = record { index = x; tasks = ts; counts = c }
change_root st (suc calls) x [] c = record { index = x; tasks = []; counts = c }
change_root st (suc calls) x (t ∷ ts) c =
    let o = change st x.height no_ceiling x.root (t ∷ ts) (record { unused = x.unused; counts = c }) in
    change_root st calls (settle_root o.result x.height o.node o.run.unused) o.tasks o.run.counts

-- while an interior root has one child, that child moves into the root's slot
abbrev pub collapse : (h slot : ℕ) → List (Item h) → List ℕ → Index
collapse zero slot es unused = record { height = zero; root = record { slot = slot; items = es }; unused = unused }
collapse (suc h) slot [] unused = record { height = suc h; root = record { slot = slot; items = [] }; unused = unused }
collapse (suc h) slot (c ∷ []) unused = collapse h slot c.items (release c.slot unused)
collapse (suc h) slot (c ∷ (d ∷ cs)) unused = record { height = suc h; root = record { slot = slot; items = c ∷ d ∷ cs }; unused = unused }

abbrev pub batch : Settings → List Task → Index → Batched
batch st ts x =
    let b = change_root st (length ts) x ts no_counts in
    let y = b.index in
    record { index = collapse y.height y.root.slot y.root.items y.unused; tasks = b.tasks; counts = b.counts }
