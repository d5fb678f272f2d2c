-- The tasks of a batch by their place, and what taking them leaves alone. Assumes nothing.
use mathlib.Core.Path.{◌≡◌, refl, subst}
use mathlib.Core.Bool.{Bool, ◌&&◌, ◌||◌}
use mathlib.Core.List.{List, [], ◌∷◌}
use Prim.Native.Nat.{ℕ, zero, suc, ◌+◌, ◌≤◌, ◌<◌}
use native.Mathlib.Nat.{not-suc-le-zero, le_of_suc-le-suc}
use native.Mathlib.Omega.{arith}
use lib.Dec.{leb}
use lib.ListN.{length, get_or, drop, drop_of_length-le}
use Rattle.model.specs.declared.Reference.{Reference}
use Rattle.model.specs.declared.Entry.{Entry}
use Rattle.model.specs.declared.Operation.{Operation}
use Rattle.model.specs.declared.Operation.TheVariants as Op
use Rattle.model.specs.declared.Action.TheVariants as Do
use Rattle.model.specs.declared.Wish.{Wish}
use Rattle.model.specs.declared.Wish.TheVariants.{Always, IfMet}
use Rattle.model.specs.Plain.{Task, each, pairs, references, step, effect_on, alters}
use Rattle.model.specs.Refuse.{Call, call, tasks_of}
use Rattle.model.specs.Change.{Run, Walked, take_tasks, counted}
use Rattle.model.proofs.Lists.{by_test}
use Rattle.batch_leaf.specs.Promises.{ToWish}
use Rattle.batch_leaf.specs.Keys.{task_at}

-- THE NEXT TASK

each_next : (w : Wish) (ks : List ℕ) (n : ℕ) → n < length ks → drop n (each w ks) ≡ record { key = get_or ks n 0; wish = w } ∷ drop (suc n) (each w ks)
each_next w [] n h = absurd (not-suc-le-zero h)
each_next w (k ∷ ks) zero h = refl
each_next w (k ∷ ks) (suc n) h = each_next w ks n (le_of_suc-le-suc h)

pairs_next : (ps zs ks : List ℕ) (n : ℕ) → n < length ks → length ks ≤ length ps → length ks ≤ length zs
    → drop n (pairs (references ps zs) ks) ≡ task_at (call Op.SetEach ps zs ks) n ∷ drop (suc n) (pairs (references ps zs) ks)
pairs_next ps zs [] n h p z = absurd (not-suc-le-zero h)
pairs_next [] zs (k ∷ ks) n h p z = absurd (not-suc-le-zero p)
pairs_next (a ∷ ps) [] (k ∷ ks) n h p z = absurd (not-suc-le-zero z)
pairs_next (a ∷ ps) (b ∷ zs) (k ∷ ks) zero h p z = refl
pairs_next (a ∷ ps) (b ∷ zs) (k ∷ ks) (suc n) h p z = pairs_next ps zs ks n (le_of_suc-le-suc h) (le_of_suc-le-suc p) (le_of_suc-le-suc z)

next_of : (op : Operation) (ps zs ks : List ℕ) (n : ℕ) → n < length ks → ToWish op ps zs (length ks)
    → drop n (tasks_of (call op ps zs ks)) ≡ task_at (call op ps zs ks) n ∷ drop (suc n) (tasks_of (call op ps zs ks))
next_of (Op.Set r) ps zs ks n h l = each_next (Always (Do.Set r)) ks n h
next_of Op.SetEach ps zs ks n h l = pairs_next ps zs ks n h l.0 l.1
next_of Op.Remove ps zs ks n h l = each_next (Always Do.Remove) ks n h
next_of (Op.Compare e a) ps zs ks n h l = each_next (IfMet e a) ks n h

pub task_next : (b : Call) (n : ℕ) → n < length b.keys → ToWish b.operation b.places b.sizes (length b.keys)
    → drop n (tasks_of b) ≡ task_at b n ∷ drop (suc n) (tasks_of b)
task_next b n h l = next_of b.operation b.places b.sizes b.keys n h l

-- the reference of that task is lent
lent_less : (op : Operation) (ps zs : List ℕ) (n m : ℕ) → m ≤ n → ToWish op ps zs n → ToWish op ps zs m
lent_less (Op.Set r) ps zs n m h l = tt
lent_less Op.SetEach ps zs n m h l = (omega (arith, l.0), omega (arith, l.1))
lent_less Op.Remove ps zs n m h l = tt
lent_less (Op.Compare e a) ps zs n m h l = tt

pub lent_next : (b : Call) (n : ℕ) → n < length b.keys → ToWish b.operation b.places b.sizes (length b.keys)
    → ToWish b.operation b.places b.sizes (n + 1)
lent_next b n h l = lent_less b.operation b.places b.sizes (length b.keys) (n + 1) (omega arith) l

-- a SetEach has both lists
pub lent_each : {op : Operation} (ps zs : List ℕ) (n : ℕ) → op ≡ Op.SetEach → ToWish op ps zs n → (n ≤ length ps) × (n ≤ length zs)
lent_each ps zs n e l = subst (λ (o : Operation). ToWish o ps zs n) e l

-- NO TASK IS LEFT behind the last key

each_few : (w : Wish) (ks : List ℕ) → length (each w ks) ≤ length ks
each_few w [] = omega arith
each_few w (k ∷ ks) = omega (arith, each_few w ks)

pairs_few : (rs : List Reference) (ks : List ℕ) → length (pairs rs ks) ≤ length ks
pairs_few [] [] = omega arith
pairs_few [] (k ∷ ks) = omega arith
pairs_few (r ∷ rs) [] = omega arith
pairs_few (r ∷ rs) (k ∷ ks) = omega (arith, pairs_few rs ks)

tasks_few : (op : Operation) (ps zs ks : List ℕ) → length (tasks_of (call op ps zs ks)) ≤ length ks
tasks_few (Op.Set r) ps zs ks = each_few (Always (Do.Set r)) ks
tasks_few Op.SetEach ps zs ks = pairs_few (references ps zs) ks
tasks_few Op.Remove ps zs ks = each_few (Always Do.Remove) ks
tasks_few (Op.Compare e a) ps zs ks = each_few (IfMet e a) ks

pub task_none : (b : Call) (n : ℕ) → length b.keys ≤ n → drop n (tasks_of b) ≡ []
task_none b n h = drop_of_length-le (tasks_of b) {i = n} (omega (arith, tasks_few b.operation b.places b.sizes b.keys))

-- THE UNUSED SLOTS stay as they were where tasks are taken

pub taken_unused : (limit ceiling : ℕ) (ts : List Task) (es : List Entry) (changed : Bool) (run : Run)
    → (take_tasks limit ceiling ts es changed run).run.unused ≡ run.unused
taken_unused limit ceiling [] es changed run = refl
taken_unused limit ceiling (t ∷ ts) es changed run =
    by_test (λ (w : Walked Entry). w.run.unused ≡ run.unused) (leb t.key ceiling && leb (length es) limit)
    (λ _. taken_unused limit ceiling ts (step t es) (changed || alters (effect_on t es)) (counted (effect_on t es) run)) (λ _. refl)
