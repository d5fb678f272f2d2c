-- The words in which the contracts of the inner crates of a batch speak: nodes side by side, what a child's result says of it and may
-- take, and what is asked of a node and of the tasks that come to it. Assumes nothing.
use Rattle.std.specs.Prelude.{◌≡◌, ◌⊎◌, List, [], ◌∷◌, ◌++◌, map, ℕ, zero, suc, ◌*◌, ◌≤◌, ◌<◌, length}
use Rattle.model.specs.declared.Entry.{Entry}
use Rattle.model.specs.declared.Settings.{Settings}
use Rattle.model.specs.declared.Action.{Action}
use Rattle.model.specs.declared.Action.TheVariants as Do
use Rattle.model.specs.Lists.{concat, All, Ordered}
use Rattle.model.specs.Tree.{Node, Item, Tree, len, entries}
use Rattle.model.specs.declared.Wish.{Wish}
use Rattle.model.specs.declared.Wish.TheVariants.{Always, IfMet}
use Rattle.model.specs.Plain.{Task, entry_for}
use Rattle.model.specs.declared.ChangeResult.{ChangeResult}
use Rattle.model.specs.declared.ChangeResult.TheVariants.{Unchanged, Remove, Split, Absorb, Changed}
use Rattle.model.specs.Sound.{Stocked, Whole, Sorted}

-- NODES SIDE BY SIDE

-- the entries of items
abbrev pub flat : (h : ℕ) → List (Item h) → List Entry
flat h xs = concat (map (entries h) xs)

-- the items of nodes ..
abbrev pub joined : {X : Type 0} → List (Node X) → List X
joined ns = concat (map (λ n. n.items) ns)

-- .. and of nodes that stand in reverse
abbrev pub back : {X : Type 0} → List (Node X) → List X
back [] = []
back (c ∷ cs) = back cs ++ c.items

-- A CHILD'S RESULT

module _ (st : Settings) {X : Type 0} where
  -- over-full: above order, at most twice that
  pub record OverFull (c : Node X) : Type 0 where
    pub over : st.order < len c
    pub twice : len c ≤ 2 * st.order

  -- what it says of the child
  abbrev pub Says : ChangeResult → Node X → Type 0
  Says Unchanged c = Stocked st c
  Says Changed c = Stocked st c
  Says Absorb c = Stocked st c
  Says Split c = OverFull c
  Says Remove c = c.items ≡ []

-- how many nodes it may take
abbrev pub takes : ChangeResult → ℕ
takes Unchanged = 0
takes Changed = 0
takes Absorb = 0
takes Split = 1
takes Remove = 0

-- TASKS

-- keys ascend, equal neighbours allowed
abbrev pub Rising : List Task → Type 0
Rising ts = Ordered (λ t u. t.key ≤ u.key) ts

-- all tasks are plain removals
abbrev pub Removing : List Task → Type 0
Removing ts = All (λ t. t.wish ≡ Always Do.Remove) ts

-- the next task is for this ceiling
abbrev pub Due : ℕ → List Task → Type 0
Due ceiling [] = ⊥
Due ceiling (t ∷ ts) = t.key ≤ ceiling

-- P holds of the entry that a task would put
module _ (P : Entry → Type 0) where
  abbrev pub Puts : ℕ → Action → Type 0
  Puts k (Do.Set r) = P (entry_for k r)
  Puts k Do.Remove = Unit {0}

  abbrev pub Grants : Task → Type 0
  Grants t = grants t.key t.wish
    where
      grants : ℕ → Wish → Type 0
      grants k (Always a) = Puts k a
      grants k (IfMet e a) = Puts k a

-- A NODE AND THE TASKS THAT COME TO IT

-- a node of the tree, and tasks that may come to it
pub record Given (st : Settings) (h : ℕ) (n : Tree h) (ts : List Task) : Type 0 where
  pub whole : All (Whole st h) n.items
  pub few : len n ≤ st.order
  pub sorted : Sorted (flat h n.items)
  pub rising : Rising ts
  pub short : length ts ≤ st.order

-- a lone leaf has at most order entries, an interior has 1 to order children
abbrev pub Ready : Settings → (h : ℕ) → Tree h → Type 0
Ready st zero n = len n ≤ st.order
Ready st (suc h) n = Stocked st n

-- there are unused slots enough: one a level for each task, or the tasks are removals
abbrev pub Enough : ℕ → List Task → List ℕ → Type 0
Enough h ts unused = (length ts * h ≤ length unused) ⊎ Removing ts
