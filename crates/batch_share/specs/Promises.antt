-- What settling a child's result asks of a node and its children in the pool, and the steps of which it is made; and what each promises, the model's
-- place. Assumes nothing.
use Rattle.std.specs.Prelude.{ℕ, suc, ◌+◌, ◌*◌, ◌≤◌, ◌<◌, ◌≡◌, ◌≢◌, length}
use mathlib.Core.List.{List, ◌∷◌, ◌++◌, reverse_aux}
use Rattle.slots_raw.specs.Slots.{head_in}
use Rattle.slots.specs.Nodes.{Held, nodes, nth, rows_at}
use Rattle.slots.specs.Nodes as S
use Rattle.model.specs.declared.Settings.{Settings}
use Rattle.model.specs.Lists.{All}
use Rattle.model.specs.Tree.{Tree, slots, Item}
use Rattle.model.specs.Share.{Place, Two, Row, stay}
use Rattle.model.specs.declared.ChangeResult.{ChangeResult}
use Rattle.model.specs.declared.ChangeResult.TheVariants.{Unchanged}
use Rattle.model.specs.Change.{settle}
use Rattle.model.specs.Sound.{Stocked, Fits}
use Rattle.model.specs.Promises.{flat, joined, back, Says, takes}
use Rattle.tree.specs.Bridge.{node_for, cells_of, Stands, Holds, unused_of, Blank, Apart, Frame}
use Rattle.tree_spare.specs.declared.Spare.{Spare}
use Rattle.tree_spare.specs.Spared.{Spared}
use Rattle.tree.specs.Sums.{Sums}
use Rattle.batch_share.specs.declared.Standing.{Standing}
use Rattle.batch_share.specs.Children.{inner, kids_at, child_at, before_at, after_at}

-- THE PARENT'S ROWS made new

-- row i of node s names child c
pub record ToName (st : Settings) (W : List ℕ) (h s i : ℕ) (c : Tree h) : Type 0 where
  pub held : Held st W
  pub parent : s < st.nodes
  pub within : i < length (rows_at st W s)
  pub own : nth (nodes st W) c.slot ≡ node_for h c

-- row i of node s can be made that of node c
pub record ToRenew (st : Settings) (W : List ℕ) (h s i c : ℕ) : Type 0 where
  pub held : Held st W
  pub parent : s < st.nodes
  pub within : i < length (rows_at st W s)
  pub slot : c < st.nodes
  pub sums : Sums h (rows_at st W c)

-- rows i and i + 1 can be made those of nodes p and c
pub record ToRenewTwo (st : Settings) (W : List ℕ) (h s i p c : ℕ) : Type 0 where
  pub held : Held st W
  pub parent : s < st.nodes
  pub within : i + 1 < length (rows_at st W s)
  pub slot : p < st.nodes
  pub slot2 : c < st.nodes
  pub away : c ≢ s
  pub sums : Sums h (rows_at st W p)
  pub sums2 : Sums h (rows_at st W c)

-- A FAMILY: node s and its children, of height h, in the pool

-- items whose totals fit their places in a row
pub record Bounded (h : ℕ) (xs : List (Item h)) : Type 0 where
  pub small : length (flat h xs) < 1048576
  pub fit : All Fits (flat h xs)

-- the pool holds node s with these children
pub record Family (st : Settings) (W : List ℕ) (h s : ℕ) (kids : List (Tree h)) : Type 0 where
  pub held : Held st W
  pub holds : Holds (nodes st W) (suc h) (inner h s kids)
  pub apart : Apart (suc h) (inner h s kids)
  pub bounded : Bounded h (joined kids)
  pub empty : Blank (nodes st W)

-- child c is child i
pub record Focus (st : Settings) (W : List ℕ) (h s i : ℕ) (before : List (Tree h)) (c : Tree h) (after : List (Tree h)) : Type 0 where
  pub family : Family st W h s (reverse_aux before (c ∷ after))
  pub at : i ≡ length before

-- .. as the pool has them
abbrev pub ToFocus : Settings → List ℕ → ℕ → ℕ → ℕ → Type 0
ToFocus st W h s i = let ns = nodes st W in Focus st W h s i (before_at ns h s i) (child_at ns h s i) (after_at ns h s i)

-- .. among stocked siblings, and may take k more slots
pub record Poise (st : Settings) (W : List ℕ) (h s i : ℕ) (spare : Spare) (k : ℕ) (before : List (Tree h)) (c : Tree h)
    (after : List (Tree h)) : Type 0 where
  pub family : Family st W h s (reverse_aux before (c ∷ after))
  pub at : i ≡ length before
  pub stocked_before : All (Stocked st) before
  pub stocked_after : All (Stocked st) after
  pub few : length (rows_at st W s) + k ≤ 2 * st.order
  pub room : k ≤ length (unused_of (nodes st W))
  pub spared : Spared (nodes st W) spare

-- .. as the pool has them
abbrev pub ToStep : Settings → List ℕ → ℕ → ℕ → ℕ → Spare → ℕ → Type 0
ToStep st W h s i spare k = let ns = nodes st W in Poise st W h s i spare k (before_at ns h s i) (child_at ns h s i) (after_at ns h s i)

-- p and c are children i and i + 1
pub record Beside (st : Settings) (W : List ℕ) (h s i : ℕ) (before : List (Tree h)) (p c : Tree h) (after : List (Tree h)) : Type 0 where
  pub family : Family st W h s (reverse_aux before (p ∷ c ∷ after))
  pub at : i ≡ length before

-- .. as the pool has them
abbrev pub Neighbours : Settings → List ℕ → ℕ → ℕ → ℕ → Type 0
Neighbours st W h s i =
    let ns = nodes st W in Beside st W h s i (before_at ns h s i) (child_at ns h s i) (child_at ns h s (i + 1)) (after_at ns h s (i + 1))

-- node c has the minimum to hand over from, and node t at most order rows
pub record ToHand (st : Settings) (W : List ℕ) (c t : ℕ) : Type 0 where
  pub held : Held st W
  pub slot : c < st.nodes
  pub slot2 : t < st.nodes
  pub some : st.minimum ≤ length (rows_at st W c)
  pub few : length (rows_at st W t) ≤ st.order

-- the rows of nodes p and c can be shared between them
pub record ToLevel (st : Settings) (W : List ℕ) (p c : ℕ) : Type 0 where
  pub held : Held st W
  pub slot : p < st.nodes
  pub slot2 : c < st.nodes
  pub apart : p ≢ c
  pub few : length (rows_at st W p) + length (rows_at st W c) ≤ 2 * st.order

-- A CHILD'S RESULT, to be settled

-- the child is changed, and its parent's row is still the old child's
pub record Loose (h s : ℕ) (ns : List S.Node) (before : List (Tree h)) (old new : Tree h) (after : List (Tree h)) : Type 0 where
  pub parent : nth ns s ≡ node_for (suc h) (inner h s (reverse_aux before (old ∷ after)))
  pub kids : All (Stands ns) (cells_of (suc h) (reverse_aux before (new ∷ after)))
  pub slot : new.slot ≡ old.slot
  pub apart : Apart (suc h) (inner h s (reverse_aux before (new ∷ after)))

-- .. with the result v, among stocked siblings
pub record Pend (st : Settings) (W : List ℕ) (h s i : ℕ) (spare : Spare) (v : ChangeResult) (before : List (Tree h)) (new : Tree h)
    (after : List (Tree h)) : Type 0 where
  pub held : Held st W
  pub within : i < length (rows_at st W s)
  -- a split adds a row
  pub few : length (rows_at st W s) + 1 ≤ 2 * st.order
  pub old : Tree h
  pub loose : Loose h s (nodes st W) before old new after
  -- a child that did not change is the old one
  pub kept : v ≡ Unchanged → new ≡ old
  pub says : Says st v new
  pub stocked_before : All (Stocked st) before
  pub stocked_after : All (Stocked st) after
  -- a split takes a slot
  pub room : takes v ≤ length (unused_of (nodes st W))
  -- totals fit their places in a row
  pub small : length (flat h (back before ++ (new.items ++ joined after))) < 1048576
  pub fit : All Fits (flat h (back before ++ (new.items ++ joined after)))
  pub empty : Blank (nodes st W)
  pub spared : Spared (nodes st W) spare

-- .. as the pool has them
abbrev pub ToSettle : Settings → List ℕ → ℕ → ℕ → ℕ → Spare → ChangeResult → Type 0
ToSettle st W h s i spare v = let ns = nodes st W in Pend st W h s i spare v (before_at ns h s i) (child_at ns h s i) (after_at ns h s i)

-- WHAT IS PROMISED

-- the nodes hold the place p, and every slot in use outside the tree is as it was
pub record Settled (h s : ℕ) (ns ms : List S.Node) (kids : List (Tree h)) (p : Place (Tree h)) : Type 0 where
  pub holds : Holds ms (suc h) (inner h s (reverse_aux p.before p.rest))
  pub unused : unused_of ms ≡ p.unused
  pub frame : Frame ns ms (slots (suc (suc h)) (inner h s kids))
  pub empty : Blank ms

-- .. as the model settles the result v
pub record Ended (st : Settings) (W W' : List ℕ) (h s : ℕ) (v : ChangeResult) (r : Standing) (kids before : List (Tree h)) (new : Tree h)
    (after : List (Tree h)) : Type 0 where
  pub held : Held st W'
  pub header : head_in W' ≡ head_in W
  pub settled : Settled h s (nodes st W) (nodes st W') kids (settle st v before new after (unused_of (nodes st W)))
  -- the walk goes on from this child
  pub at : r.at ≡ length (settle st v before new after (unused_of (nodes st W))).before
  pub spared : Spared (nodes st W') r.spare

-- .. of child i, as the pool had it
abbrev pub ChildSettled : Settings → List ℕ → List ℕ → ℕ → ℕ → ℕ → ChangeResult → Standing → Type 0
ChildSettled st W W' h s i v r =
    let ns = nodes st W in Ended st W W' h s v r (kids_at ns h s) (before_at ns h s i) (child_at ns h s i) (after_at ns h s i)

-- the pool holds the place p
pub record Came (st : Settings) (W W' : List ℕ) (h s : ℕ) (kids : List (Tree h)) (p : Place (Tree h)) : Type 0 where
  pub held : Held st W'
  pub header : head_in W' ≡ head_in W
  pub settled : Settled h s (nodes st W) (nodes st W') kids p

-- .. and `spare` is what is unused
pub record Left (st : Settings) (W W' : List ℕ) (h s : ℕ) (spare : Spare) (kids : List (Tree h)) (p : Place (Tree h)) : Type 0 where
  pub came : Came st W W' h s kids p
  pub spared : Spared (nodes st W') spare

-- two neighbours became two others
abbrev pub Parted : Settings → List ℕ → List ℕ → (h s i : ℕ) → Two (Item h) → Type 0
Parted st W W' h s i two =
    let ns = nodes st W in
    Came st W W' h s (kids_at ns h s)
    (record { before = before_at ns h s i; rest = two.lower ∷ two.upper ∷ after_at ns h s (i + 1); unused = unused_of ns })

-- child i and what is behind it became the row r
abbrev pub Rowed : Settings → List ℕ → List ℕ → (h s i : ℕ) → Spare → Row (Tree h) → Type 0
Rowed st W W' h s i spare r = Left st W W' h s spare (kids_at (nodes st W) h s) (stay (before_at (nodes st W) h s i) r)
