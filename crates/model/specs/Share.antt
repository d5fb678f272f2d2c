-- Splitting, sharing and joining of nodes over items of any kind, so of leaves and interiors at once; and the place from which a walk goes on.
-- Assumes nothing.
use Rattle.std.specs.Prelude.{Bool, cond, List, [], ◌∷◌, ◌++◌, ℕ, ◌+◌, ◌-◌, ◌/◌, min, take, drop, leb}
use Rattle.model.specs.declared.Settings.{Settings}
use Rattle.model.specs.Tree.{Node, len, refill, lowest, others, release}

-- two neighbours
pub record Two (X : Type 0) : Type 0 where
  pub lower : Node X
  pub upper : Node X

-- nodes side by side, and the unused slots
pub record Row (Y : Type 0) : Type 0 where
  pub nodes : List Y
  pub unused : List ℕ

-- Where a walk stands among the children of a node, and the unused slots. `rest` begins with the walk's child; `before` has the children
-- before it, the nearest first, so that one step back is one constructor moved.
pub record Place (Y : Type 0) : Type 0 where
  pub before : List Y
  pub rest : List Y
  pub unused : List ℕ

module _ {Y : Type 0} where
  abbrev pub followed : Row Y → List Y → Row Y
  followed r ys = record { nodes = r.nodes ++ ys; unused = r.unused }

  -- the walk stays at the first node of a row ..
  abbrev pub stay : List Y → Row Y → Place Y
  stay before r = record { before = before; rest = r.nodes; unused = r.unused }

  -- .. or steps one child back, if there is one
  abbrev pub step_back : List Y → Row Y → Place Y
  step_back [] r = stay [] r
  step_back (p ∷ before) r = record { before = before; rest = p ∷ r.nodes; unused = r.unused }

-- A NODE CUT in two

-- how many of n items the lower node has where they are halved
abbrev pub half : ℕ → ℕ
half n = (n + 1) / 2

-- the lower part keeps the node's slot and k items, the upper takes slot s
abbrev pub cut_at : {X : Type 0} → ℕ → Node X → ℕ → Two X
cut_at k n s = record { lower = refill n (take k n.items); upper = record { slot = s; items = drop k n.items } }

module _ (st : Settings) {X : Type 0} where
  abbrev pub fits : Node X → Bool
  fits n = leb (len n) st.order

  abbrev pub full : Node X → Bool
  full n = leb st.order (len n)

  -- SHARING: a child hands over the smaller of the sibling's free space and its own length less the minimum
  abbrev pub handed : Node X → Node X → ℕ
  handed child sibling = min (st.order - len sibling) (len child - st.minimum)

  -- to the previous sibling p go its first items ..
  abbrev pub share_back : Node X → Node X → Two X
  share_back p c = record { lower = refill p (p.items ++ take (handed c p) c.items); upper = refill c (drop (handed c p) c.items) }

  -- .. and to the next sibling n its last ones
  abbrev pub share_on : Node X → Node X → Two X
  share_on c n =
      record { lower = refill c (take (len c - handed c n) c.items); upper = refill n (drop (len c - handed c n) c.items ++ n.items) }

  -- AN OVER-FULL CHILD shares with the previous sibling, then with the next, then is split, as long as it does not fit

  -- one that is split keeps the half of its items, and the rest takes the lowest unused slot
  abbrev pub split_over : Node X → List ℕ → Row (Node X)
  split_over c unused =
      let two = cut_at (half (len c)) c (lowest unused) in
      cond (fits c) (record { nodes = c ∷ []; unused = unused }) (record { nodes = two.lower ∷ two.upper ∷ []; unused = others unused })

  abbrev pub share_next : Node X → List (Node X) → List ℕ → Row (Node X)
  share_next c [] unused = split_over c unused
  share_next c (n ∷ after) unused =
      let two = share_on c n in
      cond (fits c) (record { nodes = c ∷ n ∷ after; unused = unused }) (followed (split_over two.lower unused) (two.upper ∷ after))

  -- having shared with the previous sibling the walk steps back
  abbrev pub share_out : List (Node X) → Node X → List (Node X) → List ℕ → Place (Node X)
  share_out [] c after unused = stay [] (share_next c after unused)
  share_out (p ∷ before) c after unused =
      let two = share_back p c in
      cond (full p) (stay (p ∷ before) (share_next c after unused)) (step_back (two.lower ∷ before) (share_next two.upper after unused))

  -- A CHILD BELOW THE MINIMUM is joined with the previous sibling, or with the next if it is the first. An only child stays.

  -- a joint length up to order merges into the lower node's slot; a longer one is evened out, the half in the lower node
  abbrev pub join : Node X → Node X → List ℕ → Row (Node X)
  join a b unused =
      let both = refill a (a.items ++ b.items) in
      let two = cut_at (half (len both)) both b.slot in
      cond (fits both) (record { nodes = both ∷ []; unused = release b.slot unused })
      (record { nodes = two.lower ∷ two.upper ∷ []; unused = unused })

  -- the joint nodes begin at the sibling before the child, so that the walk has stepped back
  abbrev pub absorb : List (Node X) → Node X → List (Node X) → List ℕ → Place (Node X)
  absorb [] c [] unused = record { before = []; rest = c ∷ []; unused = unused }
  absorb [] c (n ∷ after) unused = stay [] (followed (join c n unused) after)
  absorb (p ∷ before) c after unused = stay before (followed (join p c unused) after)

-- A CHILD LEFT EMPTY goes, its slot is unused, and the walk steps back
abbrev pub take_out : {X : Type 0} → List (Node X) → Node X → List (Node X) → List ℕ → Place (Node X)
take_out before c after unused = step_back before (record { nodes = after; unused = release c.slot unused })
