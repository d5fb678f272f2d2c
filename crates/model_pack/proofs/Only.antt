-- A sound index that is packed is the one that packing makes: its tree, by the pieces that its children hold; its height; and its unused slots.
-- Assumes nothing.
use mathlib.Core.Path.{◌≡◌, refl, sym, ap, ap₂, ◌∙◌, subst}
use mathlib.Core.List.{List, [], ◌∷◌, ◌++◌, append-nil}
use Prim.Native.Nat.{ℕ, zero, suc, ◌+◌, ◌-◌, ◌*◌, ◌≤◌, ◌<◌}
use native.Mathlib.Omega.{arith}
use native.Mathlib.Decide.{dec_lt}
use native.Mathlib.Nat.{le_refl, le_trans}
use lib.ListN.{length, take, drop, length-append, drop_of_length-le}
use lib.Seq.{take_all, take_at, drop_at}
use Rattle.model.specs.declared.Entry.{Entry}
use Rattle.model.specs.declared.Settings.{Settings}
use Rattle.model.specs.Lists.{up_from, All, none, one}
use Rattle.model.specs.Tree.{Tree, Index, len, entries, slots, entries_of, slots_of}
use Rattle.model.specs.Frame.{nodes_in}
use Rattle.model.specs.Sound.{Whole, Rooted, Sound}
use Rattle.model.specs.Promises.{flat}
use Rattle.model_pack.specs.Pack.{capacity, height_for, pieces, in_preorder, packed}
use Rattle.model_pack.specs.Packing.{lengths_at, Full}
use Rattle.model.specs.Forest.{index_with}
use Rattle.model_pack.specs.PackForest.{packed_tree, IsPackedTree}
use Rattle.model.proofs.Lists.{all_left, all_right, all_head}
use Rattle.model.proofs.Trees.{flat_zero, slots_in, separator_ends, root_few}
use Rattle.model_pack.proofs.Pieces.{capacity_up, height_fits, height_least}
use Rattle.model_pack.proofs.Packs.{tree_fits}
use Rattle.model_pack.proofs.Levels.{lengths_in, level_top, level_below, row_some}

-- FULL LEVELS IN PARTS

module _ (o : ℕ) where
  full_tail : (n : ℕ) (l : List ℕ) → Full o (n ∷ l) → Full o l
  full_tail n [] f = tt
  full_tail n (m ∷ l) f = f.1

  full_left : (a b : List ℕ) → Full o (a ++ b) → Full o a
  full_left [] b f = tt
  full_left (n ∷ []) [] f = f
  full_left (n ∷ []) (m ∷ b) f = omega (arith, f.0)
  full_left (n ∷ (m ∷ a)) b f = (f.0, full_left (m ∷ a) b f.1)

  full_right : (a b : List ℕ) → Full o (a ++ b) → Full o b
  full_right [] b f = f
  full_right (n ∷ a) b f = full_right a b (full_tail n (a ++ b) f)

  -- a node is full that is followed by another
  full_before : (a b : List ℕ) → 0 < length b → Full o (a ++ b) → All (λ n. n ≡ o) a
  full_before [] b g f = none
  full_before (n ∷ []) [] g f = absurd (omega arith)
  full_before (n ∷ []) (m ∷ b) g f = one f.0 none
  full_before (n ∷ (m ∷ a)) b g f = one f.0 (full_before (m ∷ a) b g f.1)

-- HOW MANY ENTRIES

-- a tree whose nodes are all full holds as many as its height allows
abbrev Complete : ℕ → (h : ℕ) → Tree h → Type 0
Complete o h t = (j : ℕ) → j ≤ h → All (λ n. n ≡ o) (lengths_at j h t)

module _ (o h : ℕ) (f : (t : Tree h) → Complete o h t → length (entries (suc h) t) ≡ capacity o h) where
  row_exactly : (cs : List (Tree h)) → ((j : ℕ) → j ≤ h → All (λ n. n ≡ o) (lengths_in j h cs)) → length (flat (suc h) cs) ≡ length cs * capacity o h
  row_exactly [] g = omega arith
  row_exactly (c ∷ cs) g =
      omega (
        arith,
        length-append (entries (suc h) c) (flat (suc h) cs),
        f c (λ j le. all_left (lengths_at j h c) (lengths_in j h cs) (g j le)),
        row_exactly cs (λ j le. all_right (lengths_at j h c) (lengths_in j h cs) (g j le)),
      )

holds_all : (o h : ℕ) (t : Tree h) → Complete o h t → length (entries (suc h) t) ≡ capacity o h
holds_all o zero t g = omega (arith, all_head (g zero (le_refl _)), ap length (flat_zero t.items))
holds_all o (suc h) t g =
    let top : All (λ n. n ≡ o) (len t ∷ []) = subst (All (λ n. n ≡ o)) (level_top (suc h) t) (g (suc h) (le_refl _)) in
    let below : (j : ℕ) → j ≤ h → All (λ n. n ≡ o) (lengths_in j h t.items) =
    λ j le. subst (All (λ n. n ≡ o)) (level_below j h t le) (g j (omega arith)) in
    row_exactly o h (holds_all o h) t.items below ∙ ap (λ (n : ℕ). n * capacity o h) (all_head top)

-- the first of several siblings is such a tree: none of its nodes is the last of its level
first_complete : (st : Settings) (h : ℕ) (c d : Tree h) (cs : List (Tree h)) → All (Whole st (suc h)) (d ∷ cs)
    → ((j : ℕ) → j ≤ h → Full st.order (lengths_in j h (c ∷ (d ∷ cs)))) → length (entries (suc h) c) ≡ capacity st.order h
first_complete st h c d cs ws full =
    holds_all st.order h c
    (λ j le. full_before st.order (lengths_at j h c) (lengths_in j h (d ∷ cs)) (omega (arith, row_some st j h ws le)) (full j le))

-- a whole node is not empty
whole_some : (st : Settings) (h : ℕ) (t : Tree h) → Whole st (suc h) t → 0 < length (entries (suc h) t)
whole_some st h t w =
    let e = separator_ends st (suc h) t w in
    omega (arith, ap length e.whole, length-append e.init (e.last ∷ []))

-- SLOTS that go out one after the other, from i on

abbrev InTurn : ℕ → List ℕ → Type 0
InTurn i [] = Unit {0}
InTurn i (s ∷ l) = (s ≡ i) × InTurn (suc i) l

turn_up : (i n : ℕ) → InTurn i (up_from i n)
turn_up i zero = tt
turn_up i (suc n) = (refl, turn_up (suc i) n)

turn_left : (i : ℕ) (a b : List ℕ) → InTurn i (a ++ b) → InTurn i a
turn_left i [] b t = tt
turn_left i (s ∷ a) b t = (t.0, turn_left (suc i) a b t.1)

turn_right : (i : ℕ) (a b : List ℕ) → InTurn i (a ++ b) → InTurn (i + length a) b
turn_right i [] b t = let e : i ≡ i + 0 = omega arith in subst (λ (k : ℕ). InTurn k b) e t
turn_right i (s ∷ a) b t =
    let e : suc i + length a ≡ i + suc (length a) = omega arith in
    subst (λ (k : ℕ). InTurn k b) e (turn_right (suc i) a b t.1)

-- THE TREE is the packed one over its entries

pieces_more : (most n : ℕ) (l : List Entry) → 0 < length l → pieces (suc most) n l ≡ take n l ∷ pieces most n (drop n l)
pieces_more most n [] g = absurd (omega arith)
pieces_more most n (x ∷ l) g = refl

-- of a tree of height h, from slot i on below its root
abbrev IsOnly : Settings → (h : ℕ) → Tree h → Type 0
IsOnly st h t =
    (i : ℕ) → len t ≤ st.order → All (Whole st h) t.items → ((j : ℕ) → j ≤ h → Full st.order (lengths_at j h t))
    → InTurn i (slots_in h t.items) → t ≡ packed st.order h t.slot i (entries (suc h) t)

module _ (st : Settings) (h : ℕ) (f : (c : Tree h) → IsOnly st h c) where
  -- the first of some siblings holds the first piece
  first_piece : (c : Tree h) (cs : List (Tree h)) → Whole st (suc h) c → All (Whole st (suc h)) cs
      → ((j : ℕ) → j ≤ h → Full st.order (lengths_in j h (c ∷ cs)))
      → (take (capacity st.order h) (flat (suc h) (c ∷ cs)) ≡ entries (suc h) c)
      × (drop (capacity st.order h) (flat (suc h) (c ∷ cs)) ≡ flat (suc h) cs)
  first_piece c [] w ws full =
      let es : List Entry = entries (suc h) c in
      let cap : ℕ = capacity st.order h in
      let le : length es ≤ cap = tree_fits st h c w.0.few w.1 in
      (ap (take cap) (append-nil es) ∙ take_all cap es le, ap (drop cap) (append-nil es) ∙ drop_of_length-le es le)
  first_piece c (d ∷ cs) w ws full =
      let es : List Entry = entries (suc h) c in
      let cap : ℕ = capacity st.order h in
      let e : length es ≡ cap = first_complete st h c d cs ws full in
      (take_at es (flat (suc h) (d ∷ cs)) cap e, drop_at es (flat (suc h) (d ∷ cs)) cap e)

  row_only : (most i : ℕ) (cs : List (Tree h)) → length cs ≤ most → All (Whole st (suc h)) cs
      → ((j : ℕ) → j ≤ h → Full st.order (lengths_in j h cs)) → InTurn i (slots_in (suc h) cs)
      → cs ≡ in_preorder h (packed st.order h) i (pieces most (capacity st.order h) (flat (suc h) cs))
  row_only zero i [] le ws full t = refl
  row_only (suc most) i [] le ws full t = refl
  row_only zero i (c ∷ cs) le ws full t = absurd (omega arith)
  row_only (suc most) i (c ∷ cs) le (one w ws) full t =
      let o : ℕ = st.order in
      let cap : ℕ = capacity o h in
      let es : List Entry = entries (suc h) c in
      let fs : List Entry = flat (suc h) cs in
      let ps : List (List Entry) = pieces most cap fs in
      let (head, rest) = first_piece c cs w ws full in
      let cut : pieces (suc most) cap (es ++ fs) ≡ es ∷ ps =
      pieces_more most cap (es ++ fs) (omega (arith, length-append es fs, whole_some st h c w))
      ∙ ap₂ (λ (p : List Entry) (l : List Entry). p ∷ pieces most cap l) head rest in
      let first : c ≡ packed o h i (suc i) es =
      f c (suc i) w.0.few w.1 (λ j g. full_left o (lengths_at j h c) (lengths_in j h cs) (full j g))
      (turn_left (suc i) (slots_in h c.items) (slots_in (suc h) cs) t.1)
      ∙ ap (λ (s : ℕ). packed o h s (suc i) es) t.0 in
      let others : cs ≡ in_preorder h (packed o h) (i + nodes_in (suc h) c) ps =
      row_only most (i + nodes_in (suc h) c) cs (omega arith) ws (λ j g. full_right o (lengths_at j h c) (lengths_in j h cs) (full j g))
      (turn_right i (slots (suc h) c) (slots_in (suc h) cs) t) in
      ap (c ∷◌) others ∙ ap (λ (d : Tree h). d ∷ in_preorder h (packed o h) (i + nodes_in (suc h) d) ps) first
      ∙ ap (in_preorder h (packed o h) i) (sym cut)

pub tree_only : (st : Settings) (h : ℕ) (t : Tree h) → IsOnly st h t
tree_only st zero t i few w full turn = ap (λ (es : List Entry). record { slot = t.slot; items = es }) (sym (flat_zero t.items))
tree_only st (suc h) t i few w full turn =
    ap (λ (cs : List (Tree h)). record { slot = t.slot; items = cs })
    (row_only st h (tree_only st h) st.order i t.items few w
    (λ j le. subst (Full st.order) (level_below j h t le) (full j (omega arith))) turn)

-- THE HEIGHT

-- the children of an interior root are two or more, so the first is full and does not hold all
row_over_lem : (st : Settings) (h : ℕ) (cs : List (Tree h)) → 2 ≤ length cs → All (Whole st (suc h)) cs
    → ((j : ℕ) → j ≤ h → Full st.order (lengths_in j h cs)) → capacity st.order h < length (flat (suc h) cs)
row_over_lem st h [] two ws full = absurd (omega arith)
row_over_lem st h (c ∷ []) two ws full = absurd (omega arith)
row_over_lem st h (c ∷ (d ∷ cs)) two (one w (one v ws)) full =
    omega (
      arith,
      first_complete st h c d cs (one v ws) full,
      length-append (entries (suc h) c) (flat (suc h) (d ∷ cs)),
      length-append (entries (suc h) d) (flat (suc h) cs),
      whole_some st h d v,
    )

smaller_short : (st : Settings) → 1 ≤ st.order → (h : ℕ) (t : Tree h) → Rooted st h t → All (Whole st h) t.items
    → ((j : ℕ) → Full st.order (lengths_at j h t)) → (j : ℕ) → j < h → capacity st.order j < length (entries (suc h) t)
smaller_short st wide zero t r w full j lt = absurd (omega arith)
smaller_short st wide (suc h) t r w full j lt =
    let over : capacity st.order h < length (flat (suc h) t.items) =
    row_over_lem st h t.items r.0 w (λ i le. subst (Full st.order) (level_below i h t le) (full i)) in
    omega (arith, capacity_up st.order wide j h (omega arith))

-- THE INDEX

-- slots that go out so from i on, behind the first, which is s
abbrev Behind : ℕ → ℕ → List ℕ → Type 0
Behind s i [] = Unit {0}
Behind s i (r ∷ l) = (r ≡ s) × InTurn i l

-- a sound tree that is packed is the packed one, whatever is in use elsewhere
pub only_tree : (st : Settings) {away : List ℕ} (i : ℕ) (es : List Entry) (z : Index) → Sound st away z → IsPackedTree st.order st.root i es z
    → z ≡ index_with (packed_tree st i es) z.unused
only_tree st i es z s p = made ∙ ap packed_at height
  where
    -- the entries packed into a tree of height h
    packed_at : ℕ → Index
    packed_at h = record { height = h; root = packed st.order h st.root i es; unused = z.unused }

    turn : (z.root.slot ≡ st.root) × InTurn i (slots_in z.height z.root.items)
    turn = subst (Behind st.root i) (sym p.preorder) (refl, turn_up i (length (slots_of z) - 1))

    few : len z.root ≤ st.order
    few = root_few st z.height z.root s.rooted

    tree : z.root ≡ packed st.order z.height st.root i es
    tree =
        tree_only st z.height z.root i few s.whole (λ j le. p.full j) turn.1
        ∙ ap₂ (λ (k : ℕ) (fs : List Entry). packed st.order z.height k i fs) turn.0 p.same

    made : z ≡ packed_at z.height
    made = λ j. record { height = z.height; root = tree j; unused = z.unused }

    height : z.height ≡ height_for st.order (length es)
    height =
        let o : ℕ = st.order in
        let wide : 1 ≤ o = omega (arith, s.settings.wide) in
        let n : length (entries_of z) ≡ length es = ap length p.same in
        let fits : length es ≤ capacity o z.height = omega (arith, tree_fits st z.height z.root few s.whole) in
        let all : length es ≤ capacity o 7 = le_trans fits (capacity_up o wide z.height 7 (omega (arith, s.shallow))) in
        by (dec_lt (height_for o (length es)) z.height) (height_least o (length es) z.height fits)
        (λ lt. omega (arith, height_fits o (length es) all, smaller_short st wide z.height z.root s.rooted s.whole p.full _ lt))
      where
        by : Dec (height_for st.order (length es) < z.height) → height_for st.order (length es) ≤ z.height
            → (height_for st.order (length es) < z.height → ⊥) → z.height ≡ height_for st.order (length es)
        by (yes lt) le not = absurd (not lt)
        by (no ge) le not = omega arith
