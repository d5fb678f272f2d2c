-- The walk over a pool's slots: what stands below a node, how many nodes stand before a child, and which frame has number i. Assumes nothing.
use mathlib.Core.Path.{◌≡◌, refl, sym, ap, subst, ◌∙◌}
use mathlib.Core.List.{List, [], ◌∷◌, ◌++◌, map}
use mathlib.Core.Option.{none, some, none-ne-some}
use Prim.Native.Nat.{ℕ, zero, suc, ◌+◌, ◌-◌, ◌≤◌, ◌<◌}
use native.Mathlib.Omega.{arith}
use native.Mathlib.Numerals.{add-one}
use lib.ListN.{length, take, drop, get_or, get_elem?, length-append, take-append-drop}
use lib.Seq.{take-suc, take_all}
use Rattle.slots_raw.specs.declared.Row.{Row}
use Rattle.slots_raw.specs.Slots.{blank}
use Rattle.slots.specs.Nodes.{nodes, nth}
use Rattle.slots.specs.Promises.{ToTouch, ToTouchRows}
use Rattle.slots.specs.Nodes as S
use Rattle.model.specs.declared.Settings.{Settings}
use Rattle.model.specs.Lists.{concat, none}
use Rattle.model.specs.Tree.{Tree, entries, slots}
use Rattle.model.specs.Frame.{Frame, nodes_in, in_turn, frames_from}
use Rattle.model.proofs.Lists.{all_head, all_tail, parts_at}
use Rattle.model.proofs.Trees.{slots_in, leaf_bare}
use Rattle.tree.specs.Bridge.{child_of, cells, tree_at}
use Rattle.tree.proofs.SoundHolds.{slot_read}
use Rattle.std.specs.declared.ops.ControlFlow.{ControlFlow}
use Rattle.std.specs.declared.ops.ControlFlow.TheVariants.{Continue, Break}
use Rattle.frame.specs.declared.Stop.{Stop}
use Rattle.frame.specs.Frames.{item_at, frame_at}
use Rattle.frame.specs.Promises.{ToFind, Located}

-- ONE OF SOME LISTS, joined

module _ {A B C : Type 0} (f : B → List C) (g : A → B) (d : A) where
  long_at : (xs : List A) (j : ℕ) → j < length xs → length (f (g (get_or xs j d))) ≤ length (concat (map f (map g xs)))
  long_at [] j h = absurd (omega arith)
  long_at (x ∷ xs) zero h = omega (arith, length-append (f (g x)) (concat (map f (map g xs))))
  long_at (x ∷ xs) (suc j) h = omega (arith, length-append (f (g x)) (concat (map f (map g xs))), long_at xs j (omega arith))

-- WHAT STANDS BELOW

pub standing_at : (st : Settings) (W : List ℕ) (h s : ℕ) → ToFind st W h s → ToTouch st W s
standing_at st W h s p = record { held = p.held; slot = subst (λ (x : ℕ). x < st.nodes) (slot_read (nodes st W) h s) (all_head p.low) }

pub standing_row : (st : Settings) (W : List ℕ) (h s j : ℕ) → ToFind st W h s → j < length (nth (nodes st W) s).rows → ToTouchRows st W s j 1
standing_row st W h s j p g = record { held = p.held; slot = (standing_at st W h s p).slot; within = omega (arith, g) }

pub child_standing : (st : Settings) (W : List ℕ) (h s j : ℕ) → ToFind st W (suc h) s → j < length (nth (nodes st W) s).rows
    → ToFind st W h (child_of (get_or (nth (nodes st W) s).rows j blank))
child_standing st W h s j p g =
    let ns = nodes st W in
    let rs = (nth ns s).rows in
    let kid : Row → Tree h = λ r. tree_at ns h (child_of r) in
    record {
      held = p.held;
      stands = parts_at (cells (suc h)) kid rs j blank g (all_tail p.stands);
      low = parts_at (slots (suc h)) kid rs j blank g (all_tail p.low);
      few = omega (arith, p.few, long_at (slots (suc h)) kid blank rs j g);
      fit = parts_at (entries (suc h)) kid rs j blank g p.fit;
      light = omega (arith, p.light, long_at (entries (suc h)) kid blank rs j g);
      narrow = p.narrow;
    }

-- one level lower, in the code's numbers
pub standing_down : (st : Settings) (W : List ℕ) (h s j c : ℕ) → ToFind st W h s → 0 < h → j < length (nth (nodes st W) s).rows
    → c ≡ child_of (get_or (nth (nodes st W) s).rows j blank) → ToFind st W (h - 1) c
standing_down st W zero s j c p pos g e = absurd (omega arith)
standing_down st W (suc h) s j c p pos g e =
    let z : suc h - 1 ≡ h = omega arith in
    rw (z, e) (child_standing st W h s j p g)

-- NODES BEFORE A CHILD

module _ (ns : List S.Node) where
  -- how many nodes some rows of level h stand for
  abbrev pub passed : (h : ℕ) → List Row → ℕ
  passed h rs = length (slots_in h (map (item_at ns h) rs))

  passed_append : (h : ℕ) (a b : List Row) → passed h (a ++ b) ≡ passed h a + passed h b
  passed_append h [] b = omega arith
  passed_append h (r ∷ a) b =
      omega (
        arith,
        passed_append h a b,
        length-append (slots h (item_at ns h r)) (slots_in h (map (item_at ns h) (a ++ b))),
        length-append (slots h (item_at ns h r)) (slots_in h (map (item_at ns h) a)),
      )

  passed_one : (h : ℕ) (r : Row) → passed h (r ∷ []) ≡ nodes_in h (item_at ns h r)
  passed_one h r = length-append (slots h (item_at ns h r)) [] ∙ omega arith

  pub passed_more : (h : ℕ) (rs : List Row) (j : ℕ) → j < length rs
      → passed h (take (j + 1) rs) ≡ passed h (take j rs) + nodes_in h (item_at ns h (get_or rs j blank))
  passed_more h rs j g =
      ap (λ (k : ℕ). passed h (take k rs)) (add-one j) ∙ ap (passed h) (take-suc rs j blank g)
      ∙ passed_append h (take j rs) (get_or rs j blank ∷ []) ∙ ap (passed h (take j rs) +◌) (passed_one h (get_or rs j blank))

  pub passed_all : (h : ℕ) (rs : List Row) (j : ℕ) → length rs ≤ j → passed h (take j rs) ≡ passed h rs
  passed_all h rs j g = ap (passed h) (take_all j rs g)

  pub passed_few : (h : ℕ) (rs : List Row) (j : ℕ) → passed h (take j rs) ≤ passed h rs
  passed_few h rs j = omega (arith, passed_append h (take j rs) (drop j rs), ap (passed h) (take-append-drop j rs))

  pub passed_leaf : (h : ℕ) (rs : List Row) → h ≡ 0 → passed h rs ≡ 0
  passed_leaf zero [] e = refl
  passed_leaf zero (r ∷ rs) e = passed_leaf zero rs refl
  passed_leaf (suc h) rs e = absurd (omega arith)

  -- a tree is its root and what its rows stand for
  pub nodes_tree : (h s : ℕ) → nodes_in (suc h) (tree_at ns h s) ≡ 1 + passed h (nth ns s).rows
  nodes_tree zero s = omega arith
  nodes_tree (suc h) s = omega arith

  -- the number of nodes of a child, one level lower
  pub nodes_child : (h c : ℕ) (r : Row) → 0 < h → c ≡ child_of r → nodes_in (suc (h - 1)) (tree_at ns (h - 1) c) ≡ nodes_in h (item_at ns h r)
  nodes_child zero c r pos e = absurd (omega arith)
  nodes_child (suc h) c r pos e =
      let z : h ≡ suc h - 1 = omega arith in
      subst (λ (x : ℕ). nodes_in (suc x) (tree_at ns x c) ≡ nodes_in (suc h) (item_at ns (suc h) r)) z (ap (λ (y : ℕ). nodes_in (suc h) (tree_at ns h y)) e)

-- FRAMES

module _ {A : Type 0} where
  elem_left : (a b : List A) (i : ℕ) (x : A) → get_elem? a i ≡ some x → get_elem? (a ++ b) i ≡ some x
  elem_left [] b i x e = absurd (none-ne-some x e)
  elem_left (y ∷ a) b zero x e = e
  elem_left (y ∷ a) b (suc i) x e = elem_left a b i x e

  elem_right : (a b : List A) (i : ℕ) → get_elem? (a ++ b) (length a + i) ≡ get_elem? b i
  elem_right [] b i = let z : 0 + i ≡ i = omega arith in rw z refl
  elem_right (y ∷ a) b i = let z : suc (length a) + i ≡ suc (length a + i) = omega arith in rw z (elem_right a b i)

  pub elem_past : (a : List A) (i : ℕ) → length a ≤ i → get_elem? a i ≡ none
  elem_past [] i h = refl
  elem_past (y ∷ a) zero h = absurd (omega arith)
  elem_past (y ∷ a) (suc i) h = elem_past a i (omega arith)

module _ (h : ℕ) (f : (k : ℕ) (t : Tree h) → length (frames_from h k t) ≡ length (slots (suc h) t)) where
  turn_long : (k : ℕ) (cs : List (Tree h)) → length (in_turn (suc h) (frames_from h) k cs) ≡ length (slots_in (suc h) cs)
  turn_long k [] = refl
  turn_long k (c ∷ cs) =
      omega (
        arith,
        length-append (frames_from h k c) (in_turn (suc h) (frames_from h) (k + nodes_in (suc h) c) cs),
        f k c,
        turn_long (k + nodes_in (suc h) c) cs,
        length-append (slots (suc h) c) (slots_in (suc h) cs),
      )

-- one for each node
pub frames_long : (h k : ℕ) (t : Tree h) → length (frames_from h k t) ≡ length (slots (suc h) t)
frames_long zero k t = omega (arith, leaf_bare t.items)
frames_long (suc h) k t = ap suc (turn_long h (frames_long h) (k + 1) t.items)

module _ (ns : List S.Node) (h : ℕ) where
  -- frame m of child j stands behind those of the children before it
  turn_at : (k : ℕ) (rs : List Row) (j m : ℕ) (x : Frame) → j < length rs
      → get_elem? (frames_from h (k + passed ns (suc h) (take j rs)) (item_at ns (suc h) (get_or rs j blank))) m ≡ some x
      → get_elem? (in_turn (suc h) (frames_from h) k (map (item_at ns (suc h)) rs)) (passed ns (suc h) (take j rs) + m) ≡ some x
  turn_at k [] j m x g e = absurd (omega arith)
  turn_at k (r ∷ rs) zero m x g e =
      let c = item_at ns (suc h) r in
      let z : 0 + m ≡ m = omega arith in
      let y : k + 0 ≡ k = omega arith in
      rw z (elem_left (frames_from h k c) (in_turn (suc h) (frames_from h) (k + nodes_in (suc h) c) (map (item_at ns (suc h)) rs)) m x (rw y at e))
  turn_at k (r ∷ rs) (suc j) m x g e =
      let c = item_at ns (suc h) r in
      let before : passed ns (suc h) (r ∷ take j rs) ≡ nodes_in (suc h) c + passed ns (suc h) (take j rs) =
      length-append (slots (suc h) c) (slots_in (suc h) (map (item_at ns (suc h)) (take j rs))) in
      let on : k + passed ns (suc h) (r ∷ take j rs) ≡ k + nodes_in (suc h) c + passed ns (suc h) (take j rs) = omega arith in
      let far : passed ns (suc h) (r ∷ take j rs) + m ≡ length (frames_from h k c) + (passed ns (suc h) (take j rs) + m) = omega (arith, frames_long h k c) in
      ap (get_elem? (in_turn (suc h) (frames_from h) k (map (item_at ns (suc h)) (r ∷ rs)))) far
      ∙ elem_right (frames_from h k c) (in_turn (suc h) (frames_from h) (k + nodes_in (suc h) c) (map (item_at ns (suc h)) rs)) (passed ns (suc h) (take j rs) + m)
      ∙ turn_at (k + nodes_in (suc h) c) rs j m x (omega arith)
      (subst (λ (n : ℕ). get_elem? (frames_from h n (item_at ns (suc h) (get_or rs j blank))) m ≡ some x) on e)

pub first_frame : (h k : ℕ) (t : Tree h) → get_elem? (frames_from h k t) 0 ≡ some (frame_at h (k + 0) t)
first_frame zero k t = refl
first_frame (suc h) k t = let z : k + 0 ≡ k = omega arith in rw z refl

-- THE WALK

module _ (st : Settings) (W : List ℕ) where
  abbrev ns : List S.Node
  ns = nodes st W

  pub found_here : (h s : ℕ) → ToFind st W h s → Located st W h s 0 (Break (record { slot = s; height = h }))
  found_here h s p = (p, (omega (arith, nodes_tree ns h s), λ k. first_frame h k (tree_at ns h s)))

  pub found_none : (h s i left : ℕ) → i ≡ 1 + passed ns h (nth ns s).rows + left → Located st W h s i (Continue left)
  found_none h s i left e = omega (arith, nodes_tree ns h s)

  -- a node of child j, behind those of the children before it
  found_below : (h s i j left c : ℕ) (node : Stop) → 0 < h → j < length (nth ns s).rows → c ≡ child_of (get_or (nth ns s).rows j blank)
      → i ≡ 1 + passed ns h (take j (nth ns s).rows) + left → Located st W (h - 1) c left (Break node) → Located st W h s i (Break node)
  found_below zero s i j left c node pos k e n f = absurd (omega arith)
  found_below (suc h) s i j left c node pos k e n f =
      let rs = (nth ns s).rows in
      let z : suc h - 1 ≡ h = omega arith in
      let q : Located st W h (child_of (get_or rs j blank)) left (Break node) =
      subst (λ (x : ℕ). Located st W x (child_of (get_or rs j blank)) left (Break node)) z (subst (λ (y : ℕ). Located st W (suc h - 1) y left (Break node)) e f) in
      let next : i ≡ suc (passed ns (suc h) (take j rs) + left) = omega arith in (
        q.0,
        (
          omega (arith, q.1.0, nodes_tree ns (suc h) s, passed_more ns (suc h) rs j k, passed_few ns (suc h) rs (j + 1)),
          λ m.
              let up : m + 1 + passed ns (suc h) (take j rs) + left ≡ m + i = omega arith in
              ap (get_elem? (frames_from (suc h) m (tree_at ns (suc h) s))) next
              ∙ turn_at ns h (m + 1) rs j left (frame_at node.height (m + i) (tree_at ns node.height node.slot)) k
              (subst (λ (x : ℕ). get_elem? (frames_from h (m + 1 + passed ns (suc h) (take j rs)) (tree_at ns h (child_of (get_or rs j blank)))) left
              ≡ some (frame_at node.height x (tree_at ns node.height node.slot))) up
              (q.1.1 (m + 1 + passed ns (suc h) (take j rs)))),
        ),
      )

  -- the walk through child j stops there, and so does the whole
  pub stops_below : (h s i j left c : ℕ) (r q : ControlFlow Stop ℕ) (node : Stop) → 0 < h → j < length (nth ns s).rows
      → c ≡ child_of (get_or (nth ns s).rows j blank) → i ≡ 1 + passed ns h (take j (nth ns s).rows) + left → Located st W (h - 1) c left r
      → r ≡ Break node → q ≡ Break node → Located st W h s i q
  stops_below h s i j left c r q node pos k e n f stops so =
      let below = subst (λ (x : ControlFlow Stop ℕ). Located st W (h - 1) c left x) stops f in
      subst (λ (x : ControlFlow Stop ℕ). Located st W h s i x) (sym so) (found_below h s i j left c node pos k e n below)

  -- or goes on behind it
  pub goes_on_below : (h s i j left c : ℕ) (r : ControlFlow Stop ℕ) (m : ℕ) → 0 < h → j < length (nth ns s).rows
      → c ≡ child_of (get_or (nth ns s).rows j blank) → i ≡ 1 + passed ns h (take j (nth ns s).rows) + left → Located st W (h - 1) c left r
      → r ≡ Continue m → i ≡ 1 + passed ns h (take (j + 1) (nth ns s).rows) + m
  goes_on_below h s i j left c r m pos k e n f on =
      let behind = subst (λ (x : ControlFlow Stop ℕ). Located st W (h - 1) c left x) on f in
      omega (arith, behind, passed_more ns h (nth ns s).rows j k, nodes_child ns h c (get_or (nth ns s).rows j blank) pos e)
