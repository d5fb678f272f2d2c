-- A scan's walk, node by node: what is left of it at each turn, and that in the end it has listed and counted what the model says. Assumes nothing.
use mathlib.Core.Path.{◌≡◌, refl, sym, ap, ◌∙◌, subst}
use mathlib.Core.Bool.{Bool, true, false, cond}
use mathlib.Core.List.{List, [], ◌∷◌, ◌++◌, map, reverse, reverse-cons, append_assoc, append-nil}
use Prim.Native.Nat.{ℕ, suc, ◌+◌, ◌-◌, ◌≤◌, ◌<◌}
use native.Mathlib.Omega.{arith}
use native.Mathlib.Decide.{dec_lt}
use native.Mathlib.Nat.{not-suc-le-zero}
use lib.ListN.{length, drop, get_or, length-append, length-map, length-reverse, drop_of_length-le, get_or-append, get_or-map}
use lib.Seq.{drop-cons, get_or_at}
use lib.Dec.{ltb}
use borrow.Author.Tests.{lt-ltb, le-ltb}
use Rattle.slots_raw.specs.declared.Row.{Row}
use Rattle.slots_raw.specs.Slots.{blank}
use Rattle.slots.specs.Nodes as S
use Rattle.model.specs.declared.Entry.{Entry}
use Rattle.model.specs.declared.Direction.{Direction}
use Rattle.model.specs.declared.Direction.TheVariants.{Up, Down}
use Rattle.model.specs.Lists.{concat, keep}
use Rattle.model.specs.Tree.{Item, Tree, greatest_key}
use Rattle.model.specs.declared.Request.{Request}
use Rattle.model.specs.Look.{turned, due, until_end, reached, entered, openings, count_to}
use Rattle.model.proofs.Lists.{by_test, parts_append, keep_append, keep_reverse}
use Rattle.tree.specs.Bridge.{entry_of, child_of, tree_at}
use Rattle.look_output.specs.declared.Listed.{Listed}
use Rattle.look_output.specs.declared.Scanned.{Scanned}
use Rattle.look_output.specs.Output.{Page, page, enlist_all}
use Rattle.look_scan.specs.Walk.{goes_on_by, place_in, Walk, walk_at, visit, visit_all, openings_of}
use Rattle.look_output.proofs.Outputs.{ended, enlist_append, Shows, shows_all}

-- A LIST IN THE ORDER OF THE SCAN

module _ {A : Type 0} where
  turned_long : (d : Direction) (xs : List A) → length (turned d xs) ≡ length xs
  turned_long Up xs = refl
  turned_long Down xs = length-reverse xs

  reverse_at : (xs : List A) (j : ℕ) (z : A) → j < length xs → get_or (reverse xs) j z ≡ get_or xs (length xs - 1 - j) z
  reverse_at [] j z h = absurd (not-suc-le-zero h)
  reverse_at (x ∷ xs) j z h = ap (λ (l : List A). get_or l j z) (reverse-cons x xs) ∙ by (dec_lt j (length xs)) (reverse_at xs j z)
    where
      by : Dec (j < length xs) → (j < length xs → get_or (reverse xs) j z ≡ get_or xs (length xs - 1 - j) z)
          → get_or (reverse xs ++ (x ∷ [])) j z ≡ get_or (x ∷ xs) (suc (length xs) - 1 - j) z
      by (yes g) ih =
          let long : j < length (reverse xs) = omega (arith, length-reverse xs) in
          let e : suc (length xs - 1 - j) ≡ suc (length xs) - 1 - j = omega arith in
          get_or-append (reverse xs) (x ∷ []) z j long ∙ ih g ∙ ap (λ (i : ℕ). get_or (x ∷ xs) i z) e
      by (no g) ih =
          let long : length (reverse xs) ≡ j = omega (arith, length-reverse xs) in
          let e : 0 ≡ suc (length xs) - 1 - j = omega arith in
          get_or_at (reverse xs) x [] z j long ∙ ap (λ (i : ℕ). get_or (x ∷ xs) i z) e

  turned_at : (d : Direction) (xs : List A) (j : ℕ) (z : A) → j < length xs → get_or (turned d xs) j z ≡ get_or xs (place_in d (length xs) j) z
  turned_at Up xs j z h = refl
  turned_at Down xs j z h = reverse_at xs j z h

-- what is left at turn j, of the images of some rows: that of the row in its place, and what is left at the next turn
next_of : {A : Type 0} (d : Direction) (f : Row → A) (rs : List Row) (j i : ℕ) → j < length rs → i ≡ place_in d (length rs) j
    → drop j (turned d (map f rs)) ≡ f (get_or rs i blank) ∷ drop (j + 1) (turned d (map f rs))
next_of d f rs j i g e =
    let long : length (map f rs) ≡ length rs = length-map rs f in
    let some : j < length (turned d (map f rs)) = omega (arith, turned_long d (map f rs)) in
    let inside : j < length (map f rs) = omega arith in
    let here : get_or (turned d (map f rs)) j (f blank) ≡ f (get_or rs i blank) =
    turned_at d (map f rs) j (f blank) inside ∙ ap (λ (n : ℕ). get_or (map f rs) (place_in d n j) (f blank)) long
    ∙ ap (λ (k : ℕ). get_or (map f rs) k (f blank)) (sym e) ∙ get_or-map f rs i blank in
    let next : suc j ≡ j + 1 = omega arith in
    drop-cons (turned d (map f rs)) j (f blank) some
    ∙ ap (λ x. x ∷ drop (suc j) (turned d (map f rs))) here
    ∙ ap (λ (k : ℕ). f (get_or rs i blank) ∷ drop k (turned d (map f rs))) next

none_left : {A : Type 0} (d : Direction) (f : Row → A) (rs : List Row) (j : ℕ) → length rs ≤ j → drop j (turned d (map f rs)) ≡ []
none_left d f rs j g =
    let le : length (turned d (map f rs)) ≤ j = omega (arith, turned_long d (map f rs), length-map rs f) in
    drop_of_length-le (turned d (map f rs)) le

-- A LEAF

-- what is left of a leaf's entries at turn j
abbrev pub leaf_rest : Request → List Row → ℕ → List Entry
leaf_rest q rs j = keep (due q) (drop j (turned q.direction (map entry_of rs)))

pub leaf_next : (q : Request) (room : ℕ) (rs : List Row) (p : Page) (j i : ℕ) → j < length rs → i ≡ place_in q.direction (length rs) j
    → enlist_all room (leaf_rest q rs (j + 1)) (enlist_all room (keep (due q) (entry_of (get_or rs i blank) ∷ [])) p) ≡ enlist_all room (leaf_rest q rs j) p
leaf_next q room rs p j i g e =
    let x : Entry = entry_of (get_or rs i blank) in
    let rest : List Entry = drop (j + 1) (turned q.direction (map entry_of rs)) in
    sym (enlist_append room (keep (due q) (x ∷ [])) (keep (due q) rest) p)
    ∙ ap (λ (l : List Entry). enlist_all room l p)
    (sym (keep_append (due q) (x ∷ []) rest) ∙ ap (keep (due q)) (sym (next_of q.direction entry_of rs j i g e)))

pub leaf_end : (q : Request) (room : ℕ) (rs : List Row) (p : Page) (j : ℕ) → length rs ≤ j → enlist_all room (leaf_rest q rs j) p ≡ p
leaf_end q room rs p j g = ap (λ (l : List Entry). enlist_all room (keep (due q) l) p) (none_left q.direction entry_of rs j g)

-- a leaf that is done was visited
pub leaf_visited : (q : Request) (room s : ℕ) (rs : List Row) (out : List ℕ) (w : Scanned) (o : List ℕ) (l : Listed) → w.more ≡ false
    → page o l ≡ enlist_all room (leaf_rest q rs 0) (page out (record { written = w.written; more = false }))
    → walk_at o (record { written = l.written; more = l.more; opened = w.opened + 1 })
    ≡ visit_all room (openings q 0 (record { slot = s; items = map entry_of rs })) (walk_at out w)
leaf_visited q room s rs out w o l f e = rw f (ap (λ (p : Page). record { page = p; opened = w.opened + 1 }) e)

-- AN INTERIOR

-- the children that the loop comes to, of those that are left
abbrev onward : Request → Direction → (h : ℕ) → List (Item h) → List (Item h)
onward q Up h cs = until_end q h cs
onward q Down h cs = cs

-- the children that are entered, in the order of the scan
entering_onward : (q : Request) (d : Direction) (h : ℕ) (cs : List (Item h))
    → turned d (keep (entered q h) (reached q d h cs)) ≡ keep (entered q h) (onward q d h (turned d cs))
entering_onward q Up h cs = refl
entering_onward q Down h cs = sym (keep_reverse (entered q h) cs)

onward_none : (q : Request) (d : Direction) (h : ℕ) → ◌≡◌ {A = List (Item h)} (onward q d h []) []
onward_none q Up h = refl
onward_none q Down h = refl

onward_next : (q : Request) (d : Direction) (h : ℕ) (c : Item h) (cs : List (Item h))
    → onward q d h (c ∷ cs) ≡ c ∷ cond (goes_on_by d q.end (greatest_key h c)) (onward q d h cs) []
onward_next q Up h c cs = refl
onward_next q Down h c cs = refl

openings_append : (q : Request) (h : ℕ) (a b : List (Tree h)) → openings_of q h (a ++ b) ≡ openings_of q h a ++ openings_of q h b
openings_append q h a b =
    ap (λ (cs : List (Tree h)). concat (map (openings q h) cs)) (keep_append (entered q (suc h)) a b)
    ∙ parts_append (openings q h) (keep (entered q (suc h)) a) (keep (entered q (suc h)) b)

module _ (q : Request) (ns : List S.Node) (h : ℕ) (rs : List Row) where
  abbrev kids : List (Tree h)
  kids = map (λ r. tree_at ns h (child_of r)) rs

  -- what is left of an interior's openings at turn j
  abbrev pub rest_of : ℕ → List (List Entry)
  rest_of j = openings_of q h (onward q q.direction (suc h) (drop j (turned q.direction kids)))

  pub rest_all : (s : ℕ) → openings q (suc h) (record { slot = s; items = kids }) ≡ [] ∷ rest_of 0
  rest_all s = ap (λ (cs : List (Tree h)). [] ∷ concat (map (openings q h) cs)) (entering_onward q q.direction (suc h) kids)

  abbrev pub kid_of : Row → Tree h
  kid_of r = tree_at ns h (child_of r)

  -- the child's, and if the loop goes on what is left then
  pub rest_next : (j i : ℕ) → j < length rs → i ≡ place_in q.direction (length rs) j
      → rest_of j ≡ openings_of q h (kid_of (get_or rs i blank) ∷ [])
      ++ cond (goes_on_by q.direction q.end (greatest_key (suc h) (kid_of (get_or rs i blank)))) (rest_of (j + 1)) []
  rest_next j i g e =
      let c : Tree h = kid_of (get_or rs i blank) in
      let rest : List (Tree h) = drop (j + 1) (turned q.direction kids) in
      ap (λ (cs : List (Tree h)). openings_of q h (onward q q.direction (suc h) cs)) (next_of q.direction kid_of rs j i g e)
      ∙ ap (openings_of q h) (onward_next q q.direction (suc h) c rest)
      ∙ openings_append q h (c ∷ []) (cond (goes_on_by q.direction q.end (greatest_key (suc h) c)) (onward q q.direction (suc h) rest) [])
      ∙ ap (λ (l : List (List Entry)). openings_of q h (c ∷ []) ++ l) (pick (goes_on_by q.direction q.end (greatest_key (suc h) c)) (onward q q.direction (suc h) rest))
    where
      pick : (t : Bool) (cs : List (Tree h)) → openings_of q h (cond t cs []) ≡ cond t (openings_of q h cs) []
      pick true cs = refl
      pick false cs = refl

  pub rest_end : (j : ℕ) → length rs ≤ j → rest_of j ≡ []
  rest_end j g =
      ap (λ (cs : List (Tree h)). openings_of q h (onward q q.direction (suc h) cs)) (none_left q.direction kid_of rs j g)
      ∙ ap (openings_of q h) (onward_none q q.direction (suc h))

-- VISITS

pub visit_append : (room : ℕ) (a b : List (List Entry)) (w : Walk) → visit_all room (a ++ b) w ≡ visit_all room b (visit_all room a w)
visit_append room [] b w = refl
visit_append room (es ∷ a) b w = visit_append room a b (visit room es w)

-- once more was due than fits, the walk has ended
pub visit_ended : (room : ℕ) (ns : List (List Entry)) (w : Walk) → w.page.listed.more ≡ true → visit_all room ns w ≡ w
visit_ended room [] w t = refl
visit_ended room (es ∷ ns) w t = ap (visit_all room ns) (same w t) ∙ visit_ended room ns w t
  where
    same : (w : Walk) → w.page.listed.more ≡ true → visit room es w ≡ w
    same w t = rw t refl

-- the nodes opened are some of those that could be
pub visit_few : (room : ℕ) (ns : List (List Entry)) (w : Walk) → (visit_all room ns w).opened ≤ w.opened + length ns
visit_few room [] w = omega arith
visit_few room (es ∷ ns) w =
    let one : (visit room es w).opened ≤ w.opened + 1 =
    by_test (λ (v : Walk). v.opened ≤ w.opened + 1) w.page.listed.more (λ _. omega arith) (λ _. omega arith) in
    omega (arith, visit_few room ns (visit room es w))

-- an interior that is opened
pub inner_visited : (room : ℕ) (ns : List (List Entry)) (out : List ℕ) (w : Scanned) → w.more ≡ false
    → visit_all room ns (walk_at out (record { written = w.written; more = false; opened = w.opened + 1 })) ≡ visit_all room ([] ∷ ns) (walk_at out w)
inner_visited room ns out w f = rw f refl

-- IN THE END the page shows what the openings list ..

visit_shows : (room : ℕ) (out : List ℕ) (done : List Entry) (es : List Entry) (w : Walk) → Shows room out done w.page → Shows room out (done ++ es) (visit room es w).page
visit_shows room out done es w s =
    by_test (λ (v : Walk). Shows room out (done ++ es) v.page) w.page.listed.more
    (λ t. subst (Shows room out (done ++ es)) (ended room es w.page t) (shows_all room out done es w.page s))
    (λ _. shows_all room out done es w.page s)

pub visits_show : (room : ℕ) (out : List ℕ) (done : List Entry) (ns : List (List Entry)) (w : Walk) → Shows room out done w.page
    → Shows room out (done ++ concat ns) (visit_all room ns w).page
visits_show room out done [] w s = subst (λ (l : List Entry). Shows room out l w.page) (sym (append-nil done)) s
visits_show room out done (es ∷ ns) w s =
    subst (λ (l : List Entry). Shows room out l (visit_all room ns (visit room es w)).page) (append_assoc done es (concat ns))
    (visits_show room out (done ++ es) ns (visit room es w) (visit_shows room out done es w s))

-- .. and the nodes opened are those that the model counts

same_test : (room m n : ℕ) → m ≤ room → ltb room (m + n) ≡ ltb (room - m) n
same_test room m n le = by (dec_lt room (m + n))
  where
    by : Dec (room < m + n) → ltb room (m + n) ≡ ltb (room - m) n
    by (yes g) = lt-ltb room (m + n) g ∙ sym (lt-ltb (room - m) n (omega arith))
    by (no g) = le-ltb room (m + n) (omega arith) ∙ sym (le-ltb (room - m) n (omega arith))

visits_counted : (room : ℕ) (out : List ℕ) (done : List Entry) (ns : List (List Entry)) (w : Walk) → Shows room out done w.page
    → (visit_all room ns w).opened ≡ w.opened + cond (ltb room (length done)) 0 (count_to (room - length done) ns)
visits_counted room out done [] w s = go (ltb room (length done))
  where
    go : (t : Bool) → w.opened ≡ w.opened + cond t 0 0
    go true = omega arith
    go false = omega arith
visits_counted room out done (es ∷ ns) w s =
    visits_counted room out (done ++ es) ns (visit room es w) (visit_shows room out done es w s) ∙ go (dec_lt room (length done))
  where
    go : Dec (room < length done)
        → (visit room es w).opened + cond (ltb room (length (done ++ es))) 0 (count_to (room - length (done ++ es)) ns)
        ≡ w.opened + cond (ltb room (length done)) 0 (suc (cond (ltb (room - length done) (length es)) 0 (count_to (room - length done - length es) ns)))
    go (yes g) =
        rw (s.more, lt-ltb room (length done) g, lt-ltb room (length (done ++ es)) (omega (arith, length-append done es))) refl
    go (no g) =
        let le : length done ≤ room = omega arith in
        let test : ltb room (length (done ++ es)) ≡ ltb (room - length done) (length es) =
        ap (ltb room) (length-append done es) ∙ same_test room (length done) (length es) le in
        let left : room - length (done ++ es) ≡ room - length done - length es = omega (arith, length-append done es) in
        rw (s.more, le-ltb room (length done) le, test, left) (omega arith)

pub visits_count : (room : ℕ) (out : List ℕ) (ns : List (List Entry)) (w : Walk) → Shows room out [] w.page → w.opened ≡ 0
    → (visit_all room ns w).opened ≡ count_to room ns
visits_count room out ns w s e =
    let all : room - 0 ≡ room = omega arith in
    visits_counted room out [] ns w s ∙ rw (e, le-ltb room 0 (omega arith), all) (omega arith)
