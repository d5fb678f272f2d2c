-- A scan's openings, by any choice of children: a choice that leaves out children that hold nothing due lists the same and opens no more. The
-- rule leaves out none but such. Assumes nothing.
use mathlib.Core.Path.{◌≡◌, refl, sym, ap, ◌∙◌}
use mathlib.Core.Logic.{◌⊎◌, inl, inr}
use mathlib.Core.Bool.{Bool, true, false, cond, ◌&&◌, and-false}
use mathlib.Core.List.{List, [], ◌∷◌, ◌++◌, map, reverse, reverse-cons, reverse-append, append-nil}
use Prim.Native.Nat.{ℕ, zero, suc, ◌-◌, ◌≤◌, ◌<◌}
use native.Mathlib.Omega.{arith}
use native.Mathlib.Nat.{le_refl}
use lib.ListN.{length, length-append}
use lib.Dec.{leb, ltb}
use borrow.Author.Tests.{leb-false, ltb-false, lt-leb, le-ltb}
use Rattle.model.specs.declared.Entry.{Entry}
use Rattle.model.specs.declared.Settings.{Settings}
use Rattle.model.specs.declared.Bound.{Bound}
use Rattle.model.specs.declared.Bound.TheVariants.{Unbounded, Included, Excluded}
use Rattle.model.specs.declared.Direction.{Direction}
use Rattle.model.specs.declared.Direction.TheVariants.{Up, Down}
use Rattle.model.specs.declared.Request.{Request}
use Rattle.model.specs.Lists.{concat, keep, All, none, one}
use Rattle.model.specs.Tree.{Item, Tree, entries, slots, greatest_key, total, sum_of, is_live}
use Rattle.model.specs.Look.{least, starts, ends, turned, figure, Choice, due, until_end, reached, entered, entering, openings_by, openings, count_to}
use Rattle.model.specs.Sound.{Whole, Sorted}
use Rattle.model.specs.Promises.{flat}
use Rattle.model.proofs.Lists.{by_test, not_both, all_append, all_map, all_both, all_every, all_turned, all_parts, all_concat, ordered_left, ordered_right, parts_append, concat_append, keep_none, keep_reverse, keep_parts, cons_nil}
use Rattle.model.proofs.Trees.{flat_zero, separator_ends, ends_over, ends_under, leaf_bare}
use Rattle.model.proofs.Thinned.{Thinned, done, stays, goes, thin_same, thin_none, thin_keep, thin_again, thin_turned, thin_each, thin_long, thin_joined, thin_parts}

turned_nil : (d : Direction) → ◌≡◌ {A = List Entry} (turned d []) []
turned_nil Up = refl
turned_nil Down = refl

turned_each : {A : Type 0} {P : A → Type 0} (d : Direction) {xs : List A} → All P xs → All P (turned d xs)
turned_each Up h = h
turned_each Down {xs} h = all_turned xs [] h none

-- BOUNDS

pub starts_below : (b : Bound) (j k : ℕ) → j ≤ k → starts b k ≡ false → starts b j ≡ false
starts_below Unbounded j k le e = e
starts_below (Included a) j k le e = lt-leb a j (omega (arith, leb-false a k e))
starts_below (Excluded a) j k le e = le-ltb a j (omega (arith, ltb-false a k e))

ends_above : (b : Bound) (j k : ℕ) → k ≤ j → ends b k ≡ false → ends b j ≡ false
ends_above Unbounded j k le e = e
ends_above (Included a) j k le e = lt-leb j a (omega (arith, leb-false k a e))
ends_above (Excluded a) j k le e = le-ltb j a (omega (arith, ltb-false k a e))

-- a live entry's size is at most the total of what holds it
sum_size : (h : ℕ) → ((i : Item h) → All (λ e. is_live e ≡ true → e.size ≤ (total h i).size) (entries h i)) → (xs : List (Item h))
    → All (λ e. is_live e ≡ true → e.size ≤ (sum_of (map (total h) xs)).size) (flat h xs)
sum_size h f [] = none
sum_size h f (x ∷ xs) =
    all_append (all_map (λ e g l. omega (arith, g l)) (f x)) (all_map (λ e g l. omega (arith, g l)) (sum_size h f xs))

total_size : (h : ℕ) (i : Item h) → All (λ e. is_live e ≡ true → e.size ≤ (total h i).size) (entries h i)
total_size zero e = one {x = e} (λ l. rw l (le_refl e.size)) none
total_size (suc h) n = sum_size h (total_size h) n.items

-- CHILDREN

-- what the children list is what they should list, if each does
lists_turned : {A : Type 0} (d : Direction) (f : A → List (List Entry)) (g : A → List Entry) {cs : List A}
    → All (λ c. concat (f c) ≡ turned d (g c)) cs → concat (concat (map f (turned d cs))) ≡ turned d (concat (map g cs))
lists_turned Up f g none = refl
lists_turned Up f g (one {x = c} {xs = cs} e es) =
    concat_append (f c) (concat (map f cs)) ∙ ap (◌++ concat (concat (map f cs))) e ∙ ap (g c ++◌) (lists_turned Up f g es)
lists_turned Down f g none = refl
lists_turned Down f g (one {x = c} {xs = cs} e es) =
    ap (λ z. concat (concat (map f z))) (reverse-cons c cs) ∙ ap concat (parts_append f (reverse cs) (c ∷ []))
    ∙ concat_append (concat (map f (reverse cs))) (f c ++ [])
    ∙ ap (◌++ concat (f c ++ [])) (lists_turned Down f g es)
    ∙ ap (reverse (concat (map g cs)) ++◌) (ap concat (append-nil (f c)) ∙ e)
    ∙ sym (reverse-append (g c) (concat (map g cs)))

parts_long : {A : Type 0} (d : Direction) (f : A → List (List Entry)) (g : A → List ℕ) → ((c : A) → length (f c) ≡ length (g c))
    → (cs : List A) → length (concat (map f (turned d cs))) ≡ length (concat (map g cs))
parts_long Up f g e [] = refl
parts_long Up f g e (c ∷ cs) =
    omega (arith, length-append (f c) (concat (map f cs)), length-append (g c) (concat (map g cs)), e c, parts_long Up f g e cs)
parts_long Down f g e [] = refl
parts_long Down f g e (c ∷ cs) =
    omega (
      arith,
      ap (λ z. length (concat (map f z))) (reverse-cons c cs),
      ap length (parts_append f (reverse cs) (c ∷ [])),
      length-append (concat (map f (reverse cs))) (f c ++ []),
      ap length (append-nil (f c)),
      length-append (g c) (concat (map g cs)),
      e c,
      parts_long Down f g e cs,
    )

-- OPENINGS

both_empty : {A : Type 0} (a b : List A) → a ++ b ≡ [] → (a ≡ []) × (b ≡ [])
both_empty [] b e = (refl, e)
both_empty (x ∷ a) b e = absurd (cons_nil e)

parts_empty : {A B : Type 0} (f : A → List B) (xs : List A) → concat (map f xs) ≡ [] → All (λ x. f x ≡ []) xs
parts_empty f [] e = none
parts_empty f (x ∷ xs) e = let p = both_empty (f x) (concat (map f xs)) e in one p.0 (parts_empty f xs p.1)

-- the count never grows where a node is left out that adds nothing
pub count_thin : {ms ns : List (List Entry)} → Thinned (λ es. es ≡ []) ms ns → (room : ℕ) → count_to room ms ≤ count_to room ns
count_thin done room = omega arith
count_thin (stays {x = es} {xs = ms} {ys = ns} t) room = go (ltb room (length es)) (count_thin t (room - length es))
  where
    go : (b : Bool) → count_to (room - length es) ms ≤ count_to (room - length es) ns
        → suc (cond b 0 (count_to (room - length es) ms)) ≤ suc (cond b 0 (count_to (room - length es) ns))
    go true k = omega arith
    go false k = omega arith
count_thin (goes {xs = ms} {ys = ns} e t) room =
    let all : room - 0 ≡ room = omega arith in
    rw (e, le-ltb room 0 (omega arith)) (omega (arith, count_thin t room, ap (λ (r : ℕ). count_to r ns) all))

last_false : (a b : Bool) → (a && (b && false)) ≡ false
last_false true b = and-false b
last_false false b = refl

module _ (q : Request) where
  pub not_started : (e : Entry) → starts q.start e.key ≡ false → due q e ≡ false
  not_started e g = rw g (and-false (is_live e))

  too_small : (e : Entry) → (is_live e ≡ true → leb (least q.sift) e.size ≡ false) → due q e ≡ false
  too_small e g = by (is_live e) g
    where
      by : (l : Bool) → (l ≡ true → leb (least q.sift) e.size ≡ false)
          → (l && (starts q.start e.key && (ends q.end e.key && leb (least q.sift) e.size))) ≡ false
      by true g = rw (g refl) (last_false (starts q.start e.key) (ends q.end e.key))
      by false g = refl

  past_end : (e : Entry) → ends q.end e.key ≡ false → due q e ≡ false
  past_end e g = rw g (last_false (is_live e) (starts q.start e.key))

  -- CHOICES OF CHILDREN

  -- a child that holds nothing due
  abbrev pub NoneDue : (h : ℕ) → Item h → Type 0
  NoneDue h c = keep (due q) (entries h c) ≡ []

  -- a choice has some of a node's children, and nothing else
  abbrev pub Among : Choice → Type 0
  Among chosen = (h : ℕ) (cs : List (Tree h)) → Thinned (λ c. Unit {0}) (chosen (suc h) cs) cs

  abbrev every : Choice
  every h cs = cs

  every_among : Among every
  every_among h cs = thin_same cs

  leaf_openings : (d : Direction) (es : List Entry) → keep (due q) (turned d es) ++ [] ≡ turned d (keep (due q) (flat zero es))
  leaf_openings Up es = append-nil (keep (due q) es) ∙ ap (keep (due q)) (sym (flat_zero es))
  leaf_openings Down es =
      append-nil (keep (due q) (reverse es)) ∙ keep_reverse (due q) es
      ∙ ap (λ (z : List Entry). reverse (keep (due q) z)) (sym (flat_zero es))

  -- a choice of every child lists the due entries of the tree, in the order of the scan, and opens each node
  every_list : (h : ℕ) (n : Tree h) → concat (openings_by q every h n) ≡ turned q.direction (keep (due q) (flat h n.items))
  every_list zero n = leaf_openings q.direction n.items
  every_list (suc h) n =
      lists_turned q.direction (openings_by q every h) (λ c. keep (due q) (entries (suc h) c)) (all_every n.items (every_list h))
      ∙ ap (turned q.direction) (sym (keep_parts (due q) (entries (suc h)) n.items))

  every_long : (h : ℕ) (n : Tree h) → length (openings_by q every h n) ≡ length (slots (suc h) n)
  every_long zero n = omega (arith, leaf_bare n.items)
  every_long (suc h) n = omega (arith, parts_long q.direction (openings_by q every h) (slots (suc h)) (every_long h) n.items)

  -- a tree that holds nothing due: no node of it adds anything
  openings_empty : (chosen : Choice) → Among chosen → (h : ℕ) (n : Tree h) → NoneDue (suc h) n → All (λ es. es ≡ []) (openings_by q chosen h n)
  openings_empty chosen a zero n e =
      one (sym (append-nil (keep (due q) (turned q.direction n.items))) ∙ leaf_openings q.direction n.items
      ∙ ap (turned q.direction) e ∙ turned_nil q.direction) none
  openings_empty chosen a (suc h) n e =
      let below : All (NoneDue (suc h)) n.items =
      parts_empty (λ c. keep (due q) (entries (suc h) c)) n.items (sym (keep_parts (due q) (entries (suc h)) n.items) ∙ e) in
      one refl (all_concat (openings_by q chosen h)
      (turned_each q.direction (thin_each (a h n.items) (all_map (λ c k. openings_empty chosen a h c k) below))))

  -- OF TREES THAT ARE GOOD, each of which has good children
  module _ (Good : (h : ℕ) → List (Item h) → Type 0) (hands : (h : ℕ) (cs : List (Tree h)) → Good (suc h) cs → All (λ c. Good h c.items) cs) where
    -- of the children that one choice has the other leaves out none but such as hold nothing due
    abbrev pub Thins : Choice → Choice → Type 0
    Thins less more = (h : ℕ) (cs : List (Tree h)) → Good (suc h) cs → Thinned (NoneDue (suc h)) (less (suc h) cs) (more (suc h) cs)

    -- so it opens the same nodes but for some that add nothing
    pub openings_thin : (less more : Choice) → Among more → Thins less more → (h : ℕ) (n : Tree h) → Good h n.items
        → Thinned (λ es. es ≡ []) (openings_by q less h n) (openings_by q more h n)
    openings_thin less more a u zero n g = thin_same (openings_by q less zero n)
    openings_thin less more a u (suc h) n g =
        stays (thin_parts (openings_by q less h) (openings_by q more h) (thin_turned q.direction (u h n.items g))
        (turned_each q.direction (thin_each (a h n.items) (all_map (λ c k. openings_thin less more a u h c k) (hands h n.items g))))
        (all_every (turned q.direction (more (suc h) n.items)) (λ c. openings_empty more a h c)))

  -- THE RULE leaves out none but such, in trees that are whole and in order

  -- a child whose figure is below s holds nothing due, in any tree
  pub too_little : (h : ℕ) (i : Item h) → leb (least q.sift) (figure (total h i)) ≡ false → NoneDue h i
  too_little h i g =
      let small : figure (total h i) < least q.sift = leb-false (least q.sift) (figure (total h i)) g in
      keep_none (due q) (all_map (λ e k. too_small e (λ l. lt-leb (least q.sift) e.size (omega (arith, k l)))) (total_size h i))

  skipped : (st : Settings) (h : ℕ) (c : Tree h) → Whole st (suc h) c → Sorted (flat h c.items) → entered q (suc h) c ≡ false
      → NoneDue (suc h) c
  skipped st h c w s e = why (not_both _ _ e)
    where
      why : (starts q.start (greatest_key (suc h) c) ≡ false) ⊎ (leb (least q.sift) (figure (total (suc h) c)) ≡ false) → NoneDue (suc h) c
      why (inl g) =
          keep_none (due q) (all_map (λ x u. not_started x (starts_below q.start x.key (greatest_key (suc h) c) (omega arith) g))
          (ends_under (separator_ends st (suc h) c w) s (le_refl (suc (greatest_key (suc h) c)))))
      why (inr g) = too_little (suc h) c g

  until_thin : (st : Settings) (h : ℕ) {cs : List (Tree h)} → All (Whole st (suc h)) cs → Sorted (flat (suc h) cs)
      → Thinned (NoneDue (suc h)) (until_end q (suc h) cs) cs
  until_thin st h none s = done
  until_thin st h (one {x = c} {xs = cs} w ws) s =
      stays (by_test (λ zs. Thinned (NoneDue (suc h)) zs cs) (ends q.end (greatest_key (suc h) c))
      (λ _. until_thin st h ws (ordered_right (flat h c.items) (flat (suc h) cs) s)) (λ e. thin_none (past e)))
    where
      past : ends q.end (greatest_key (suc h) c) ≡ false → All (NoneDue (suc h)) cs
      past e =
          all_map (λ x g. keep_none (due q) g) (all_parts (entries (suc h)) cs
          (all_map (λ x g. past_end x (ends_above q.end x.key (greatest_key (suc h) c) (omega arith) e)) (ends_over (separator_ends st (suc h) c w) s)))

  reached_thin : (st : Settings) (d : Direction) (h : ℕ) {cs : List (Tree h)} → All (Whole st (suc h)) cs → Sorted (flat (suc h) cs)
      → Thinned (NoneDue (suc h)) (reached q d (suc h) cs) cs
  reached_thin st Up h w s = until_thin st h w s
  reached_thin st Down h {cs} w s = thin_same cs

  -- whole and in order: what each child of such a node is too
  abbrev InOrder : Settings → (h : ℕ) → List (Item h) → Type 0
  InOrder st h xs = All (Whole st h) xs × Sorted (flat h xs)

  in_order : (st : Settings) (h : ℕ) (cs : List (Tree h)) → InOrder st (suc h) cs → All (λ c. InOrder st h c.items) cs
  in_order st h [] (none, s) = none
  in_order st h (c ∷ cs) (one w ws, s) =
      one (w.1, ordered_left (flat h c.items) (flat (suc h) cs) s) (in_order st h cs (ws, ordered_right (flat h c.items) (flat (suc h) cs) s))

  module _ (st : Settings) where
    entering_thin : Thins (InOrder st) (in_order st) (entering q) every
    entering_thin h cs (w, s) =
        let thin : Thinned (NoneDue (suc h)) (reached q q.direction (suc h) cs) cs = reached_thin st q.direction h w s in
        let each : All (λ c. entered q (suc h) c ≡ false → NoneDue (suc h) c) cs =
        all_both (λ c x y e. skipped st h c x y.1 e) w (in_order st h cs (w, s)) in
        thin_again (thin_keep (entered q (suc h)) (thin_each thin each)) thin

    rule_thin : (h : ℕ) (n : Tree h) → All (Whole st h) n.items → Sorted (flat h n.items)
        → Thinned (λ es. es ≡ []) (openings q h n) (openings_by q every h n)
    rule_thin h n w s = openings_thin (InOrder st) (in_order st) (entering q) every every_among entering_thin h n (w, s)

    -- so a scan's openings list the due entries of the tree
    pub openings_law : (h : ℕ) (n : Tree h) → All (Whole st h) n.items → Sorted (flat h n.items)
        → concat (openings q h n) ≡ turned q.direction (keep (due q) (flat h n.items))
    openings_law h n w s = thin_joined (rule_thin h n w s) ∙ every_list h n

    -- and are no more than there are nodes
    pub openings_few : (h : ℕ) (n : Tree h) → All (Whole st h) n.items → Sorted (flat h n.items) → length (openings q h n) ≤ length (slots (suc h) n)
    openings_few h n w s = omega (arith, thin_long (rule_thin h n w s), every_long h n)
