-- A key's way down: the keys of a node's rows ascend, a key is held in the child that it goes to exactly as in the whole, and what a search of the leaf
-- finds is what is listed. Assumes nothing.
use mathlib.Core.Path.{◌≡◌, refl, sym, ap, ◌∙◌, subst}
use mathlib.Core.Logic.{◌≢◌}
use mathlib.Core.Bool.{Bool, true, false, cond}
use mathlib.Core.List.{List, [], ◌∷◌, ◌++◌, map, append-nil}
use mathlib.Core.Option as O
use Prim.Native.Nat.{ℕ, zero, suc, ◌+◌, ◌-◌, ◌≤◌, ◌<◌}
use native.Mathlib.Omega.{arith}
use native.Mathlib.Numerals.{add-one}
use native.Mathlib.Nat.{not-suc-le-zero, le_of_suc-le-suc}
use lib.ListN.{length, drop, get_or, length-map, drop_of_length-le}
use lib.Seq.{drop-cons}
use lib.Dec.{ltb, eqb}
use borrow.Author.Tests.{ltb-true, ltb-false, eqb-true}
use Rattle.slots_raw.specs.declared.Row.{Row}
use Rattle.std.specs.Prelude.{Result, Ok, Err}
use Rattle.slots_raw.specs.Slots.{blank}
use Rattle.slots.specs.Nodes.{nodes, rows_at}
use Rattle.slots.specs.Nodes as S
use Rattle.slots_find.specs.Search.{key_at, pick, below, find_row}
use Rattle.slots_find.specs.Promises.{Within, Sought}
use Rattle.slots_find.specs.Search as R
use Rattle.slots_find.specs.Promises as C
use Rattle.model.specs.declared.Entry.{Entry}
use Rattle.model.specs.declared.Settings.{Settings}
use Rattle.model.specs.Lists.{All, none, one}
use Rattle.model.specs.Tree.{Item, Tree, entries, greatest_key}
use Rattle.model.specs.Plain.{from, first, held}
use Rattle.model.specs.Look.{present, found}
use Rattle.model.specs.Sound.{Whole, Sorted}
use Rattle.model.specs.Promises.{flat}
use Rattle.model.proofs.Lists.{all_head, all_map, all_at, ordered_left, ordered_right}
use Rattle.model.proofs.Plain.{Under, Over, from_front, from_back, first_back}
use Rattle.model.proofs.Trees.{flat_zero, separator_ends, ends_over, ends_under}
use Rattle.model.proofs.Readable.{separator_keys}
use Rattle.tree.specs.Bridge.{row_for, entry_of, child_of, Holds, tree_at}
use Rattle.tree.proofs.Keys.{rows_ascend, entries_from}
use Rattle.tree.proofs.SoundHolds.{slot_read}
use Rattle.look_output.specs.Output.{Page, enlist_all}
use Rattle.tree_node.specs.Ask.{child_for, Chosen}
use Rattle.look.specs.Promises.{ToDescend, Led}
use Rattle.look_output.proofs.Outputs.{enlist_append}
use Rattle.tree.proofs.Children.{at_map, held_at, child_held}

-- THE KEYS OF ROWS

module _ (st : Settings) (W : List ℕ) (h s : ℕ) (k : ToDescend st W h s) where
  rows_are : rows_at st W s ≡ map (row_for h) (tree_at (nodes st W) h s).items
  rows_are = ap (λ (t : ℕ). rows_at st W t) (sym (slot_read (nodes st W) h s)) ∙ ap (λ (n : S.Node). n.rows) (all_head k.tree)

  -- so a node can be searched
  pub grown_sorted : C.ToSearch st W s
  grown_sorted =
      let at = held_at st W h s k.pool k.tree in
      record {
        held = at.held;
        slot = at.slot;
        keys = subst R.Ascending (sym rows_are) (rows_ascend h (tree_at (nodes st W) h s).items (separator_keys st h k.whole k.sorted));
      }

  pub grown_some : h ≢ 0 → 0 < length (rows_at st W s)
  grown_some ne = omega (arith, ap length rows_are, length-map (tree_at (nodes st W) h s).items (row_for h), k.some ne)

-- A KEY IS HELD IN THE CHILD that it goes to, exactly as in the whole

module _ (k : ℕ) where
  held_front : {a : List Entry} (b : List Entry) → Under k a → held k (a ++ b) ≡ held k b
  held_front b h = ap (first k) (from_front k b h)

  held_back : (a : List Entry) {b : List Entry} → Over k b → held k (a ++ b) ≡ held k a
  held_back a o = ap (first k) (from_back k a o) ∙ first_back k (from k a) o

  held_child : (st : Settings) (h : ℕ) (z : Tree h) {cs : List (Tree h)} → 0 < length cs → All (Whole st (suc h)) cs → Sorted (flat (suc h) cs)
      → held k (entries (suc h) (get_or cs (child_for k (map (row_for (suc h)) cs)) z)) ≡ held k (flat (suc h) cs)
  held_child st h z p none s = absurd (not-suc-le-zero p)
  held_child st h z p (one {x = c} w none) s = ap (held k) (sym (append-nil (entries (suc h) c)))
  held_child st h z p (one {x = c} w (one {x = d} {xs = cs} v ws)) s =
      by (ltb (greatest_key (suc h) c) k) refl (held_child st h z (omega arith) (one v ws) (ordered_right (entries (suc h) c) (flat (suc h) (d ∷ cs)) s))
    where
      by : (t : Bool) → ltb (greatest_key (suc h) c) k ≡ t
          → held k (entries (suc h) (get_or (d ∷ cs) (child_for k (map (row_for (suc h)) (d ∷ cs))) z)) ≡ held k (flat (suc h) (d ∷ cs))
          → held k (entries (suc h) (get_or (c ∷ d ∷ cs) (cond t (suc (child_for k (map (row_for (suc h)) (d ∷ cs)))) 0) z)) ≡ held k (flat (suc h) (c ∷ d ∷ cs))
      by true e ih =
          ih ∙ sym (held_front (flat (suc h) (d ∷ cs))
          (ends_under (separator_ends st (suc h) c w) (ordered_left (entries (suc h) c) (flat (suc h) (d ∷ cs)) s) (ltb-true (greatest_key (suc h) c) k e)))
      by false e ih =
          let le : k ≤ greatest_key (suc h) c = ltb-false (greatest_key (suc h) c) k e in
          sym (held_back (entries (suc h) c) (all_map (λ (x : Entry) g. omega arith) (ends_over (separator_ends st (suc h) c w) s)))

-- DOWN ONE LEVEL

sorted_at : (h : ℕ) (xs : List (Item h)) (i : ℕ) (z : Item h) → i < length xs → Sorted (flat h xs) → Sorted (entries h (get_or xs i z))
sorted_at h [] i z g s = absurd (not-suc-le-zero g)
sorted_at h (x ∷ xs) zero z g s = ordered_left (entries h x) (flat h xs) s
sorted_at h (x ∷ xs) (suc i) z g s = sorted_at h xs i z (le_of_suc-le-suc g) (ordered_right (entries h x) (flat h xs) s)

module _ (st : Settings) (W : List ℕ) (key : ℕ) where
  module _ (h s : ℕ) (g : ToDescend st W (suc h) s) where
    abbrev kid : Row → Tree h
    kid r = tree_at (nodes st W) h (child_of r)

    abbrev kids : List (Tree h)
    kids = map kid (rows_at st W s)

    -- the tree of the child that the key goes to
    lower : (i c : ℕ) → Chosen (rows_at st W s) 0 key i → c ≡ child_of (get_or (rows_at st W s) i blank)
        → ToDescend st W h c × (held key (entries (suc h) (tree_at (nodes st W) h c)) ≡ held key (entries (suc (suc h)) (tree_at (nodes st W) (suc h) s)))
    lower i c q e =
        let here : get_or kids i (kid blank) ≡ tree_at (nodes st W) h c =
        at_map kid (rows_at st W s) i blank (kid blank) q.within ∙ ap (tree_at (nodes st W) h) (sym e) in
        let inside : i < length kids = omega (arith, q.within, length-map (rows_at st W s) kid) in
        let whole : Whole st (suc h) (tree_at (nodes st W) h c) = subst (Whole st (suc h)) here (all_at kids i (kid blank) inside g.whole) in
        let place : i ≡ child_for key (map (row_for (suc h)) kids) = omega (arith, q.is) ∙ ap (child_for key) (rows_are st W (suc h) s g) in (
          record {
            pool = g.pool;
            tree = subst (λ (n : ℕ). Holds (nodes st W) h (tree_at (nodes st W) h n)) (sym e) (child_held (nodes st W) h s g.tree i q.within);
            some = λ ne. whole.0.some;
            whole = whole.1;
            sorted = subst (λ (t : Tree h). Sorted (entries (suc h) t)) here (sorted_at (suc h) kids i (kid blank) inside g.sorted);
          },
          ap (λ (t : Tree h). held key (entries (suc h) t)) (sym here) ∙ ap (λ (n : ℕ). held key (entries (suc h) (get_or kids n (kid blank)))) place
              ∙ held_child key st h (kid blank) (omega (arith, inside)) g.whole g.sorted,
        )

  -- the same for a height that is not 0
  pub descend : (h s i c : ℕ) → 0 < h → ToDescend st W h s → Chosen (rows_at st W s) 0 key i → c ≡ child_of (get_or (rows_at st W s) i blank)
      → ToDescend st W (h - 1) c × (held key (entries (suc (h - 1)) (tree_at (nodes st W) (h - 1) c)) ≡ held key (entries (suc h) (tree_at (nodes st W) h s)))
  descend zero s i c p g q e = absurd (omega arith)
  descend (suc h) s i c p g q e =
      let down : h ≡ suc h - 1 = omega arith in
      subst (λ (n : ℕ).
      ToDescend st W n c × (held key (entries (suc n) (tree_at (nodes st W) n c)) ≡ held key (entries (suc (suc h)) (tree_at (nodes st W) (suc h) s)))) down
      (lower h s g i c q e)

  pub arrive : (height h s : ℕ) → h ≤ 0 → ToDescend st W h s
      → held key (entries (suc h) (tree_at (nodes st W) h s)) ≡ held key (entries (suc height) (tree_at (nodes st W) height st.root)) → Led st W height key st.root s
  arrive height zero s p g e = record { grown = g; same = e }
  arrive height (suc h) s p g e = absurd (omega arith)

-- WHAT A SEARCH OF THE LEAF FINDS is what is listed

pub found_inside : (key : ℕ) (rs : List Row) (r : Result ℕ ℕ) (i : ℕ) → Sought rs key r → r ≡ Ok i → i < length rs
found_inside key rs r i q e = subst (Within rs) e q.within

abbrev list_found : List Row → Result ℕ ℕ → List Entry
list_found rs (Ok i) = entry_of (get_or rs i blank) ∷ []
list_found rs (Err i) = []

entry_is : (k : ℕ) (r : Row) (t : Bool) → eqb r.key k ≡ t
    → present k (cond t (O.some (record { place = r.body; size = r.size })) O.none) ≡ cond t (entry_of r ∷ []) []
entry_is k r true e = let same : k ≡ r.key = sym (eqb-true r.key k e) in ap (λ (n : ℕ). record { key = n; place = r.body; size = r.size } ∷ []) same
entry_is k r false e = refl

present_found : (k : ℕ) (rs : List Row) → present k (held k (map entry_of rs)) ≡ list_found rs (find_row k rs)
unfolding find_row pick
present_found k rs = ap (λ (es : List Entry). present k (first k es)) (entries_from k rs) ∙ by (ltb (below k rs) (length rs)) refl
  where
    hit : (u : Bool) → eqb (key_at rs (below k rs)) k ≡ u
        → present k (cond u (O.some (record { place = (get_or rs (below k rs) blank).body; size = (get_or rs (below k rs) blank).size })) O.none)
        ≡ list_found rs (pick u (Ok (below k rs)) (Err (below k rs)))
    hit true e = entry_is k (get_or rs (below k rs) blank) true e
    hit false e = refl

    by : (t : Bool) → ltb (below k rs) (length rs) ≡ t
        → present k (first k (map entry_of (drop (below k rs) rs)))
        ≡ list_found rs (pick t (pick (eqb (key_at rs (below k rs)) k) (Ok (below k rs)) (Err (below k rs))) (Err (below k rs)))
    by true e =
        ap (λ (l : List Row). present k (first k (map entry_of l))) (drop-cons rs (below k rs) blank (ltb-true (below k rs) (length rs) e))
        ∙ hit (eqb (key_at rs (below k rs)) k) refl
    by false e = ap (λ (l : List Row). present k (first k (map entry_of l))) (drop_of_length-le rs (ltb-false (below k rs) (length rs) e))

module _ (st : Settings) (W : List ℕ) (height key leaf : ℕ) (lead : Led st W height key st.root leaf) where
  pub found_listed : (r f : Result ℕ ℕ) → Sought (rows_at st W leaf) key r → r ≡ f
      → list_found (rows_at st W leaf) f ≡ present key (held key (entries (suc height) (tree_at (nodes st W) height st.root)))
  found_listed r f q e =
      ap (list_found (rows_at st W leaf)) (sym e ∙ q.is) ∙ sym (present_found key (rows_at st W leaf))
      ∙ ap (λ (es : List Entry). present key (held key es)) (sym (flat_zero (map entry_of (rows_at st W leaf)))) ∙ ap (present key) lead.same

-- KEY AFTER KEY

pub keys_next : (room : ℕ) (ks : List ℕ) (es : List Entry) (p : Page) (k : ℕ) → k < length ks
    → enlist_all room (found (drop (k + 1) ks) es) (enlist_all room (present (get_or ks k 0) (held (get_or ks k 0) es)) p) ≡ enlist_all room (found (drop k ks) es) p
keys_next room ks es p k g =
    rw (drop-cons ks k 0 g, add-one)
    (sym (enlist_append room (present (get_or ks k 0) (held (get_or ks k 0) es)) (found (drop (suc k) ks) es) p))

pub keys_end : (room : ℕ) (ks : List ℕ) (es : List Entry) (p : Page) (k : ℕ) → length ks ≤ k → enlist_all room (found (drop k ks) es) p ≡ p
keys_end room ks es p k g = ap (λ (l : List ℕ). enlist_all room (found l es) p) (drop_of_length-le ks g)
