-- What makes a tree right, row by row: a leaf's row holds an entry and an interior's a child, so that one law over the height serves both.
-- Assumes nothing.
use mathlib.Core.Path.{◌≡◌, subst}
use Rattle.std.specs.Prelude.{Option}
use mathlib.Core.List.{List, [], ◌∷◌, map}
use Prim.Native.Nat.{ℕ, zero, suc, ◌-◌, ◌≤◌, ◌<◌}
use native.Mathlib.Omega.{arith}
use lib.ListN.{length, length-append, length-map}
use Rattle.slots_raw.specs.declared.Row.{Row}
use Rattle.slots.specs.Nodes.{nodes, nth, rows_at}
use Rattle.slots.specs.Nodes as S
use Rattle.slots.proofs.Nodes.{length_nodes}
use Rattle.model.specs.declared.Entry.{Entry}
use Rattle.model.specs.declared.Settings.{Settings}
use Rattle.model.specs.Lists.{All, none, one}
use Rattle.model.specs.Tree.{Item, Tree, entries, slots}
use Rattle.model.specs.Sound.{Whole, Fits}
use Rattle.model.specs.Promises.{flat}
use Rattle.model.proofs.Lists.{all_append, all_left, all_right, all_head, all_tail, all_map}
use Rattle.model.proofs.Trees.{slots_in}
use Rattle.tree.specs.Bridge.{entry_of, child_of, tree_at}
use Rattle.tree.specs.Pool.{Kinds, EachChild, Separates, Totalled}
use Rattle.survey_node.specs.Parts.{after, Beyond}
use Rattle.survey_node.specs.Promises.{There, EachThere, Head, Opened, Tail, Right}
use Rattle.survey_node.proofs.Ascents.{Ascends, ascends_append, ascends_left, ascends_right, ascends_beyond, ascends_sorted, sorted_ascends}

-- WHAT A ROW HOLDS: an entry, or a child

abbrev pub item_at : List S.Node → (h : ℕ) → Row → Item h
item_at ns zero r = entry_of r
item_at ns (suc h) r = tree_at ns h (child_of r)

abbrev pub items_at : List S.Node → (h : ℕ) → List Row → List (Item h)
items_at ns h rs = map (item_at ns h) rs

-- RIGHT ROWS

-- one row, where the walk has met p and may open `left` nodes
abbrev pub RightRow : Settings → List ℕ → (h : ℕ) → Row → Option ℕ → ℕ → Type 0
RightRow st W zero r p left = Fits (entry_of r) × Beyond p (entry_of r)
RightRow st W (suc h) r p left =
    Right st W h (child_of r) 1 p left × (Separates h r (tree_at (nodes st W) h (child_of r)) × Totalled h r (tree_at (nodes st W) h (child_of r)))

abbrev KindsIn : List S.Node → (h : ℕ) → List Row → Type 0
KindsIn ns zero rs = Unit {0}
KindsIn ns (suc h) rs = All (λ r. Kinds ns h (child_of r)) rs

abbrev EachIn : ((h : ℕ) → Row → Tree h → Type 0) → List S.Node → (h : ℕ) → List Row → Type 0
EachIn P ns zero rs = Unit {0}
EachIn P ns (suc h) rs = All (λ r. P h r (tree_at ns h (child_of r)) × EachChild P ns h (child_of r)) rs

-- rows side by side
pub record RightRows (st : Settings) (W : List ℕ) (h : ℕ) (rs : List Row) (p : Option ℕ) (left : ℕ) : Type 0 where
  pub kinds : KindsIn (nodes st W) h rs
  pub whole : All (Whole st h) (items_at (nodes st W) h rs)
  pub keys : Ascends p (flat h (items_at (nodes st W) h rs))
  pub fit : All Fits (flat h (items_at (nodes st W) h rs))
  pub separators : EachIn Separates (nodes st W) h rs
  pub totals : EachIn Totalled (nodes st W) h rs
  pub tails : All (Tail st W) (slots_in h (items_at (nodes st W) h rs))
  pub most : length (slots_in h (items_at (nodes st W) h rs)) ≤ left

module _ (st : Settings) (W : List ℕ) where
  abbrev ns : List S.Node
  ns = nodes st W

  -- none, and one more
  pub rows_none : (h : ℕ) (p : Option ℕ) (left : ℕ) → RightRows st W h [] p left
  rows_none zero p left = record { kinds = tt; whole = none; keys = tt; fit = none; separators = tt; totals = tt; tails = none; most = omega arith }
  rows_none (suc h) p left = record { kinds = none; whole = none; keys = tt; fit = none; separators = none; totals = none; tails = none; most = omega arith }

  pub rows_cons : (h : ℕ) (r : Row) (rs : List Row) (p : Option ℕ) (left : ℕ) → RightRow st W h r p left
      → RightRows st W h rs (after p (entries h (item_at ns h r))) (left - length (slots h (item_at ns h r))) → RightRows st W h (r ∷ rs) p left
  rows_cons zero r rs p left g k =
      record {
        kinds = tt;
        whole = one tt k.whole;
        keys = (g.1, k.keys);
        fit = one g.0 k.fit;
        separators = tt;
        totals = tt;
        tails = k.tails;
        most = omega (arith, k.most);
      }
  rows_cons (suc h) r rs p left g k =
      let t : Tree h = tree_at ns h (child_of r) in
      let more : List (Tree h) = items_at ns (suc h) rs in
      let mine : Right st W h (child_of r) 1 p left = g.0 in
      record {
        kinds = one mine.kinds k.kinds;
        whole = one (record { some = mine.some; few = mine.few }, mine.whole) k.whole;
        keys = ascends_append p (entries (suc h) t) (flat (suc h) more) (sorted_ascends p (entries (suc h) t) mine.sorted mine.beyond) k.keys;
        fit = all_append mine.fit k.fit;
        separators = one (g.1.0, mine.separators) k.separators;
        totals = one (g.1.1, mine.totals) k.totals;
        tails = all_append mine.tails k.tails;
        most = omega (arith, length-append (slots (suc h) (tree_at ns h (child_of r))) (slots_in (suc h) (items_at ns (suc h) rs)), mine.most, k.most);
      }

  pub rows_head : (h : ℕ) (r : Row) (rs : List Row) (p : Option ℕ) (left : ℕ) → RightRows st W h (r ∷ rs) p left → RightRow st W h r p left
  rows_head zero r rs p left k = (all_head k.fit, k.keys.0)
  rows_head (suc h) r rs p left k =
      let t : Tree h = tree_at ns h (child_of r) in
      let es : List Entry = entries (suc h) t in
      let more : List Entry = flat (suc h) (items_at ns (suc h) rs) in
      let keys : Ascends p (entries (suc h) (tree_at ns h (child_of r))) = ascends_left p es more k.keys in (
        record {
          kinds = all_head k.kinds;
          some = (all_head k.whole).0.some;
          few = (all_head k.whole).0.few;
          whole = (all_head k.whole).1;
          sorted = ascends_sorted p es keys;
          beyond = ascends_beyond p es keys;
          fit = all_left es more k.fit;
          separators = (all_head k.separators).1;
          totals = (all_head k.totals).1;
          tails = all_left (slots (suc h) t) (slots_in (suc h) (items_at ns (suc h) rs)) k.tails;
          most = omega (arith, length-append (slots (suc h) (tree_at ns h (child_of r))) (slots_in (suc h) (items_at ns (suc h) rs)), k.most);
        },
        ((all_head k.separators).0, (all_head k.totals).0),
      )

  pub rows_tail : (h : ℕ) (r : Row) (rs : List Row) (p : Option ℕ) (left : ℕ) → RightRows st W h (r ∷ rs) p left
      → RightRows st W h rs (after p (entries h (item_at ns h r))) (left - length (slots h (item_at ns h r)))
  rows_tail zero r rs p left k =
      record {
        kinds = tt;
        whole = all_tail k.whole;
        keys = k.keys.1;
        fit = all_tail k.fit;
        separators = tt;
        totals = tt;
        tails = k.tails;
        most = omega (arith, k.most);
      }
  rows_tail (suc h) r rs p left k =
      let es : List Entry = entries (suc h) (tree_at ns h (child_of r)) in
      let more : List Entry = flat (suc h) (items_at ns (suc h) rs) in
      record {
        kinds = all_tail k.kinds;
        whole = all_tail k.whole;
        keys = ascends_right p es more k.keys;
        fit = all_right es more k.fit;
        separators = all_tail k.separators;
        totals = all_tail k.totals;
        tails = all_right (slots (suc h) (tree_at ns h (child_of r))) (slots_in (suc h) (items_at ns (suc h) rs)) k.tails;
        most = omega (arith, length-append (slots (suc h) (tree_at ns h (child_of r))) (slots_in (suc h) (items_at ns (suc h) rs)), k.most);
      }

  -- A TREE is right if its head, its rows and its tail are

  pub right_rows : (h s least : ℕ) (p : Option ℕ) (left : ℕ) → Right st W h s least p left → RightRows st W h (nth ns s).rows p (left - 1)
  right_rows zero s least p left g =
      record {
        kinds = tt;
        whole = g.whole;
        keys = sorted_ascends p (entries 1 (tree_at ns 0 s)) g.sorted g.beyond;
        fit = g.fit;
        separators = tt;
        totals = tt;
        tails = all_tail g.tails;
        most = omega (arith, g.most);
      }
  right_rows (suc h) s least p left g =
      record {
        kinds = g.kinds.1;
        whole = g.whole;
        keys = sorted_ascends p (entries (suc (suc h)) (tree_at ns (suc h) s)) g.sorted g.beyond;
        fit = g.fit;
        separators = g.separators;
        totals = g.totals;
        tails = all_tail g.tails;
        most = omega (arith, g.most);
      }

  pub right_tail : (h s least : ℕ) (p : Option ℕ) (left : ℕ) → Right st W h s least p left → Tail st W s
  right_tail zero s least p left g = all_head g.tails
  right_tail (suc h) s least p left g = all_head g.tails

  pub rows_right : (h s least : ℕ) (p : Option ℕ) (left : ℕ) → Head st W h s least left → Tail st W s → RightRows st W h (nth ns s).rows p (left - 1)
      → Right st W h s least p left
  rows_right zero s least p left g z k =
      let rs : List Row = (nth ns s).rows in
      let es : List Entry = flat zero (items_at ns zero rs) in
      record {
        kinds = g.there.kind;
        some = omega (arith, g.some, length-map (nth ns s).rows entry_of);
        few = omega (arith, g.few, length-map (nth ns s).rows entry_of);
        whole = k.whole;
        sorted = ascends_sorted p es k.keys;
        beyond = ascends_beyond p es k.keys;
        fit = k.fit;
        separators = tt;
        totals = tt;
        tails = one {x = s} z k.tails;
        most = omega (arith, g.opens, k.most);
      }
  rows_right (suc h) s least p left g z k =
      let rs : List Row = (nth ns s).rows in
      let es : List Entry = flat (suc h) (items_at ns (suc h) rs) in
      record {
        kinds = (g.there.kind, k.kinds);
        some = omega (arith, g.some, length-map (nth ns s).rows (item_at ns (suc h)));
        few = omega (arith, g.few, length-map (nth ns s).rows (item_at ns (suc h)));
        whole = k.whole;
        sorted = ascends_sorted p es k.keys;
        beyond = ascends_beyond p es k.keys;
        fit = k.fit;
        separators = k.separators;
        totals = k.totals;
        tails = one {x = s} z k.tails;
        most = omega (arith, g.opens, k.most);
      }

-- THE HEAD of a right tree

-- a node in use is one of the pool's
used_low : (ns : List S.Node) (s k : ℕ) → (nth ns s).kind ≡ suc k → s < length ns
used_low [] s k e = absurd (omega arith)
used_low (n ∷ ns) zero k e = omega arith
used_low (n ∷ ns) (suc s) k e = omega (arith, used_low ns s k e)

-- a node of the right kinds is there
pub kinds_there : (st : Settings) (W : List ℕ) (h s : ℕ) → Kinds (nodes st W) h s → There st W h s
kinds_there st W zero s g = record { slot = omega (arith, used_low (nodes st W) s 0 g, length_nodes st W); kind = g }
kinds_there st W (suc h) s g = record { slot = omega (arith, used_low (nodes st W) s 1 g.0, length_nodes st W); kind = g.0 }

pub right_head : (st : Settings) (W : List ℕ) (h s least : ℕ) (p : Option ℕ) (left : ℕ) → Right st W h s least p left → Head st W h s least left
right_head st W zero s least p left g =
    record {
      there = kinds_there st W zero s g.kinds;
      some = omega (arith, g.some, length-map (rows_at st W s) entry_of);
      few = omega (arith, g.few, length-map (rows_at st W s) entry_of);
      opens = omega (arith, g.most);
    }
right_head st W (suc h) s least p left g =
    record {
      there = kinds_there st W (suc h) s g.kinds;
      some = omega (arith, g.some, length-map (rows_at st W s) (item_at (nodes st W) (suc h)));
      few = omega (arith, g.few, length-map (rows_at st W s) (item_at (nodes st W) (suc h)));
      opens = omega (arith, g.most);
    }

pub right_opened : (st : Settings) (W : List ℕ) (h s least : ℕ) (p : Option ℕ) (left : ℕ) → Right st W (suc h) s least p left → Opened st W (suc h) s least left
right_opened st W h s least p left g =
    let below : h ≡ suc h - 1 = omega arith in
    record {
      head = right_head st W (suc h) s least p left g;
      children = subst (λ (k : ℕ). EachThere st W k (rows_at st W s)) below (all_map (λ (r : Row) k. kinds_there st W h (child_of r) k) g.kinds.1);
    }
