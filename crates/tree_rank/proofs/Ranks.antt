-- Ranks: what is left of joined lists from some rank on, the counts that a right node's rows store, a step down to the child that has an entry, and
-- the way down to its leaf. Assumes nothing.
use mathlib.Core.Path.{◌≡◌, refl, sym, ap, ◌∙◌}
use mathlib.Core.List.{List, [], ◌∷◌, ◌++◌, map, append_assoc, append-nil}
use Prim.Native.Nat.{ℕ, zero, suc, ◌+◌, ◌-◌, ◌≤◌, ◌<◌}
use native.Mathlib.Omega.{arith}
use native.Mathlib.Numerals.{add-one}
use native.Mathlib.Decide.{dec_lt}
use native.Mathlib.Nat.{not-suc-le-zero, le_of_suc-le-suc}
use lib.ListN.{length, take, drop, get_or, length-append, length-drop, length-map}
use lib.Seq.{take_all, take-append-le, drop-append-le, drop-append-add}
use Rattle.slots_raw.specs.declared.Row.{Row}
use Rattle.slots_raw.specs.Slots.{blank}
use Rattle.slots_raw.proofs.Over.{map_take, map_drop}
use Rattle.slots.specs.Nodes.{nodes, nth, rows_at}
use Rattle.slots.specs.Nodes as S
use Rattle.model.specs.declared.Entry.{Entry}
use Rattle.model.specs.declared.Settings.{Settings}
use Rattle.model.specs.declared.Totals.{Totals}
use Rattle.model.specs.Lists.{concat, All, none, one}
use Rattle.model.specs.Tree.{Tree, entries}
use Rattle.model.proofs.Lists.{all_take, all_at}
use Rattle.model.proofs.Trees.{flat_zero}
use Rattle.tree.specs.Bridge.{entry_of, child_of, row_for, Holds, tree_at}
use Rattle.tree.proofs.ReadOff.{Light, total_count, child_slot, held_tree, rows_have}
use Rattle.tree.proofs.Sums.{child_total}
use Rattle.tree.proofs.Children.{held_at, child_held}
use Rattle.tree_rank.specs.declared.Spot.{Spot}
use Rattle.tree_rank.specs.declared.Step.{Step}
use Rattle.tree_rank.specs.Rank.{weight, weights}
use Rattle.tree_rank.specs.Promises.{ToStep, Stepped, ToSpot, Spotted}

-- LISTS JOINED: past the first i lists, what is left is what is left of list i, and then the lists behind it

module _ {A B C : Type 0} (f : B → List C) (g : A → B) where
  abbrev joined : List A → List C
  joined xs = concat (map f (map g xs))

  drop_joined : (xs : List A) (i r : ℕ) (d : A) → i < length xs → r ≤ length (f (g (get_or xs i d)))
      → drop (length (joined (take i xs)) + r) (joined xs) ≡ drop r (f (g (get_or xs i d))) ++ joined (drop (suc i) xs)
  drop_joined [] i r d h k = absurd (not-suc-le-zero h)
  drop_joined (x ∷ xs) zero r d h k = let z : 0 + r ≡ r = omega arith in rw z (drop-append-le r (f (g x)) (joined xs) k)
  drop_joined (x ∷ xs) (suc i) r d h k =
      let far : length (joined (x ∷ take i xs)) + r ≡ length (f (g x)) + (length (joined (take i xs)) + r) =
      omega (arith, length-append (f (g x)) (joined (take i xs))) in
      ap (λ (n : ℕ). drop n (joined (x ∷ xs))) far ∙ drop-append-add (f (g x)) (joined xs) (length (joined (take i xs)) + r)
      ∙ drop_joined xs i r d (le_of_suc-le-suc h) k

-- A STEP DOWN, row after row

weights_next : (rs : List Row) (i : ℕ) → i < length rs → weights (take (suc i) rs) ≡ weights (take i rs) + weight (get_or rs i blank)
weights_next [] i h = absurd (not-suc-le-zero h)
weights_next (r ∷ rs) zero h = omega arith
weights_next (r ∷ rs) (suc i) h = omega (arith, weights_next rs i (le_of_suc-le-suc h))

pub weights_more : (rs : List Row) (i : ℕ) → i < length rs → weights (take (i + 1) rs) ≡ weights (take i rs) + weight (get_or rs i blank)
weights_more rs i h = rw add-one (weights_next rs i h)

-- where the children passed have no more than r entries, another child is left
pub more_rows : (rs : List Row) (i r rank : ℕ) → r < weights rs → r ≡ weights (take i rs) + rank → i < length rs
more_rows rs i r rank h e = by (dec_lt i (length rs))
  where
    by : Dec (i < length rs) → i < length rs
    by (yes g) = g
    by (no g) = absurd (omega (arith, ap weights (take_all i rs (omega arith))))

-- THE STORED COUNTS of a right node's rows

module _ (ns : List S.Node) (h : ℕ) where
  abbrev kid : Row → Tree h
  kid r = tree_at ns h (child_of r)

  abbrev below : List Row → List Entry
  below rs = joined (entries (suc h)) kid rs

  abbrev Weighed : Row → Type 0
  Weighed r = weight r ≡ length (entries (suc h) (kid r))

  child_weighed : (c : Tree h) → Light h c → Holds ns h c → Weighed (row_for (suc h) c)
  child_weighed c few k =
      let same : c ≡ kid (row_for (suc h) c) = sym (ap (tree_at ns h) (child_slot h c few) ∙ held_tree ns h c few k) in
      ap (λ (t : Totals). t.live + t.dead) (child_total h c few) ∙ total_count (suc h) c ∙ ap (λ (t : Tree h). length (entries (suc h) t)) same

  rows_weighed : (s : ℕ) → Light (suc h) (tree_at ns (suc h) s) → Holds ns (suc h) (tree_at ns (suc h) s) → All Weighed (nth ns s).rows
  rows_weighed s few k = rows_have ns h Weighed child_weighed (tree_at ns (suc h) s) few k

  weights_below : {rs : List Row} → All Weighed rs → weights rs ≡ length (below rs)
  weights_below none = refl
  weights_below (one {x = r} {xs = rs} e es) = omega (arith, e, weights_below es, length-append (entries (suc h) (kid r)) (below rs))

-- THE WAY DOWN

-- entry r of es is entry `rank` of the tree of height h in slot s, and others come after the tree's
pub record Under (st : Settings) (W : List ℕ) (es : List Entry) (r h s rank : ℕ) : Type 0 where
  pub to : ToSpot st W h s rank
  pub rest : List Entry
  pub from : drop r es ≡ drop rank (entries (suc h) (tree_at (nodes st W) h s)) ++ rest

pub root_under : {st : Settings} {W : List ℕ} {h s r : ℕ} → ToSpot st W h s r → Under st W (entries (suc h) (tree_at (nodes st W) h s)) r h s r
root_under {st} {W} {h} {s} {r} p = record { to = p; rest = []; from = sym (append-nil (drop r (entries (suc h) (tree_at (nodes st W) h s)))) }

module _ {st : Settings} {W : List ℕ} {es : List Entry} {r : ℕ} where
  pub step_ready : (h : ℕ) {s rank : ℕ} → 0 < h → Under st W es r h s rank → ToStep st W s rank
  step_ready zero p u = absurd (omega arith)
  step_ready (suc h) {s} p u =
      let at = held_at st W (suc h) s u.to.held u.to.stands in
      let all = weights_below (nodes st W) h (rows_weighed (nodes st W) h s u.to.light u.to.stands) in
      record { held = at.held; slot = at.slot; within = omega (arith, u.to.within, all) }

  lower : (h : ℕ) {s rank : ℕ} {q : Step} → Under st W es r (suc h) s rank → Stepped (rows_at st W s) rank q → Under st W es r h q.child q.rank
  lower h {s} {rank} {q} u p =
      let ns = nodes st W in
      let rs : List Row = rows_at st W s in
      let own : List Entry = entries (suc h) (kid ns h (get_or rs p.at blank)) in
      let behind : List Entry = below ns h (drop (suc p.at) rs) in
      let right : All (Weighed ns h) rs = rows_weighed ns h s u.to.light u.to.stands in
      let far : rank ≡ length (below ns h (take p.at rs)) + q.rank = omega (arith, p.before, weights_below ns h (all_take p.at right)) in
      let within : q.rank < length own = omega (arith, p.within, all_at rs p.at blank p.inside right) in
      let left : drop rank (below ns h rs) ≡ drop q.rank own ++ behind =
      ap (λ (n : ℕ). drop n (below ns h rs)) far ∙ drop_joined (entries (suc h)) (kid ns h) rs p.at q.rank blank p.inside (omega arith) in
      rw p.child
      (record {
        to = record {
          held = u.to.held;
          stands = child_held ns h s u.to.stands p.at p.inside;
          light = omega (
            arith,
            u.to.light,
            ap length left,
            length-drop rank (below ns h rs),
            length-append (drop q.rank own) behind,
            length-drop q.rank own,
          );
          within = within;
        };
        rest = behind ++ u.rest;
        from = u.from ∙ ap (λ (l : List Entry). l ++ u.rest) left ∙ append_assoc (drop q.rank own) behind u.rest;
      })

  -- the same for a height that is not 0
  pub step_down : (h : ℕ) {s rank : ℕ} {q : Step} → 0 < h → Under st W es r h s rank → Stepped (rows_at st W s) rank q
      → Under st W es r (h - 1) q.child q.rank
  step_down zero g u p = absurd (omega arith)
  step_down (suc h) g u p = let z : suc h - 1 ≡ h = omega arith in rw z (lower h u p)

  pub arrive : (h : ℕ) {s rank : ℕ} → h ≤ 0 → Under st W es r h s rank → Spotted st W es r (record { leaf = s; row = rank })
  arrive zero {s} {rank} g u =
      let rs : List Row = rows_at st W s in
      let own : entries 1 (tree_at (nodes st W) zero s) ≡ map entry_of rs = flat_zero (map entry_of rs) in
      record {
        slot = (held_at st W zero s u.to.held u.to.stands).slot;
        row = omega (arith, u.to.within, ap length own, length-map rs entry_of);
        rest = u.rest;
        from = u.from ∙ ap (λ (l : List Entry). l ++ u.rest) (ap (drop rank) own ∙ sym (map_drop entry_of rank rs));
      }
  arrive (suc h) g u = absurd (omega arith)

-- WHAT IS COPIED FROM A SPOT: m rows of the leaf from the spot on are the m entries from rank r on

pub spotted_take : {st : Settings} {W : List ℕ} {es : List Entry} {r : ℕ} {q : Spot} (m : ℕ) → Spotted st W es r q
    → m ≤ length (rows_at st W q.leaf) - q.row → map entry_of (take m (drop q.row (rows_at st W q.leaf))) ≡ take m (drop r es)
spotted_take {st} {W} {es} {r} {q} m p g =
    let here : List Row = drop q.row (rows_at st W q.leaf) in
    let fits : m ≤ length (map entry_of here) = omega (arith, length-map here entry_of, length-drop q.row (rows_at st W q.leaf)) in
    map_take entry_of m here ∙ sym (take-append-le m (map entry_of here) p.rest fits) ∙ ap (take m) (sym p.from)
