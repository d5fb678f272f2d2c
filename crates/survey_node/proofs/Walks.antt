-- The walk over the rows of a node: where it stands after some of them, from what a turn of its loop finds to what it answers with.
-- Assumes nothing.
use mathlib.Core.Path.{◌≡◌, refl, sym, ap, ◌∙◌, subst}
use Rattle.std.specs.Prelude.{Option, Some, None}
use Rattle.std.proofs.lemmas.Option.{none-some, same_Some}
use mathlib.Core.List.{List, ◌∷◌, map}
use Prim.Native.Nat.{ℕ, zero, suc, ◌+◌, ◌-◌, ◌≤◌, ◌<◌}
use native.Mathlib.Omega.{arith}
use lib.ListN.{length, drop, get_or, length-append, drop_of_length-le}
use lib.Seq.{drop-cons}
use Rattle.slots_raw.specs.declared.Row.{Row}
use Rattle.slots_raw.specs.Slots.{blank}
use Rattle.slots.specs.Nodes.{nodes, rows_at}
use Rattle.slots.specs.Nodes as S
use Rattle.model.specs.declared.Totals.{Totals}
use Rattle.model.specs.declared.Settings.{Settings}
use Rattle.model.specs.Tree.{Item, Tree, entries, slots, total, greatest_key, sum_of, plus}
use Rattle.model.specs.Sound.{Whole}
use Rattle.model.specs.Promises.{flat}
use Rattle.model.proofs.Trees.{slots_in, separator_ends, zero_plus, plus_zero, plus_assoc}
use Rattle.model.proofs.Answers.{tells_no, tells_yes}
use Rattle.tree.specs.Bridge.{entry_of, child_of, tree_at}
use Rattle.tree.specs.Promises.{ToAdd}
use Rattle.tree.proofs.Bounds.{Small, Slight, small_none, small_more, small_addable, entry_slight, child_slight}
use Rattle.survey_node.specs.declared.Part.{Part}
use Rattle.survey_node.specs.Parts.{after, begun, grown}
use Rattle.survey_node.specs.Promises.{Head, Tail, Right, PartOf, Checked, EntryRight, RowRight}
use Rattle.survey_node.proofs.Ascents.{after_append, after_ends}
use Rattle.survey_node.proofs.Rows.{item_at, items_at, RightRow, RightRows, rows_none, rows_cons, rows_head, rows_tail, rows_right}

-- WHAT A RIGHT ROW ADDS

-- its key is the last one
child_ends : (st : Settings) (W : List ℕ) (h s least : ℕ) (p : Option ℕ) (left : ℕ) → 0 < least → Right st W h s least p left
    → after p (entries (suc h) (tree_at (nodes st W) h s)) ≡ Some (greatest_key (suc h) (tree_at (nodes st W) h s))
child_ends st W h s least p left lt g =
    let t : Tree h = tree_at (nodes st W) h s in
    let whole : Whole st (suc h) t = (record { some = omega (arith, g.some); few = g.few }, g.whole) in
    after_ends p (separator_ends st (suc h) t whole)

pub row_last : (st : Settings) (W : List ℕ) (h : ℕ) (r : Row) (p : Option ℕ) (left : ℕ) → RightRow st W h r p left
    → after p (entries h (item_at (nodes st W) h r)) ≡ Some r.key
row_last st W zero r p left g = refl
row_last st W (suc h) r p left g = child_ends st W h (child_of r) 1 p left (omega arith) g.0 ∙ ap (Some) (sym g.1.0)

-- its totals are slight
pub row_slight : (st : Settings) (W : List ℕ) (h : ℕ) (r : Row) (p : Option ℕ) (left : ℕ) → RightRow st W h r p left
    → Slight (total h (item_at (nodes st W) h r))
row_slight st W zero r p left g = entry_slight (entry_of r) g.0.size
row_slight st W (suc h) r p left g = child_slight h (tree_at (nodes st W) h (child_of r)) r g.0.fit g.1.1

-- the totals of rows side by side
abbrev pub sums : List S.Node → (h : ℕ) → List Row → Totals
sums ns h rs = sum_of (map (total h) (items_at ns h rs))

-- WHERE THE WALK STANDS after i of the rows rs, having come to them with p and `left`: what it owes from here is what it owed from the start
pub record Going (st : Settings) (W : List ℕ) (h : ℕ) (rs : List Row) (p : Option ℕ) (left i : ℕ) (part : Part) : Type 0 where
  pub within : i ≤ length rs
  pub there : RightRows st W h rs p left → RightRows st W h (drop i rs) part.last part.left
  pub back : RightRows st W h (drop i rs) part.last part.left → RightRows st W h rs p left
  pub end : after p (flat h (items_at (nodes st W) h rs)) ≡ after part.last (flat h (items_at (nodes st W) h (drop i rs)))
  pub totals : sums (nodes st W) h rs ≡ plus part.totals (sums (nodes st W) h (drop i rs))
  pub rest : part.left + length (slots_in h (items_at (nodes st W) h rs)) ≡ left + length (slots_in h (items_at (nodes st W) h (drop i rs)))
  pub small : Small part.totals i

module _ (st : Settings) (W : List ℕ) (h : ℕ) (rs : List Row) where
  abbrev ns : List S.Node
  ns = nodes st W

  pub going_none : (p : Option ℕ) (left : ℕ) → Going st W h rs p left 0 (begun p left)
  going_none p left =
      record {
        within = omega arith;
        there = λ k. k;
        back = λ k. k;
        end = refl;
        totals = sym (zero_plus (sums ns h rs));
        rest = refl;
        small = small_none;
      }

  module _ (p : Option ℕ) (left i : ℕ) (part : Part) (g : Going st W h rs p left i part) where
    -- at the end all is right
    pub going_end : length rs ≤ i → RightRows st W h rs p left
    going_end le = g.back (rw (drop_of_length-le rs le) (rows_none st W h part.last part.left))

    pub end_last : length rs ≤ i → part.last ≡ after p (flat h (items_at ns h rs))
    end_last le = sym (g.end ∙ ap (λ (l : List Row). after part.last (flat h (items_at ns h l))) (drop_of_length-le rs le))

    pub end_totals : length rs ≤ i → part.totals ≡ sums ns h rs
    end_totals le = sym (g.totals ∙ ap (λ (l : List Row). plus part.totals (sums ns h l)) (drop_of_length-le rs le) ∙ plus_zero part.totals)

    pub end_rest : length rs ≤ i → part.left + length (slots_in h (items_at ns h rs)) ≡ left
    end_rest le = g.rest ∙ ap (λ (l : List Row). left + length (slots_in h (items_at ns h l))) (drop_of_length-le rs le) ∙ omega arith

    module _ (lt : i < length rs) where
      abbrev row : Row
      row = get_or rs i blank

      here : drop i rs ≡ row ∷ drop (i + 1) rs
      here = let e : suc i ≡ i + 1 = omega arith in drop-cons rs i blank lt ∙ ap (λ (j : ℕ). row ∷ drop j rs) e

      -- a row that is not right is a fault of the node
      pub going_fault : (RightRow st W h row part.last part.left → ⊥) → RightRows st W h rs p left → ⊥
      going_fault wrong k =
          let now : RightRows st W h (row ∷ drop (i + 1) rs) part.last part.left =
          subst (λ (l : List Row). RightRows st W h l part.last part.left) here (g.there k) in
          wrong (rows_head st W h row (drop (i + 1) rs) part.last part.left now)

      -- one that is right takes the walk on
      pub going_on : (next : ℕ) → RightRow st W h row part.last part.left → next + length (slots h (item_at ns h row)) ≡ part.left
          → Going st W h rs p left (i + 1) (grown part.totals row.key (total h (item_at ns h row)) next)
      going_on next right e =
          let x : Item h = item_at ns h row in
          let q : Option ℕ = part.last in
          let more : List Row = drop (i + 1) rs in
          let key : after q (entries h x) ≡ Some row.key = row_last st W h row q part.left right in
          let next_is : part.left - length (slots h (item_at ns h (get_or rs i blank))) ≡ next = omega arith in
          record {
            within = omega arith;
            there = λ k. subst (λ (l : Option ℕ). RightRows st W h more l next) key (subst (λ (n : ℕ). RightRows st W h more (after q (entries h x)) n) next_is
                (rows_tail st W h row more q part.left (subst (λ (l : List Row). RightRows st W h l q part.left) here (g.there k))));
            back = λ k. g.back (subst (λ (l : List Row). RightRows st W h l q part.left) (sym here)
                (rows_cons st W h row more q part.left right (subst (λ (n : ℕ). RightRows st W h more (after q (entries h x)) n) (sym next_is)
                (subst (λ (l : Option ℕ). RightRows st W h more l next) (sym key) k))));
            end = g.end ∙ ap (λ (l : List Row). after q (flat h (items_at ns h l))) here
                ∙ after_append q (entries h x) (flat h (items_at ns h more)) ∙ ap (λ (l : Option ℕ). after l (flat h (items_at ns h more))) key;
            totals = g.totals ∙ ap (λ (l : List Row). plus part.totals (sums ns h l)) here ∙ sym (plus_assoc part.totals (total h x) (sums ns h more));
            rest =
                let long : length (slots_in h (items_at ns h (drop i rs)))
                ≡ length (slots h (item_at ns h (get_or rs i blank))) + length (slots_in h (items_at ns h (drop (i + 1) rs))) =
                ap (λ (l : List Row). length (slots_in h (items_at ns h l))) here ∙ length-append (slots h x) (slots_in h (items_at ns h more)) in
                omega (arith, g.rest);
            small = small_more part.totals (total h x) i g.small (row_slight st W h row q part.left right);
          }

      -- and its totals can be added
      pub going_addable : i < 32 → RightRow st W h row part.last part.left → ToAdd part.totals (total h (item_at ns h row))
      going_addable few right =
          small_addable part.totals (total h (item_at ns h row)) i few g.small (row_slight st W h row part.last part.left right)

-- WHAT IS RIGHT ABOUT A ROW, as the code tests it

-- an entry
pub entry_row : (st : Settings) (W : List ℕ) (r : Row) (p : Option ℕ) (left : ℕ) → EntryRight p r → RightRow st W zero r p left
entry_row st W r p left g = (g.fits, g.beyond)

pub row_entry : (st : Settings) (W : List ℕ) (r : Row) (p : Option ℕ) (left : ℕ) → RightRow st W zero r p left → EntryRight p r
row_entry st W r p left g = record { beyond = g.1; fits = g.0 }

-- a child: its last key is its greatest
module _ (st : Settings) (W : List ℕ) (h : ℕ) (r : Row) (p : Option ℕ) (left : ℕ) (child : Part) (g : PartOf st W h (child_of r) p left child)
    (right : Right st W h (child_of r) 1 p left) where
  child_last : child.last ≡ Some (greatest_key (suc h) (tree_at (nodes st W) h (child_of r)))
  child_last = g.last ∙ child_ends st W h (child_of r) 1 p left (omega arith) right

  pub child_row_lem : RowRight r child → RightRow st W (suc h) r p left
  child_row_lem t = (right, (same_Some _ _ (sym t.key ∙ child_last), t.totals ∙ g.totals))

  pub row_child : RightRow st W (suc h) r p left → RowRight r child
  row_child t = record { key = child_last ∙ ap Some (sym t.1.0); totals = t.1.1 ∙ sym g.totals }

-- WHAT THE WALK ANSWERS WITH

-- at a fault
pub checked_not : (st : Settings) (W : List ℕ) (h s least : ℕ) (p : Option ℕ) (left : ℕ) → (Right st W h s least p left → ⊥) → Checked st W h s least p left None
checked_not st W h s least p left f = record { right = tells_no f; found = λ part e. absurd (none-some part e) }

-- after the last row
module _ (st : Settings) (W : List ℕ) (s least : ℕ) (p : Option ℕ) (left i : ℕ) (part : Part) where
  abbrev rows : List Row
  rows = rows_at st W s

  part_end : (h : ℕ) → 0 < left → Going st W h rows p (left - 1) i part → length rows ≤ i → PartOf st W h s p left part
  part_end zero opens g le =
      record {
        last = end_last st W zero rows p (left - 1) i part g le;
        totals = end_totals st W zero rows p (left - 1) i part g le;
        rest = omega (arith, end_rest st W zero (rows_at st W s) p (left - 1) i part g le);
      }
  part_end (suc h) opens g le =
      record {
        last = end_last st W (suc h) rows p (left - 1) i part g le;
        totals = end_totals st W (suc h) rows p (left - 1) i part g le;
        rest = omega (arith, end_rest st W (suc h) (rows_at st W s) p (left - 1) i part g le);
      }

  pub checked_end : (h : ℕ) → Head st W h s least left → Tail st W s → Going st W h rows p (left - 1) i part → length rows ≤ i
      → Checked st W h s least p left (Some part)
  checked_end h d z g le =
      record {
        right = tells_yes (rows_right st W h s least p left d z (going_end st W h rows p (left - 1) i part g le));
        found = λ x e. subst (PartOf st W h s p left) (same_Some _ _ e) (part_end h d.opens g le);
      }

-- A TURN OF THE LOOP over an interior's rows: row i names a child, and the walk goes down to it
module _ (st : Settings) (W : List ℕ) (h : ℕ) (rs : List Row) (p : Option ℕ) (left i : ℕ) (part : Part) (g : Going st W (suc h) rs p left i part)
    (lt : i < length rs) where
  abbrev turn_row : Row
  turn_row = get_or rs i blank

  -- a fault of the child is one of the node
  pub turn_none : (Right st W h (child_of turn_row) 1 part.last part.left → ⊥) → RightRows st W (suc h) rs p left → ⊥
  turn_none wrong = going_fault st W (suc h) rs p left i part g lt (λ k. wrong k.0)

  -- or it comes back
  module _ (child : Part) (right : Right st W h (child_of turn_row) 1 part.last part.left)
      (found : PartOf st W h (child_of turn_row) part.last part.left child) where
    pub turn_fault : (RowRight turn_row child → ⊥) → RightRows st W (suc h) rs p left → ⊥
    turn_fault wrong =
        going_fault st W (suc h) rs p left i part g lt (λ k. wrong (row_child st W h turn_row part.last part.left child found right k))

    module _ (t : RowRight turn_row child) where
      row_is : RightRow st W (suc h) turn_row part.last part.left
      row_is = child_row_lem st W h turn_row part.last part.left child found right t

      pub turn_addable : i < 32 → ToAdd part.totals child.totals
      turn_addable few = rw found.totals (going_addable st W (suc h) rs p left i part g lt few row_is)

      pub turn_on : Going st W (suc h) rs p left (i + 1) (grown part.totals turn_row.key child.totals child.left)
      turn_on = rw found.totals (going_on st W (suc h) rs p left i part g lt child.left row_is found.rest)
