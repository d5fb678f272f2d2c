-- What the words of a slot say of its node, in any pool of the right length: the rows up to its count, if they are so many. Assumes nothing.
use mathlib.Core.Path.{◌≡◌, refl, sym, ap, ◌∙◌, subst}
use mathlib.Core.Bool.{Bool}
use mathlib.Core.List.{List, [], ◌∷◌}
use Prim.Native.Nat.{ℕ, ◌-◌, ◌≤◌, ◌<◌, min}
use native.Mathlib.Omega.{arith}
use lib.ListN.{length, take, drop, get_or, replicate, length-take}
use lib.Seq.{get_or-take}
use Rattle.slots_raw.specs.declared.Row.{Row}
use Rattle.slots_raw.specs.Slots.{blank, raw_at}
use Rattle.slots_raw.specs.Promises.{Shape}
use Rattle.slots.specs.Nodes.{node_of, rows_at}
use Rattle.slots.specs.Nodes as S
use Rattle.slots.proofs.Nodes.{node_raw}
use Rattle.slots_pool.proofs.Canons.{length_cells, canon_tail, canon_blank}
use Rattle.model.specs.declared.Settings.{Settings}
use Rattle.model.specs.Answer.{Tells}
use Rattle.tree.specs.Bridge.{child_of}
use Rattle.tree.specs.Pool.{first_child}
use Rattle.survey_node.specs.Promises.{Tail}

module _ (st : Settings) (W : List ℕ) (s : ℕ) where
  pub rows_raw : rows_at st W s ≡ take (raw_at st W s).count (raw_at st W s).cells
  unfolding node_of
  rows_raw = sym (ap (λ (n : S.Node). n.rows) (node_raw st W s))

  -- how many they are
  pub rows_count : length (rows_at st W s) ≡ min (raw_at st W s).count st.rows
  rows_count =
      ap length rows_raw ∙ length-take (raw_at st W s).count (raw_at st W s).cells ∙ ap (min (raw_at st W s).count) (length_cells st W s)

  pub row_raw : (i : ℕ) → i < (raw_at st W s).count → get_or (raw_at st W s).cells i blank ≡ get_or (rows_at st W s) i blank
  row_raw i lt =
      sym (ap (λ (l : List Row). get_or l i blank) rows_raw ∙ get_or-take (raw_at st W s).count (raw_at st W s).cells i blank lt)

  -- the first child, if there is one
  pub first_none : (raw_at st W s).count ≡ 0 → first_child (rows_at st W s) ≡ 0
  first_none e = ap first_child (rows_raw ∙ ap (λ (n : ℕ). take n (raw_at st W s).cells) e)

first_some : (rs : List Row) → 0 < length rs → first_child rs ≡ child_of (get_or rs 0 blank)
first_some [] h = absurd (omega arith)
first_some (r ∷ rs) h = refl

pub first_raw : (st : Settings) (W : List ℕ) (s : ℕ) → Shape st W → 0 < (raw_at st W s).count
    → child_of (get_or (raw_at st W s).cells 0 blank) ≡ first_child (rows_at st W s)
first_raw st W s sh some =
    ap child_of (row_raw st W s 0 some) ∙ sym (first_some (rows_at st W s) (omega (arith, rows_count st W s, sh.limits.wide, sh.roomy)))

-- the test of the rows past the count tells of the tail
pub tail_told : (st : Settings) (W : List ℕ) (s n : ℕ) (r : Bool) → n ≡ (raw_at st W s).count → n ≤ st.rows
    → Tells r (drop n (raw_at st W s).cells ≡ replicate (st.rows - n) blank) → Tells r (Tail st W s)
tail_told st W s n r e le t =
    let now : Tells r (drop (raw_at st W s).count (raw_at st W s).cells ≡ replicate (st.rows - (raw_at st W s).count) blank) =
    subst (λ (k : ℕ). Tells r (drop k (raw_at st W s).cells ≡ replicate (st.rows - k) blank)) e t in
    record {
      holds = λ q. canon_tail st W s (omega arith) (now.holds q);
      told = λ z. now.told (canon_blank st.rows (raw_at st W s) z);
    }

-- a count of at most order is the number of rows, which have room, and row i is the one that is read
module _ (st : Settings) (W : List ℕ) (s n : ℕ) (sh : Shape st W) (few : length (rows_at st W s) ≤ st.order) (e : n ≡ (raw_at st W s).count) where
  pub count_is : n ≡ length (rows_at st W s)
  count_is = omega (arith, e, rows_count st W s, sh.limits.wide, sh.roomy)

  pub count_fits : n ≤ st.rows
  count_fits = omega (arith, e, few, rows_count st W s, sh.limits.wide, sh.roomy)

  pub row_is : (i : ℕ) (r : Row) → i < n → r ≡ get_or (raw_at st W s).cells i blank → r ≡ get_or (rows_at st W s) i blank
  row_is i r lt read = read ∙ row_raw st W s i (omega (arith, e))

  -- the test of the rows past it
  pub rest_told : (r : Bool) → Tells r (drop n (raw_at st W s).cells ≡ replicate (st.rows - n) blank) → Tells r (Tail st W s)
  rest_told r = tail_told st W s n r e count_fits
