-- A line field by field: the first field ends at a space or with the line, and the others begin behind the space. Assumes nothing.
use Prim.Native.Nat.{ℕ, suc, ◌+◌, ◌-◌, ◌*◌, ◌<◌, ◌≤◌}
use native.Mathlib.Omega.{arith}
use mathlib.Core.Path.{◌≡◌, refl, ap, sym, ◌∙◌}
use mathlib.Core.Bool.{Bool, true, false, cond}
use mathlib.Core.List.{List, [], ◌∷◌, ◌++◌, append_assoc, append-nil}
use mathlib.Core.Option.{Option, none, some}
use lib.Dec.{eqb, ltb}
use lib.ListN.{length, take, drop, set, length-drop, length-take, length-set}
use lib.Seq.{drop-drop, take-suc-set, drop-set-lt}
use native.Mathlib.Numerals.{add-one}
use Rattle.model.specs.declared.Entry.{Entry}
use borrow.Author.Tests.{lt-leb, le-leb, ltb-true, ltb-false}
use Rattle.desk_lines.specs.Lines.{onto, up_to, end_of}
use Rattle.desk_rows.specs.Rows.{fields, number, rows_in, and_rows, row}
use Rattle.desk_rows.specs.Numbers.{field_at, fields_from, first_number, entries_of, rows_read, Lends, Past, NumberAt, NextAt}
use Rattle.desk_rows.specs.declared.digits.Number.{Number}
use Rattle.std.specs.Prelude as Here

-- the fields behind the first
abbrev behind : List ℕ → List (List ℕ)
behind [] = []
behind (b ∷ bs) = cond (eqb b 32) (fields bs) (behind bs)

first_field : (m : List ℕ) → fields m ≡ up_to 32 m ∷ behind m
unfolding fields up_to
first_field [] = refl
first_field (b ∷ bs) = by (eqb b 32) (first_field bs)
  where
    by : (c : Bool) → fields bs ≡ up_to 32 bs ∷ behind bs
        → cond c ([] ∷ fields bs) (onto b (fields bs)) ≡ cond c [] (b ∷ up_to 32 bs) ∷ cond c (fields bs) (behind bs)
    by true h = refl
    by false h = ap (onto b) h

-- there are none where the first field ends with the line ..
behind_none : (m : List ℕ) → length m ≤ length (up_to 32 m) → behind m ≡ []
unfolding up_to
behind_none [] h = refl
behind_none (b ∷ bs) h = by (eqb b 32) h (behind_none bs)
  where
    by : (c : Bool) → length (b ∷ bs) ≤ length (cond c [] (b ∷ up_to 32 bs)) → (length bs ≤ length (up_to 32 bs) → behind bs ≡ [])
        → cond c (fields bs) (behind bs) ≡ []
    by true g f = absurd (omega arith)
    by false g f = f (omega arith)

-- .. else they begin behind the space
behind_some : (m : List ℕ) → length (up_to 32 m) < length m → behind m ≡ fields (drop (suc (length (up_to 32 m))) m)
unfolding up_to
behind_some [] h = absurd (omega arith)
behind_some (b ∷ bs) h = by (eqb b 32) h (behind_some bs)
  where
    by : (c : Bool) → length (cond c [] (b ∷ up_to 32 bs)) < length (b ∷ bs)
        → (length (up_to 32 bs) < length bs → behind bs ≡ fields (drop (suc (length (up_to 32 bs))) bs))
        → cond c (fields bs) (behind bs) ≡ fields (drop (length (cond c [] (b ∷ up_to 32 bs))) bs)
    by true g f = refl
    by false g f = f (omega arith)

pub field_first : (l : List ℕ) (at : ℕ) → at ≤ length l → fields_from l at ≡ field_at l at ∷ fields_from l (end_of 32 l at + 1)
field_first l at h =
    let m = drop at l in
    let k = length (up_to 32 m) in
    let long : length m ≡ length l - at = length-drop at l in
    let rest : behind m ≡ fields_from l (at + k + 1) = by (ltb k (length m)) refl in
    simp (le-leb _ _ h) (first_field m ∙ ap (up_to 32 m ∷◌) rest)
  where
    by : (c : Bool) → ltb (length (up_to 32 (drop at l))) (length (drop at l)) ≡ c → behind (drop at l) ≡ fields_from l (at + length (up_to 32 (drop at l)) + 1)
    by true e =
        let lt : length (up_to 32 (drop at l)) < length (drop at l) = ltb-true _ _ e in
        let le : at + length (up_to 32 (drop at l)) + 1 ≤ length l = omega (arith, length-drop at l) in
        let same : at + suc (length (up_to 32 (drop at l))) ≡ at + length (up_to 32 (drop at l)) + 1 = omega arith in
        simp (le-leb _ _ le) (behind_some (drop at l) lt ∙ ap fields (drop-drop (suc (length (up_to 32 (drop at l)))) at l) ∙ ap (λ n. fields (drop n l)) same)
    by false e =
        let ge : length (drop at l) ≤ length (up_to 32 (drop at l)) = ltb-false _ _ e in
        let gt : length l < at + length (up_to 32 (drop at l)) + 1 = omega (arith, length-drop at l) in
        simp (lt-leb _ _ gt) (behind_none (drop at l) ge)

-- ROWS

module _ (l : List ℕ) (at : ℕ) (h : at ≤ length l) where
  abbrev rest : List (List ℕ)
  rest = fields_from l (end_of 32 l at + 1)

  pub key_bad : number 16 (field_at l at) ≡ none → rows_in false (fields_from l at) ≡ none
  unfolding rows_in
  key_bad e = rw (field_first l at h, e) refl

  pub key_good : (k e : ℕ) → number 16 (field_at l at) ≡ some k → e ≡ end_of 32 l at
      → rows_in false (fields_from l at) ≡ and_rows (some (record { key = k; place = 0; size = 0 })) (rows_in false (fields_from l (e + 1)))
  unfolding rows_in
  key_good k e f g = rw (field_first l at h, f, g) refl

-- a triple wants three numbers
no_second : (a c : Option ℕ) → row a none c ≡ none
no_second none c = refl
no_second (some k) c = refl

no_third : (a b : Option ℕ) → row a b none ≡ none
no_third none b = refl
no_third (some k) none = refl
no_third (some k) (some p) = refl

first_none : (f : List ℕ) (fs : List (List ℕ)) → number 16 f ≡ none → rows_in true (f ∷ fs) ≡ none
unfolding rows_in
first_none f [] e = refl
first_none f (p ∷ []) e = refl
first_none f (p ∷ (z ∷ fs)) e = rw e refl

second_none : (f : List ℕ) (fs : List (List ℕ)) → first_number 16 fs ≡ none → rows_in true (f ∷ fs) ≡ none
unfolding rows_in
second_none f [] e = refl
second_none f (p ∷ []) e = refl
second_none f (p ∷ (z ∷ fs)) e = rw (e, no_second (number 16 f) (number 8 z)) refl

third_none : (f p : List ℕ) (fs : List (List ℕ)) → first_number 8 fs ≡ none → rows_in true (f ∷ (p ∷ fs)) ≡ none
unfolding rows_in
third_none f p [] e = refl
third_none f p (z ∷ fs) e = rw (e, no_third (number 16 f) (number 16 p)) refl

module _ (l : List ℕ) where
  -- the number of the field behind one that ends at `end`
  abbrev Next : ℕ → ℕ → ℕ → ℕ → Type 0
  Next end most v e = NextAt l end most (Here.Some (record { value = v; end = e }))

  next_first : (end most v e : ℕ) → Next end most v e → fields_from l (end + 1) ≡ field_at l (end + 1) ∷ fields_from l (e + 1)
  next_first end most v e n = rw n.1 (field_first l (end + 1) (omega (arith, n.2, n.3)))

  module _ (at : ℕ) (h : at ≤ length l) where
    pub triple_first : number 16 (field_at l at) ≡ none → rows_in true (fields_from l at) ≡ none
    triple_first e = rw (field_first l at h) (first_none (field_at l at) _ e)

    module _ (k e₁ : ℕ) (f : number 16 (field_at l at) ≡ some k) (g : e₁ ≡ end_of 32 l at) where
      one_read : fields_from l at ≡ field_at l at ∷ fields_from l (e₁ + 1)
      one_read = rw g (field_first l at h)

      pub triple_second : first_number 16 (fields_from l (e₁ + 1)) ≡ none → rows_in true (fields_from l at) ≡ none
      triple_second e = rw one_read (second_none (field_at l at) _ e)

      module _ (p e₂ : ℕ) (n : Next e₁ 16 p e₂) where
        two_read : fields_from l at ≡ field_at l at ∷ (field_at l (e₁ + 1) ∷ fields_from l (e₂ + 1))
        two_read = one_read ∙ ap (field_at l at ∷◌) (next_first e₁ 16 p e₂ n)

        pub triple_third : first_number 8 (fields_from l (e₂ + 1)) ≡ none → rows_in true (fields_from l at) ≡ none
        triple_third e = rw two_read (third_none (field_at l at) (field_at l (e₁ + 1)) _ e)

        pub triple_good : (z e₃ : ℕ) → Next e₂ 8 z e₃
            → rows_in true (fields_from l at) ≡ and_rows (some (record { key = k; place = p; size = z })) (rows_in true (fields_from l (e₃ + 1)))
        unfolding rows_in
        triple_good z e₃ m =
            let second : number 16 (field_at l (e₁ + 1)) ≡ some p = ap (first_number 16) (sym (next_first e₁ 16 p e₂ n)) ∙ n.0 in
            let third : number 8 (field_at l (e₂ + 1)) ≡ some z = ap (first_number 8) (sym (next_first e₂ 8 z e₃ m)) ∙ m.0 in
            ap (rows_in true) (two_read ∙ ap (λ fs. field_at l at ∷ (field_at l (e₁ + 1) ∷ fs)) (next_first e₂ 8 z e₃ m)) ∙ rw (f, second, third) refl

pub next_none : (l : List ℕ) (end most : ℕ) → end ≡ length l → first_number most (fields_from l (end + 1)) ≡ none
next_none l end most e = let h : length l < end + 1 = omega arith in simp (lt-leb _ _ h) refl

pub next_is : (l : List ℕ) (end most : ℕ) (r : Here.Option Number) → end + 1 ≤ length l → NumberAt l (end + 1) most r → NextAt l end most r
next_is l end most Here.None h n = ap (first_number most) (field_first l (end + 1) h) ∙ n
next_is l end most (Here.Some r) h n = (ap (first_number most) (field_first l (end + 1) h) ∙ n.0, n.1, omega (arith, n.2), n.3, n.4)

-- THE LOOP: n rows are read, and the rest of the line begins at a place

abbrev join_rows : List Entry → Option (List Entry) → Option (List Entry)
join_rows es none = none
join_rows es (some fs) = some (es ++ fs)

row_more : (es : List Entry) (e : Entry) (o : Option (List Entry)) → join_rows (es ++ (e ∷ [])) o ≡ join_rows es (and_rows (some e) o)
row_more es e none = refl
row_more es e (some fs) = ap some (append_assoc es (e ∷ []) fs)

none_before : (o : Option (List Entry)) → join_rows [] o ≡ o
none_before none = refl
none_before (some es) = refl

abbrev firsts : ℕ → List ℕ → List ℕ → List ℕ → List Entry
firsts n ks ps zs = entries_of (take n ks) (take n ps) (take n zs)

entries_more : (xs ys ws : List ℕ) (k p z : ℕ) → length ys ≡ length xs → length ws ≡ length xs
    → entries_of (xs ++ (k ∷ [])) (ys ++ (p ∷ [])) (ws ++ (z ∷ [])) ≡ entries_of xs ys ws ++ (record { key = k; place = p; size = z } ∷ [])
entries_more [] [] [] k p z e f = refl
entries_more [] [] (c ∷ ws) k p z e f = absurd (omega arith)
entries_more [] (b ∷ ys) ws k p z e f = absurd (omega arith)
entries_more (a ∷ xs) [] ws k p z e f = absurd (omega arith)
entries_more (a ∷ xs) (b ∷ ys) [] k p z e f = absurd (omega arith)
entries_more (a ∷ xs) (b ∷ ys) (c ∷ ws) k p z e f = ap (record { key = a; place = b; size = c } ∷◌) (entries_more xs ys ws k p z (omega arith) (omega arith))

pub record SoFar (triples : Bool) (l : List ℕ) (from : ℕ) (ks₀ ps₀ zs₀ ks ps zs : List ℕ) (at n : ℕ) : Type 0 where
  pub short : length l ≤ 255
  pub lends : Lends ks ps zs
  pub few : 4 + 2 * n ≤ at
  pub within : at ≤ length l + 1
  pub past : Past n ks₀ ps₀ zs₀ ks ps zs
  pub going : join_rows (firsts n ks ps zs) (rows_in triples (fields_from l at)) ≡ rows_in triples (fields_from l from)

pub none_yet : (triples : Bool) (l : List ℕ) (from : ℕ) (ks ps zs : List ℕ) → 4 ≤ from → from ≤ length l → length l ≤ 255 → Lends ks ps zs
    → SoFar triples l from ks ps zs ks ps zs from 0
none_yet triples l from ks ps zs a b c d =
    record {
      short = c;
      lends = d;
      few = omega arith;
      within = omega arith;
      past = record { keys = refl; places = refl; sizes = refl };
      going = none_before (rows_in triples (fields_from l from));
    }

-- what is past a place that was set
past_set : (xs ys : List ℕ) (n v : ℕ) → drop n xs ≡ drop n ys → drop (n + 1) (set xs n v) ≡ drop (n + 1) ys
past_set xs ys n v e = drop-set-lt (n + 1) xs n v (omega arith) ∙ sym (drop-drop 1 n xs) ∙ ap (drop 1) e ∙ drop-drop 1 n ys

module _ {triples : Bool} {l : List ℕ} {from : ℕ} {ks₀ ps₀ zs₀ ks ps zs : List ℕ} {at n : ℕ} (r : SoFar triples l from ks₀ ps₀ zs₀ ks ps zs at n) where
  pub rows_bad : rows_in triples (fields_from l at) ≡ none → none ≡ rows_in triples (fields_from l from)
  rows_bad e = sym (ap (join_rows (firsts n ks ps zs)) e) ∙ r.going

  pub rows_more : (k p z e : ℕ)
      → rows_in triples (fields_from l at) ≡ and_rows (some (record { key = k; place = p; size = z })) (rows_in triples (fields_from l (e + 1)))
      → at < e → e ≤ length l → SoFar triples l from ks₀ ps₀ zs₀ (set ks n k) (set ps n p) (set zs n z) (e + 1) (n + 1)
  rows_more k p z e q lt le =
      let lw : n < 128 = omega (arith, r.few, r.short) in
      let a : take (n + 1) (set ks n k) ≡ take n ks ++ (k ∷ []) = rw add-one (take-suc-set ks n k (omega (arith, r.lends.keys))) in
      let b : take (n + 1) (set ps n p) ≡ take n ps ++ (p ∷ []) = rw add-one (take-suc-set ps n p (omega (arith, r.lends.places))) in
      let c : take (n + 1) (set zs n z) ≡ take n zs ++ (z ∷ []) = rw add-one (take-suc-set zs n z (omega (arith, r.lends.sizes))) in
      let more : firsts (n + 1) (set ks n k) (set ps n p) (set zs n z) ≡ firsts n ks ps zs ++ (record { key = k; place = p; size = z } ∷ []) =
      rw (a, b, c) (entries_more (take n ks) (take n ps) (take n zs) k p z (simp length-take (omega (arith, r.lends.keys, r.lends.places)))
      (simp length-take (omega (arith, r.lends.keys, r.lends.sizes)))) in
      record {
        short = r.short;
        lends = record {
          keys = length-set ks n k ∙ r.lends.keys;
          places = length-set ps n p ∙ r.lends.places;
          sizes = length-set zs n z ∙ r.lends.sizes;
        };
        few = omega (arith, r.few);
        within = omega arith;
        past =
            record { keys = past_set ks ks₀ n k r.past.keys; places = past_set ps ps₀ n p r.past.places; sizes = past_set zs zs₀ n z r.past.sizes };
        going = rw more (row_more (firsts n ks ps zs) _ (rows_in triples (fields_from l (e + 1)))) ∙ ap (join_rows (firsts n ks ps zs)) (sym q) ∙ r.going;
      }

  pub rows_done : length l < at
      → (rows_read (Here.Some n) ks ps zs ≡ rows_in triples (fields_from l from)) × (Lends ks ps zs × ((n ≤ 128) × Past n ks₀ ps₀ zs₀ ks ps zs))
  unfolding rows_in
  rows_done h = (
    ap some (sym (append-nil (firsts n ks ps zs))) ∙ ap (join_rows (firsts n ks ps zs)) (sym over) ∙ r.going,
    (r.lends, (omega (arith, r.few, r.short, r.within), r.past)),
  )
    where
      over : rows_in triples (fields_from l at) ≡ some []
      over = simp (lt-leb _ _ h) refl
