-- What is due from a start on, and from the next one. Assumes nothing.
use mathlib.Core.Path.{◌≡◌, refl, sym, ap, ◌∙◌, subst}
use mathlib.Core.Bool.{Bool, true, false, cond, ◌&&◌, true≢false}
use mathlib.Core.List.{List, [], ◌∷◌, ◌++◌, map-append}
use Prim.Native.Nat.{ℕ, zero, suc, ◌+◌, ◌≤◌, ◌<◌}
use native.Mathlib.Omega.{arith}
use native.Mathlib.Decide.{ℕ_discrete}
use lib.ListN.{length}
use lib.Dec.{leb}
use borrow.Author.Tests.{ltb-true, lt-ltb, le-ltb}
use Rattle.model.specs.declared.Entry.{Entry}
use Rattle.model.specs.declared.Bound.{Bound}
use Rattle.model.specs.declared.Bound.TheVariants.{Excluded}
use Rattle.model.specs.declared.Sift.{Sift}
use Rattle.model.specs.Lists.{keep, hit, times, All, none, one, nil, cons}
use Rattle.model.specs.Tree.{is_live}
use Rattle.model.specs.Look.{least, starts, ends, due, due_in}
use Rattle.model.specs.Sound.{Sorted}
use Rattle.model.proofs.Lists.{by_test, both_left, both_right, all_map, all_head, all_of, keep_same, keep_each, keep_passes, cons_nil, hit_same, hit_other, times_append}
use Rattle.model.proofs.Numbers.{times_all}
use Rattle.model.proofs.Scans.{starts_below, not_started}
use Rattle.look_portion.specs.Portion.{upwards, next_start, entry_keys}

-- KEYS of entries

pub times_joined : (k : ℕ) (a b : List Entry) → times k (entry_keys (a ++ b)) ≡ times k (entry_keys a) + times k (entry_keys b)
times_joined k a b = ap (times k) (map-append (λ (e : Entry). e.key) a b) ∙ times_append k (entry_keys a) (entry_keys b)

-- what holds of the key of each entry holds of a key that stands among them
pub of_key : (P : ℕ → Type 0) (k : ℕ) {es : List Entry} → All (λ e. P e.key) es → 0 < times k (entry_keys es) → P k
of_key P k h = times_all P (all_of (λ (e : Entry). e.key) h) k

none_there : (n : ℕ) → (0 < n → ⊥) → n ≡ 0
none_there zero f = refl
none_there (suc n) f = absurd (f (omega arith))

-- in ascending order a key stands once
pub once : (k : ℕ) {es : List Entry} → Sorted es → 0 < times k (entry_keys es) → times k (entry_keys es) ≡ 1
once k nil h = absurd (omega arith)
once k (cons {x = e} {xs = es} above s) h = by (ℕ_discrete k e.key) (once k s)
  where
    by : Dec (k ≡ e.key) → (0 < times k (entry_keys es) → times k (entry_keys es) ≡ 1) → times k (entry_keys (e ∷ es)) ≡ 1
    by (yes q) on =
        let later : 0 < times k (entry_keys es) → e.key < k = of_key (λ j. e.key < j) k above in
        omega (arith, hit_same k e.key q, none_there (times k (entry_keys es)) (λ some. omega (arith, later some, q)))
    by (no ne) on = let apart : hit k e.key ≡ 0 = hit_other k e.key ne in omega (arith, apart, on (omega (arith, h, apart)))

-- STARTS

-- a start that lets a key pass lets pass those above it
above_start : (b : Bound) (j k : ℕ) → j < k → starts b j ≡ true → starts b k ≡ true
above_start b j k lt h = by (starts b k) refl
  where
    by : (t : Bool) → starts b k ≡ t → starts b k ≡ true
    by true e = e
    by false e = absurd (true≢false (sym h ∙ starts_below b j k (omega (arith, lt)) e))

-- the first entry counts where the test keeps it
counted : (p : Entry → Bool) (k : ℕ) (x : Entry) (xs : List Entry)
    → times k (entry_keys (keep p (x ∷ xs))) ≡ cond (p x) (hit k x.key) 0 + times k (entry_keys (keep p xs))
counted p k x xs = by (p x)
  where
    by : (t : Bool) → times k (entry_keys (cond t (x ∷ keep p xs) (keep p xs))) ≡ cond t (hit k x.key) 0 + times k (entry_keys (keep p xs))
    by true = refl
    by false = omega arith

module _ (end : Bound) (sift : Sift) where
  -- the entries due from a start on
  abbrev pub due_from : Bound → List Entry → List Entry
  due_from start es = due_in (upwards start end sift) es

  -- an entry that is due is one that the start lets pass; two starts of which each lets it pass have it due alike
  due_started : (start : Bound) (e : Entry) → due (upwards start end sift) e ≡ true → starts start e.key ≡ true
  due_started start e h = both_left _ _ (both_right (is_live e) _ h)

  due_alike : (start other : Bound) (e : Entry) → starts start e.key ≡ true → starts other e.key ≡ true
      → due (upwards start end sift) e ≡ due (upwards other end sift) e
  due_alike start other e g h =
      ap (λ (b : Bool). is_live e && (b && (ends end e.key && leb (least sift) e.size))) (g ∙ sym h)

  pub started : (start : Bound) (es : List Entry) → All (λ e. starts start e.key ≡ true) (due_from start es)
  started start es = all_map (due_started start) (keep_passes (due (upwards start end sift)) es)

  -- THE REST: after the first entry due, those due from its key on, that key left out, are the others
  rest_one : (start : Bound) (d : Entry) (ds : List Entry) {es : List Entry} → Sorted es → due_from start es ≡ d ∷ ds → due_from (Excluded d.key) es ≡ ds
  rest_one start d ds nil e = absurd (cons_nil (sym e))
  rest_one start d ds (cons {x = x} {xs = xs} above s) e = by (due (upwards start end sift) x) refl e (rest_one start d ds s)
    where
      by : (t : Bool) → due (upwards start end sift) x ≡ t → cond t (x ∷ due_from start xs) (due_from start xs) ≡ d ∷ ds
          → (due_from start xs ≡ d ∷ ds → due_from (Excluded d.key) xs ≡ ds) → due_from (Excluded d.key) (x ∷ xs) ≡ ds
      by true h f on =
          let same : x ≡ d = cc in
          let tail : due_from start xs ≡ ds = cc in
          let passed : starts start x.key ≡ true = due_started start x h in
          let past : due (upwards (Excluded d.key) end sift) x ≡ false =
          not_started (upwards (Excluded d.key) end sift) x (le-ltb d.key x.key (omega (arith, ap (λ (y : Entry). y.key) same))) in
          let alike : All (λ y. due (upwards (Excluded d.key) end sift) y ≡ due (upwards start end sift) y) xs =
          all_map (λ y lt. due_alike (Excluded d.key) start y (lt-ltb d.key y.key (omega (arith, lt, ap (λ (z : Entry). z.key) same)))
          (above_start start x.key y.key lt passed)) above in
          rw past (keep_same (due (upwards (Excluded d.key) end sift)) (due (upwards start end sift)) alike ∙ tail)
      by false h f on =
          let lower : x.key < d.key = all_head (subst (All (λ y. x.key < y.key)) f (keep_each (due (upwards start end sift)) above)) in
          let past : due (upwards (Excluded d.key) end sift) x ≡ false =
          not_started (upwards (Excluded d.key) end sift) x (le-ltb d.key x.key (omega (arith, lower))) in
          rw past (on f)

  -- and so after any that come first
  pub rest_due : (start : Bound) (a b : List Entry) {es : List Entry} → Sorted es → due_from start es ≡ a ++ b → due_from (next_start start a) es ≡ b
  rest_due start [] b s e = e
  rest_due start (d ∷ a) b s e = rest_due (Excluded d.key) a b s (rest_one start d (a ++ b) s e)

  -- A KEY that is due from a start on is due from any other that lets it pass
  pub still_due : (start other : Bound) (k : ℕ) (es : List Entry) → starts other k ≡ true
      → times k (entry_keys (due_from start es)) ≤ times k (entry_keys (due_from other es))
  still_due start other k [] h = omega arith
  still_due start other k (x ∷ xs) h =
      omega (
        arith,
        counted (due (upwards start end sift)) k x xs,
        counted (due (upwards other end sift)) k x xs,
        head (ℕ_discrete k x.key),
        still_due start other k xs h,
      )
    where
      head : Dec (k ≡ x.key) → cond (due (upwards start end sift) x) (hit k x.key) 0 ≤ cond (due (upwards other end sift) x) (hit k x.key) 0
      head (yes q) =
          by_test (λ n. n ≤ cond (due (upwards other end sift) x) (hit k x.key) 0) (due (upwards start end sift) x)
          (λ d.
          let on : due (upwards other end sift) x ≡ true =
          sym (due_alike start other x (due_started start x d) (subst (λ (j : ℕ). starts other j ≡ true) q h)) ∙ d in
          rw on (omega arith))
          (λ _. omega arith)
      head (no ne) =
          rw (hit_other k x.key ne)
          (by_test (λ n. n ≤ cond (due (upwards other end sift) x) 0 0) (due (upwards start end sift) x) (λ _. omega arith) (λ _. omega arith))

-- THE NEXT START lets pass what this one does and is above all that was shown
pub next_above : (start : Bound) (k : ℕ) {es : List Entry} → Sorted es → All (λ e. starts start e.key ≡ true) es → starts (next_start start es) k ≡ true
    → (starts start k ≡ true) × All (λ e. e.key < k) es
next_above start k nil none h = (h, none)
next_above start k (cons {x = e} {xs = es} above s) (one g gs) h =
    let on = next_above (Excluded e.key) k s (all_map (λ f lt. lt-ltb e.key f.key lt) above) h in
    let higher : e.key < k = ltb-true e.key k on.0 in
    (above_start start e.key k higher g, one higher on.1)

-- where nothing was shown it is this one
pub none_shown : (start : Bound) (es : List Entry) → length es ≡ 0 → next_start start es ≡ start
none_shown start [] e = refl
none_shown start (x ∷ es) e = absurd (omega (arith, e))
