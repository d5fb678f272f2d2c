-- Keys that ascend from a last key on, entry by entry, are those that are sorted and beyond it. Assumes nothing.
use mathlib.Core.Path.{◌≡◌, refl, ap, ◌∙◌}
use Rattle.std.specs.Prelude.{Option, Some, None}
use mathlib.Core.List.{List, [], ◌∷◌, ◌++◌}
use Prim.Native.Nat.{ℕ, ◌<◌}
use native.Mathlib.Omega.{arith}
use Rattle.model.specs.declared.Entry.{Entry}
use Rattle.model.specs.Lists.{All, none, one, nil, cons}
use Rattle.model.specs.Sound.{Sorted}
use Rattle.model.proofs.Lists.{all_map}
use Rattle.model.proofs.Trees.{Ends}
use Rattle.survey_node.specs.Parts.{met, after, Beyond}

-- as the walk tests them
abbrev pub Ascends : Option ℕ → List Entry → Type 0
Ascends p [] = Unit {0}
Ascends p (e ∷ es) = Beyond p e × Ascends (met e) es

-- PARTS

pub after_append : (p : Option ℕ) (a b : List Entry) → after p (a ++ b) ≡ after (after p a) b
after_append p [] b = refl
after_append p (e ∷ a) b = after_append (met e) a b

pub ascends_append : (p : Option ℕ) (a b : List Entry) → Ascends p a → Ascends (after p a) b → Ascends p (a ++ b)
ascends_append p [] b h g = g
ascends_append p (e ∷ a) b h g = (h.0, ascends_append (met e) a b h.1 g)

pub ascends_left : (p : Option ℕ) (a b : List Entry) → Ascends p (a ++ b) → Ascends p a
ascends_left p [] b h = tt
ascends_left p (e ∷ a) b h = (h.0, ascends_left (met e) a b h.1)

pub ascends_right : (p : Option ℕ) (a b : List Entry) → Ascends p (a ++ b) → Ascends (after p a) b
ascends_right p [] b h = h
ascends_right p (e ∷ a) b h = ascends_right (met e) a b h.1

-- SORTED AND BEYOND

pub ascends_beyond : (p : Option ℕ) (es : List Entry) → Ascends p es → All (Beyond p) es
ascends_beyond p [] h = none
ascends_beyond p (e ∷ es) h = one h.0 (all_map (λ (x : Entry) (g : Beyond (met e) x). further x g) (ascends_beyond (met e) es h.1))
  where
    further : (x : Entry) → e.key < x.key → Beyond p x
    further x g = above p h.0
      where
        above : (q : Option ℕ) → Beyond q e → Beyond q x
        above None b = tt
        above (Some k) b = omega arith

pub ascends_sorted : (p : Option ℕ) (es : List Entry) → Ascends p es → Sorted es
ascends_sorted p [] h = nil
ascends_sorted p (e ∷ es) h =
    cons (all_map (λ (x : Entry) (g : Beyond (met e) x). g) (ascends_beyond (met e) es h.1)) (ascends_sorted (met e) es h.1)

pub sorted_ascends : (p : Option ℕ) (es : List Entry) → Sorted es → All (Beyond p) es → Ascends p es
sorted_ascends p [] s b = tt
sorted_ascends p (e ∷ es) (cons h s) (one b bs) = (b, sorted_ascends (met e) es s (all_map (λ (x : Entry) (g : e.key < x.key). g) h))

-- THE LAST KEY of a list that ends with key k
pub after_ends : (p : Option ℕ) {es : List Entry} {k : ℕ} → Ends es k → after p es ≡ Some k
after_ends p {es} {k} e =
    ap (after p) e.whole ∙ after_append p e.init (e.last ∷ []) ∙ ap Some e.key
