-- Whatever keeps a call's promise is one answer and one state of the lent bytes. Assumes nothing.
use mathlib.Core.Path.{◌≡◌, sym, ap, ◌∙◌}
use mathlib.Core.List.{List}
use Prim.Native.Nat.{ℕ}
use Rattle.std.specs.Prelude.{Result}
use Rattle.model.specs.declared.PoolSettings.{PoolSettings}
use Rattle.model.specs.declared.Totals.{Totals}
use Rattle.model.specs.declared.Counts.{Counts}
use Rattle.model.specs.declared.Refusal.{Refusal}
use Rattle.model.specs.Answer.{Answer, told}
use Rattle.model.specs.declared.Bound.{Bound}
use Rattle.model.specs.declared.Sift.{Sift}
use Rattle.model.specs.declared.Request.{Request}
use Rattle.model.specs.Refuse.{Call}
use Rattle.model.proofs.Refusals.{told_only}
use Rattle.look_output.specs.declared.Listed.{Listed}
use Rattle.look_output.specs.declared.Scanned as Told
use Rattle.look_portion.specs.declared.Portion.{Portion}
use Rattle.index_promise.specs.Promise.{Where, holds, fails, Left, ◌leaving◌, Opens, Totalling, Batches, Gets, Scans, Portions, Frames, Packs}

pub where_unique : {P : Type 0} {A : Type 0} {a b r s : A} → Where P a b r → Where P a b s → r ≡ s
where_unique (holds p e) (holds q f) = e ∙ sym f
where_unique (holds p e) (fails q f) = absurd (q p)
where_unique (fails p e) (holds q f) = absurd (p q)
where_unique (fails p e) (fails q f) = e ∙ sym f

-- where the condition is known to hold
pub by_sound : {P A : Type 0} {a b r : A} → P → Where P a b r → r ≡ a
by_sound p (holds q e) = e
by_sound p (fails q e) = absurd (q p)

-- and where it is known to fail
pub by_unsound : {P A : Type 0} {a b r : A} → (P → ⊥) → Where P a b r → r ≡ b
by_unsound u (holds q e) = absurd (u q)
by_unsound u (fails q e) = e

-- what a call leaves is known by its parts
pub parts : {A : Type 0} {a b : Answer A} {l m : List ℕ} → (a leaving l) ≡ (b leaving m) → (a ≡ b) × (l ≡ m)
parts {A = A} e = (ap (λ (w : Left A). w.answer) e, ap (λ (w : Left A). w.bytes) e)

-- two results that tell the same are the same
pub one_left : {P A : Type 0} {a b : Left A} {k m : List ℕ} (r q : Result A Refusal) → Where P a b (told r leaving k) → Where P a b (told q leaving m)
    → (r ≡ q) × (k ≡ m)
one_left r q x y = let e = parts (where_unique x y) in (told_only r q e.0, e.1)

-- THE CALLS

pub one_opening : (given : PoolSettings) (l k m : List ℕ) (r q : Result (Unit {0}) Refusal) → Opens given l r k → Opens given l q m → (r ≡ q) × (k ≡ m)
one_opening given l k m = one_left

pub one_totals : (l : List ℕ) (i : ℕ) (r q : Result Totals Refusal) → Totalling l i r → Totalling l i q → r ≡ q
one_totals l i r q a b = told_only r q (where_unique a b)

pub one_batch_lem : (i : ℕ) (c : Call) (l k m : List ℕ) (r q : Result Counts Refusal) → Batches i c l r k → Batches i c l q m → (r ≡ q) × (k ≡ m)
one_batch_lem i c l k m = one_left

pub one_get : (l : List ℕ) (i : ℕ) (ks out k m : List ℕ) (r q : Result Listed Refusal) → Gets l i ks out r k → Gets l i ks out q m → (r ≡ q) × (k ≡ m)
one_get l i ks out k m = one_left

pub one_scan : (l : List ℕ) (i : ℕ) (p : Request) (out k m : List ℕ) (r q : Result Told.Scanned Refusal) → Scans l i p out r k → Scans l i p out q m
    → (r ≡ q) × (k ≡ m)
one_scan l i p out k m = one_left

pub one_portion : (l : List ℕ) (i : ℕ) (start end : Bound) (sift : Sift) (out k m : List ℕ) (r q : Result Portion Refusal)
    → Portions l i start end sift out r k → Portions l i start end sift out q m → (r ≡ q) × (k ≡ m)
one_portion l i start end sift out k m = one_left

pub one_frame : (l : List ℕ) (i n : ℕ) (line k m : List ℕ) (r q : Result ℕ Refusal) → Frames l i n line r k → Frames l i n line q m → (r ≡ q) × (k ≡ m)
one_frame l i n line k m = one_left

pub one_pack : (l m k k' : List ℕ) (r q : Result (Unit {0}) Refusal) → Packs l m r k → Packs l m q k' → (r ≡ q) × (k ≡ k')
one_pack l m k k' = one_left
