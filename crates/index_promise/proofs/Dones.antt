-- Calls that read one tree and are refused as 2 and 19 alone, scans and portions: what is known where one was done, and that they are refused alike.
-- Assumes nothing.
use mathlib.Core.Path.{◌≡◌, refl, sym, ap, ◌∙◌}
use mathlib.Core.Bool.{Bool, true, false, cond}
use mathlib.Core.List.{List}
use Prim.Native.Nat.{ℕ, ◌<◌}
use lib.Dec.{ltb}
use borrow.Author.Tests.{ltb-true, lt-ltb}
use Rattle.std.specs.Prelude.{Ok, Err}
use Rattle.model.specs.declared.Refusal.{Refusal}
use Rattle.model.specs.Answer.{Answer, refused, done}
use Rattle.model.specs.Forest.{named}
use Rattle.model.proofs.Answers.{refused_done}
use Rattle.model.specs.declared.Bound.{Bound}
use Rattle.model.specs.declared.Sift.{Sift}
use Rattle.model.specs.declared.Request.{Request}
use Rattle.model.specs.Look.{scan}
use Rattle.tree.specs.Pool.{SoundPool, index_of}
use Rattle.look_output.specs.declared.Scanned as Told
use Rattle.look_output.specs.Output.{room_in}
use Rattle.look_portion.specs.declared.Portion.{Portion}
use Rattle.look_portion.specs.Portion.{upwards, portion}
use Rattle.index_promise.proofs.Unique.{parts}
use Rattle.index_promise.specs.Promise.{Where, holds, fails, Left, ◌leaving◌, leaves, unsound, swept, shown, written, Scans, Portions}

-- two answers that are done and the same say the same, and so do two refusals
pub done_is : {A : Type 0} {a b : A} → done a ≡ done b → a ≡ b
done_is e = cc

refused_is : {A : Type 0} {n m : ℕ} → ◌≡◌ {A = Answer A} (refused n) (refused m) → n ≡ m
refused_is e = cc

-- whatever the call would have told
refusal_alike : {B D : Type 0} {n m : ℕ} {k j : List ℕ} → ◌≡◌ {A = Left B} (refused n leaving k) (refused m leaving j)
    → ◌≡◌ {A = Left D} (refused n leaving k) (refused m leaving j)
refusal_alike {m = m} {k = k} e =
    let both = parts e in
    ap (λ (n : ℕ). refused n leaving k) (refused_is both.0) ∙ ap (λ (o : List ℕ). refused m leaving o) both.1

-- a tree whose number is 0 or 1 is not refused as 19
pub named_is : {A : Type 0} (i : ℕ) (a : Answer A) → i < 2 → named i a ≡ a
named_is i a low = rw (lt-ltb i 2 low) refl

-- WHERE ONE WAS DONE the pool is sound and has the tree, and what it tells and leaves is what is said of that tree, here a

module _ {A B : Type 0} (l : List ℕ) (i : ℕ) (a : A) (says : A → B) (bytes : A → List ℕ) where
  pub record WasDone (v : B) (out' : List ℕ) : Type 0 where
    pub sound : SoundPool l
    pub tree : i < 2
    pub tells : v ≡ says a
    pub leaves : out' ≡ bytes a

  abbrev pub Reads : List ℕ → Left B → Type 0
  Reads out r = Where (SoundPool l) (leaves says bytes out (named i (done a))) (unsound out) r

  pub was_done : (out : List ℕ) {v : B} {out' : List ℕ} → Reads out (done v leaving out') → WasDone v out'
  was_done out {v} {out'} (fails u e) = absurd (refused_done 2 v (sym (parts e).0))
  was_done out {v} {out'} (holds s e) = by (ltb i 2) refl e
    where
      by : (t : Bool) → ltb i 2 ≡ t → (done v leaving out') ≡ leaves says bytes out (cond t (done a) (refused 19)) → WasDone v out'
      by true low g = record { sound = s; tree = ltb-true i 2 low; tells = done_is (parts g).0; leaves = (parts g).1 }
      by false high g = absurd (refused_done 19 v (sym (parts g).0))

  -- where one is refused, so is any other, whatever that would have told
  pub refused_alike : {C D : Type 0} (c : C) (other : C → D) (others : C → List ℕ) (out : List ℕ) {n : ℕ} {out' : List ℕ} → Reads out (refused n leaving out')
      → Where (SoundPool l) (leaves other others out (named i (done c))) (unsound out) (refused n leaving out')
  refused_alike c other others out (fails u e) = fails u (refusal_alike e)
  refused_alike c other others out {n} {out'} (holds s e) = holds s (by (ltb i 2) e)
    where
      by : (t : Bool) → (refused n leaving out') ≡ leaves says bytes out (cond t (done a) (refused 19))
          → (refused n leaving out') ≡ leaves other others out (cond t (done c) (refused 19))
      by true g = absurd (refused_done n (says a) (parts g).0)
      by false g = refusal_alike g

-- SCANS AND PORTIONS

abbrev pub ScanDone : List ℕ → ℕ → Request → List ℕ → Told.Scanned → List ℕ → Type 0
ScanDone l i q out s out' = WasDone l i (scan q (room_in out) (index_of l i)) swept (λ x. written out x.listed) s out'

pub scan_done : (l : List ℕ) (i : ℕ) (q : Request) (out : List ℕ) {s : Told.Scanned} {out' : List ℕ} → Scans l i q out (Ok s) out'
    → ScanDone l i q out s out'
scan_done l i q out = was_done l i (scan q (room_in out) (index_of l i)) swept (λ x. written out x.listed) out

abbrev pub PortionDone : List ℕ → ℕ → Bound → Bound → Sift → List ℕ → Portion → List ℕ → Type 0
PortionDone l i start end sift out p out' = WasDone l i (portion start end sift (room_in out) (index_of l i)) shown (λ x. written out x.scanned.listed) p out'

pub portion_done : (l : List ℕ) (i : ℕ) (start end : Bound) (sift : Sift) (out : List ℕ) {p : Portion} {out' : List ℕ}
    → Portions l i start end sift out (Ok p) out' → PortionDone l i start end sift out p out'
portion_done l i start end sift out = was_done l i (portion start end sift (room_in out) (index_of l i)) shown (λ x. written out x.scanned.listed) out

-- a portion whose scan is refused is refused
pub portion_refused : (l : List ℕ) (i : ℕ) (start end : Bound) (sift : Sift) (out : List ℕ) (why : Refusal) {out' : List ℕ}
    → Scans l i (upwards start end sift) out (Err why) out' → Portions l i start end sift out (Err why) out'
portion_refused l i start end sift out why =
    refused_alike l i (scan (upwards start end sift) (room_in out) (index_of l i)) swept (λ x. written out x.listed)
    (portion start end sift (room_in out) (index_of l i)) shown (λ x. written out x.scanned.listed) out
