-- What the length of a pool, and a frame that was read, report. Assumes nothing.
use Prim.Native.Nat.{ℕ}
use mathlib.Core.Path.{◌≡◌, refl, ap, ◌∙◌}
use mathlib.Core.Bool.{Bool, true, false, not}
use borrow.Author.Tests.{not-true, not-false}
use Rattle.model.specs.declared.PoolSettings.{PoolSettings}
use Rattle.std.specs.Prelude.{Result, Ok, Err}
use Rattle.model.specs.declared.Refusal.{Refusal}
use Rattle.model.specs.Answer.{Answer, Tells, told}
use Rattle.model.specs.Frame.{Frame}
use Rattle.model.specs.Sound.{PoolLimits}
use Rattle.model.proofs.Answers.{told_no}
use Rattle.tree.specs.Pool.{pool_len}
use Rattle.frame_text.specs.declared.Contents.{Contents}
use Rattle.frame_text.specs.Answers.{Reads}
use Rattle.index_promise.specs.Promise.{Where, holds, fails}
use Rattle.index_c_told.specs.Told.{code_of, filled, Reports}
use Rattle.index_c_fields.specs.Fields.{Fields, fields_of, frame_fields}

-- THE LENGTH OF A POOL

module _ (given : PoolSettings) (b : Bool) (t : Tells b (PoolLimits given)) where
  pub len_wrong : not b ≡ true → Where (PoolLimits given) (pool_len given) 0 0
  len_wrong e = fails (told_no t (not-true b e)) refl

  pub len_limits : not b ≡ false → PoolLimits given
  len_limits e = t.holds (not-false b e)

  pub len_right : (n : ℕ) → not b ≡ false → n ≡ pool_len given → Where (PoolLimits given) (pool_len given) 0 n
  len_right n e h = holds (len_limits e) h

-- READING A FRAME

pub read_reported : (a : Answer Frame) (r : Result Contents Refusal) (b b' : Fields) (n : ℕ) → Reads a r → Reports fields_of (told r) b n b'
    → Reports frame_fields a b n b'
read_reported a (Ok c) b b' n s t =
    record {
      number = t.number ∙ ap (code_of {A = Frame}) s.answer;
      small = t.small ∙ ap fields_of (s.zeros c refl) ∙ ap (λ (x : Answer Frame). filled frame_fields x b) s.answer;
    }
read_reported a (Err m) b b' n s t =
    record {
      number = t.number ∙ ap (code_of {A = Frame}) s.answer;
      small = t.small ∙ ap (λ (x : Answer Frame). filled frame_fields x b) s.answer;
    }
