-- A report is one: equal answers have equal results and buffers. Assumes nothing.
use Prim.Native.Nat.{ℕ}
use mathlib.Core.Path.{◌≡◌, sym, ap, ◌∙◌}
use Rattle.model.specs.Answer.{Answer}
use Rattle.index_c_told.specs.Told.{code_of, filled, Reports}

pub one_report : {A B : Type 0} (f : A → B) (a c : Answer A) (b b' b'' : B) (r q : ℕ) → a ≡ c → Reports f a b r b' → Reports f c b q b'' → (r ≡ q) × (b' ≡ b'')
one_report {A = A} f a c b b' b'' r q e s t =
    (s.number ∙ ap (code_of {A = A}) e ∙ sym t.number, s.small ∙ ap (λ (y : Answer A). filled f y b) e ∙ sym t.small)
