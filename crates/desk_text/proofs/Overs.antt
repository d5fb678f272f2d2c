-- Texts put one behind the other are one text. Assumes nothing.
use Prim.Native.Nat.{ℕ, ◌+◌, ◌-◌, ◌≤◌}
use native.Mathlib.Omega.{arith}
use mathlib.Core.Path.{◌≡◌, refl, sym, ap, ◌∙◌}
use mathlib.Core.List.{List, ◌++◌, append_assoc}
use lib.ListN.{length, take, drop, length-append, length-drop}
use lib.Seq.{length-take-le, take-length, take_at, drop-drop, drop-append-add, paste}
use Rattle.desk_text.specs.Texts.{over}

module _ (at : ℕ) (s t : List ℕ) (room : at + length s ≤ length t) where
  front : length (take at t ++ s) ≡ at + length s
  front = length-append (take at t) s ∙ ap (◌+ length s) (length-take-le at t (omega arith))

  pub length_over : length (over at s t) ≡ length t
  length_over =
      let a : length (over at s t) ≡ length (take at t ++ s) + length (drop (at + length s) t) = length-append (take at t ++ s) (drop (at + length s) t) in
      let b : length (drop (at + length s) t) ≡ length t - (at + length s) = length-drop (at + length s) t in
      omega (arith, a, b, front)

  -- another, behind it
  pub over_over : (end : ℕ) (u : List ℕ) → end ≡ at + length s → over end u (over at s t) ≡ over at (s ++ u) t
  over_over end u e =
      let head : take end (over at s t) ≡ take at t ++ s = take_at (take at t ++ s) (drop (at + length s) t) end (front ∙ sym e) in
      let far : at + length s + length u ≡ at + length (s ++ u) = omega (arith, length-append s u) in
      let tail : drop (end + length u) (over at s t) ≡ drop (at + length (s ++ u)) t =
      ap (λ n. drop (n + length u) (over at s t)) (e ∙ sym front)
      ∙ drop-append-add (take at t ++ s) (drop (at + length s) t) (length u)
      ∙ drop-drop (length u) (at + length s) t
      ∙ ap (λ n. drop n t) far in
      rw (head, tail) (ap (◌++ drop (at + length (s ++ u)) t) (append_assoc (take at t) s u))

-- in the first bytes
pub over_first : (s t : List ℕ) → over 0 s t ≡ s ++ drop (length s) t
over_first s t = let z : 0 + length s ≡ length s = omega arith in rw z refl

-- a whole text copied
pub over_paste : (at : ℕ) (s t : List ℕ) → paste t at s (length s) ≡ over at s t
over_paste at s t = ap (λ p. take at t ++ p ++ drop (at + length s) t) (take-length s)

-- ONE BEHIND THE OTHER

-- s was put at a place, and stands before the place `end`
pub record Put (at : ℕ) (s t : List ℕ) (end : ℕ) (t' : List ℕ) : Type 0 where
  pub room : at + length s ≤ length t
  pub ends : end ≡ at + length s
  pub bytes : t' ≡ over at s t

pub behind : {at mid end : ℕ} {s u t t₁ t₂ : List ℕ} → Put at s t mid t₁ → Put mid u t₁ end t₂ → Put at (s ++ u) t end t₂
behind {at} {mid} {end} {s} {u} {t} {t₁} {t₂} p q =
    let same : length t₁ ≡ length t = ap length p.bytes ∙ length_over at s t p.room in
    record {
      room = omega (arith, length-append s u, p.ends, q.room, same);
      ends = omega (arith, length-append s u, p.ends, q.ends);
      bytes = q.bytes ∙ ap (over mid u) p.bytes ∙ over_over at s t p.room mid u p.ends;
    }

pub put_length : {at end : ℕ} {s t t' : List ℕ} → Put at s t end t' → length t' ≡ length t
put_length {at} {end} {s} {t} {t'} p = ap length p.bytes ∙ length_over at s t p.room
