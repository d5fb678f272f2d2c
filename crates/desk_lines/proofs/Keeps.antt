-- A part is kept behind the parts before it, and the parts are the line. Assumes nothing.
use Prim.Native.Nat.{◌+◌, ◌<◌, ◌≤◌}
use native.Mathlib.Omega.{arith}
use mathlib.Core.Path.{◌≡◌, refl, ap, ◌∙◌}
use mathlib.Core.Bool.{Bool, true, false, cond}
use mathlib.Core.List.{◌++◌}
use lib.Dec.{leb}
use lib.ListN.{length, take, drop, length-append}
use lib.Seq.{length-take-le, take_at}
use borrow.Author.Tests.{lt-leb, leb-true, leb-false}
use Rattle.desk_lines.specs.Parts.{longest, whole, too_long, kept, joined, held, keeping, KeepsTheParts, CutAnyhow}

pub cut_anyhow : CutAnyhow
cut_anyhow a b = by (leb (length a) longest) refl
  where
    by : (t : Bool) → leb (length a) longest ≡ t → joined (cond t (whole a) too_long) b ≡ kept (a ++ b)
    by true e = refl
    by false e =
        let more : longest < length (a ++ b) = omega (arith, leb-false (length a) longest e, length-append a b) in
        simp (lt-leb (length (a ++ b)) longest more) refl

pub keeps_the_parts : KeepsTheParts
keeps_the_parts p part full = by (leb p.count longest) refl (leb (p.count + length part) longest) refl
  where
    by : (s : Bool) → leb p.count longest ≡ s → (t : Bool) → leb (p.count + length part) longest ≡ t → held (keeping p part) ≡ joined (held p) part
    by true d true e =
        let n = p.count in
        let m = n + length part in
        let fits : m ≤ longest = leb-true _ _ e in
        let had : length (take n p.bytes) ≡ n = length-take-le n p.bytes (omega arith) in
        let long : length (take n p.bytes ++ part) ≡ m = length-append (take n p.bytes) part ∙ ap (◌+ length part) had in
        let front : take m (take n p.bytes ++ part ++ drop m p.bytes) ≡ take n p.bytes ++ part = take_at (take n p.bytes ++ part) (drop m p.bytes) m long in
        rw (e, d, front, long) (simp e refl)
    by true d false e =
        let had : length (take p.count p.bytes) ≡ p.count = length-take-le p.count p.bytes (omega (arith, leb-true p.count longest d)) in
        let more : longest < length (take p.count p.bytes ++ part) = omega (arith, leb-false (p.count + length part) longest e, length-append (take p.count p.bytes) part) in
        rw (e, d) (simp (lt-leb (length (take p.count p.bytes ++ part)) longest more) refl)
    by false d true e = absurd (omega (arith, leb-false p.count longest d, leb-true (p.count + length part) longest e))
    by false d false e = rw (e, d) refl
