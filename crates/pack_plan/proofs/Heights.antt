-- From one height to the next: what a tree can hold, and the search for the least height that suffices. Assumes nothing.
use mathlib.Core.Path.{◌≡◌, refl, sym, ap, ◌∙◌}
use Prim.Native.Nat.{ℕ, zero, suc, ◌+◌, ◌-◌, ◌*◌, ◌≤◌, ◌<◌}
use native.Mathlib.Omega.{arith}
use native.Mathlib.Numerals.{add-one}
use borrow.Author.Tests.{le-leb, lt-leb}
use Rattle.model_pack.specs.Pack.{capacity, height_from, height_for}
use Rattle.model_pack.proofs.Pieces.{capacity_most}

pub capacity_next : (o h most : ℕ) → most ≡ capacity o h → o * most ≡ capacity o (h + 1)
capacity_next o h most e = ap (λ (m : ℕ). o * m) e ∙ ap (capacity o) (sym (add-one h))

-- it fits a word
pub capacity_fits : (o h most : ℕ) → o ≤ 32 → h < 7 → most ≡ capacity o h → o * most ≤ 1099511627776
capacity_fits o h most narrow low e = omega (arith, ap (λ (m : ℕ). o * m) e, capacity_most o (suc h) narrow low)

-- THE LEAST HEIGHT for n entries, sought from h on

pub record Seeking (o n most h : ℕ) : Type 0 where
  pub low : h ≤ 7
  pub holds : most ≡ capacity o h
  pub same : height_for o n ≡ height_from (7 - h) o n h

pub seeking_start : (o n : ℕ) → Seeking o n o 0
seeking_start o n = record { low = omega arith; holds = refl; same = refl }

module _ {o n most h : ℕ} (s : Seeking o n most h) where
  -- this one does not suffice
  pub seeking_on : h < 7 → most < n → Seeking o n (o * most) (h + 1)
  seeking_on lt over =
      let more : ℕ = 7 - (h + 1) in
      let e : 7 - h ≡ suc more = omega arith in
      let above : capacity o h < n = omega (arith, s.holds) in
      let past : height_from (suc more) o n h ≡ height_from more o n (suc h) = rw (lt-leb n (capacity o h) above) in
      record {
        low = omega arith;
        holds = capacity_next o h most s.holds;
        same = s.same ∙ ap (λ (m : ℕ). height_from m o n h) e ∙ past ∙ ap (height_from more o n) (sym (add-one h));
      }

  -- this one does
  pub seeking_found : n ≤ most → h ≡ height_for o n
  seeking_found fit = sym (s.same ∙ here (7 - h))
    where
      here : (more : ℕ) → height_from more o n h ≡ h
      here zero = refl
      here (suc more) = rw (le-leb n (capacity o h) (omega (arith, s.holds)))

  -- or there is none above it
  pub seeking_past : 7 ≤ h → h ≡ height_for o n
  seeking_past top = let e : 7 - h ≡ 0 = omega arith in sym (s.same ∙ ap (λ (m : ℕ). height_from m o n h) e)
