-- Nodes of which one or two are replaced: what stands where, and that unused slots stay blank. Assumes nothing.
use mathlib.Core.Path.{◌≡◌, sym, ap, ◌∙◌}
use mathlib.Core.Logic.{◌≢◌}
use mathlib.Core.List.{List}
use Prim.Native.Nat.{ℕ, ◌≤◌, ◌<◌}
use native.Mathlib.Omega.{arith}
use native.Mathlib.Decide.{ℕ_discrete, dec_lt}
use lib.ListN.{length, set, length-set}
use lib.Seq.{get_or-set_other, set_out}
use Rattle.slots.specs.Nodes.{nth, unused, put2}
use Rattle.slots.specs.Nodes as S
use Rattle.slots.proofs.Nodes.{nth_same}
use Rattle.tree.specs.Bridge.{unused_of, Blank}
use Rattle.tree.proofs.Unused.{unused_kept}

-- WHAT STANDS WHERE

module _ (ns : List S.Node) (t : ℕ) (x : S.Node) (s : ℕ) (y : S.Node) where
  pub put_first : t ≢ s → t < length ns → nth (put2 ns t x s y) t ≡ x
  put_first ne h = get_or-set_other (set ns t x) s t y unused ne ∙ nth_same ns t x h

  pub put_second : s < length ns → nth (put2 ns t x s y) s ≡ y
  put_second h = nth_same (set ns t x) s y (omega (arith, h, length-set ns t x))

  pub put_other : (z : ℕ) → z ≢ t → z ≢ s → nth (put2 ns t x s y) z ≡ nth ns z
  put_other z a b = get_or-set_other (set ns t x) s z y unused b ∙ get_or-set_other ns t z x unused a

  pub length_put : length (put2 ns t x s y) ≡ length ns
  length_put = length-set (set ns t x) s y ∙ length-set ns t x

  -- two nodes of the kinds that were there
  pub unused_put : t ≢ s → x.kind ≡ (nth ns t).kind → y.kind ≡ (nth ns s).kind → unused_of (put2 ns t x s y) ≡ unused_of ns
  unused_put ne ex ey =
      unused_kept (set ns t x) s y (ey ∙ ap (λ (n : S.Node). n.kind) (sym (get_or-set_other ns t s x unused (λ e. ne (sym e))))) ∙ unused_kept ns t x ex

-- UNUSED SLOTS STAY BLANK

pub blank_set : (ns : List S.Node) (t : ℕ) (x : S.Node) → Blank ns → (x.kind ≡ 0 → x ≡ unused) → Blank (set ns t x)
blank_set ns t x f g z k = by (ℕ_discrete z t) (dec_lt t (length ns))
  where
    by : Dec (z ≡ t) → Dec (t < length ns) → nth (set ns t x) z ≡ unused
    by (no ne) d = let e : nth (set ns t x) z ≡ nth ns z = get_or-set_other ns t z x unused ne in e ∙ f z (ap (λ (n : S.Node). n.kind) (sym e) ∙ k)
    by (yes e) (yes h) =
        let q : nth (set ns t x) z ≡ x = ap (nth (set ns t x)) e ∙ nth_same ns t x h in
        q ∙ g (ap (λ (n : S.Node). n.kind) (sym q) ∙ k)
    by (yes e) (no h) =
        let le : length ns ≤ t = omega arith in
        let q : nth (set ns t x) z ≡ nth ns z = ap (λ (l : List S.Node). nth l z) (set_out ns t x le) in
        q ∙ f z (ap (λ (n : S.Node). n.kind) (sym q) ∙ k)
