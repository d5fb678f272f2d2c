-- The root of a tree that is built: its kind is set first, and the leaf is filled or the children are built after it. Assumes nothing.
use mathlib.Core.Path.{◌≡◌, sym, ap, ◌∙◌, subst}
use mathlib.Core.Logic.{◌≢◌}
use mathlib.Core.List.{List, []}
use Prim.Native.Nat.{ℕ}
use native.Mathlib.Omega.{arith}
use lib.Seq.{get_or-set_same, get_or-set_other}
use Rattle.slots_raw.specs.declared.Row.{Row}
use Rattle.slots.specs.Nodes.{nodes, nth, unused, put_kind}
use Rattle.slots.specs.Nodes as S
use Rattle.slots.specs.Promises.{NodesPut}
use Rattle.slots.proofs.Nodes.{length_nodes}
use Rattle.model.specs.declared.Settings.{Settings}
use Rattle.model_pack.specs.Pack.{capacity}
use Rattle.model_pack.proofs.Packs.{packed_slot}
use Rattle.tree.specs.Bridge.{kind_for}
use Rattle.pack.specs.declared.Source.{Source}
use Rattle.pack.specs.declared.Piece.{Piece}
use Rattle.pack.specs.Build.{entries_in, taken, tree_for, bare}
use Rattle.pack.specs.Promises.{ToBuild, Built, ToFill, Filled}
use Rattle.pack.proofs.Fills.{leaf_built}

module _ (st : Settings) (k : Source) (U : List ℕ) (h : ℕ) (p : Piece) (W₀ W : List ℕ) (b : ToBuild st W₀ k U h p) (κ : ℕ) (is : κ ≡ kind_for h)
    (w : NodesPut st W₀ W (put_kind (nodes st W₀) p.slot κ)) where
  kept : (x : ℕ) → x ≢ p.slot → nth (nodes st W) x ≡ nth (nodes st W₀) x
  unfolding put_kind
  kept x ne = ap (λ (ns : List S.Node). nth ns x) w.is ∙ get_or-set_other (nodes st W₀) p.slot x _ unused ne

  begun : nth (nodes st W) p.slot ≡ bare h
  unfolding put_kind
  begun =
      ap (λ (ns : List S.Node). nth ns p.slot) w.is ∙ get_or-set_same (nodes st W₀) p.slot _ unused (omega (arith, length_nodes st W₀, b.root.slot))
      ∙ ap (λ (rs : List Row). record { kind = κ; rows = rs }) b.root.empty ∙ ap (λ (j : ℕ). record { kind = j; rows = [] }) is

  asks : ToBuild st W k U h p
  asks =
      record {
        root = record { held = w.held; slot = b.root.slot; empty = ap (λ (n : S.Node). n.rows) begun };
        source = b.source;
        within = b.within;
        tall = b.tall;
        fits = b.fits;
        before = b.before;
        inside = b.inside;
        free = λ x ge lt. kept x (λ e. absurd (omega (arith, b.before))) ∙ b.free x ge lt;
      }

  -- what is built after it is built from the start
  from_start : (W' : List ℕ) (r : ℕ) → Built st W W' h (tree_for st (entries_in k U) h p) p.next r
      → Built st W₀ W' h (tree_for st (entries_in k U) h p) p.next r
  from_start W' r d =
      record {
        held = d.held;
        header = d.header ∙ w.header;
        tree = d.tree;
        others = λ x ne side. d.others x ne side ∙ kept x (λ e. ne (e ∙ sym (packed_slot st.order h p.slot p.next (taken (entries_in k U) p))));
        end = d.end;
      }

  -- A LEAF

  module _ (low : h ≡ 0) where
    pub leaf_asks : ToFill st W k U p
    leaf_asks =
        record {
          held = w.held;
          slot = b.root.slot;
          leaf = begun ∙ ap bare low;
          source = b.source;
          within = b.within;
          fits = omega (arith, b.fits, ap (capacity st.order) low);
        }

    pub leaf_done : (W' : List ℕ) → Filled st W W' p.slot (entries_in k U) p.from p.count
        → Built st W₀ W' h (tree_for st (entries_in k U) h p) p.next p.next
    leaf_done W' f =
        from_start W' p.next
        (subst (λ (n : ℕ). Built st W W' n (tree_for st (entries_in k U) n p) p.next p.next) (sym low) (leaf_built st W k U p leaf_asks W' f))

  -- AN INTERIOR of height g

  module _ (g : ℕ) (high : h ≡ g) where
    pub children_ask : ToBuild st W k U g p
    children_ask = subst (λ (n : ℕ). ToBuild st W k U n p) high asks

    pub children_begun : nth (nodes st W) p.slot ≡ bare g
    children_begun = begun ∙ ap bare high

    pub children_done : (W' : List ℕ) (r : ℕ) → Built st W W' g (tree_for st (entries_in k U) g p) p.next r
        → Built st W₀ W' h (tree_for st (entries_in k U) h p) p.next r
    children_done W' r d = from_start W' r (subst (λ (n : ℕ). Built st W W' n (tree_for st (entries_in k U) n p) p.next r) (sym high) d)
