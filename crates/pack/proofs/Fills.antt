-- A leaf is filled run by run: what stands so far, what a further run asks, and what it leaves. Assumes nothing.
use mathlib.Core.Path.{◌≡◌, refl, sym, ap, ◌∙◌, subst}
use mathlib.Core.List.{List, ◌++◌, map}
use Prim.Native.Nat.{ℕ, ◌+◌, ◌-◌, ◌≤◌, ◌<◌, min}
use native.Mathlib.Omega.{arith}
use lib.ListN.{length, take, drop, set, length-map, length-drop}
use lib.Seq.{get_or-set_same, get_or-set_other, set-set, set-get_or, take-add, drop-drop, length-take-le}
use Rattle.slots_raw.specs.declared.Row.{Row}
use Rattle.slots_raw.specs.Over.{part}
use Rattle.slots_raw.proofs.Over.{map_append}
use Rattle.slots.specs.Nodes.{leaf_kind, nodes, nth, rows_at, unused, put_rows}
use Rattle.slots.specs.Nodes as S
use Rattle.slots.specs.Promises.{NodesPut}
use Rattle.slots.proofs.Nodes.{length_nodes}
use Rattle.slots_copy.specs.Promises.{ToCopy}
use Rattle.model.specs.declared.Entry.{Entry}
use Rattle.model.specs.declared.Settings.{Settings}
use Rattle.model.specs.Lists.{one}
use Rattle.model.proofs.Trees.{leaf_bare}
use Rattle.tree.specs.Bridge.{entry_row, Stands}
use Rattle.tree.proofs.SoundHolds.{rows_again, leaf_cells}
use Rattle.tree_rank.specs.declared.Spot.{Spot}
use Rattle.tree_rank.specs.Promises.{ToSpot, Spotted}
use Rattle.tree_rank.proofs.Ranks.{spotted_take}
use Rattle.pack.specs.declared.Source.{Source}
use Rattle.pack.specs.declared.Piece.{Piece}
use Rattle.pack.specs.Build.{entries_in, tree_for}
use Rattle.pack.specs.Promises.{ToFill, Filled, Built}

module _ (st : Settings) (W₀ : List ℕ) (k : Source) (U : List ℕ) (p : Piece) where
  abbrev es : List Entry
  es = entries_in k U

  -- the leaf has the first `done` entries of the piece
  abbrev pub Filling : List ℕ → ℕ → Type 0
  Filling W done = Filled st W₀ W p.slot es p.from done × (done ≤ p.count)

  module _ (f : ToFill st W₀ k U p) where
    inside : p.slot < length (nodes st W₀)
    inside = omega (arith, f.slot, length_nodes st W₀)

    pub filling_start : Filling W₀ 0
    filling_start = (
      record {
        held = f.held;
        is = sym (set-get_or (nodes st W₀) p.slot unused) ∙ ap (set (nodes st W₀) p.slot) f.leaf;
        header = refl;
      },
      omega arith,
    )

    module _ (W : List ℕ) (done : ℕ) (g : Filling W done) (on : done < p.count) where
      abbrev here : List Row
      here = map entry_row (take done (drop p.from es))

      node : nth (nodes st W) p.slot ≡ record { kind = leaf_kind; rows = here }
      node = ap (λ (ns : List S.Node). nth ns p.slot) g.0.is ∙ get_or-set_same (nodes st W₀) p.slot _ unused inside

      pub filling_spot : ToSpot k.settings U k.height k.settings.root (p.from + done)
      filling_spot = record { held = f.source.held; stands = f.source.stands; light = f.source.light; within = omega (arith, f.within) }

      -- a run of as many rows as stand side by side there and are wanted
      module _ (q : Spot) (s : Spotted k.settings U es (p.from + done) q) (run : ℕ)
          (is : run ≡ min (length (rows_at k.settings U q.leaf) - q.row) (p.count - done)) where
        abbrev theirs : List Row
        theirs = rows_at k.settings U q.leaf

        pub run_some : 0 < run
        run_some = omega (arith, s.row, is)

        here_length : length here ≡ done
        here_length =
            length-map (take done (drop p.from es)) entry_row
            ∙ length-take-le done (drop p.from es) (omega (arith, length-drop p.from es, f.within))

        pub filling_asks : ToCopy st W p.slot k.settings U q.leaf q.row run
        filling_asks =
            record {
              held = g.0.held;
              slot = f.slot;
              room = omega (arith, here_length, ap (λ (n : S.Node). length n.rows) node, f.fits, g.0.held.shape.roomy, is);
              other = f.source.held;
              theirs = s.slot;
              has = omega (arith, s.row, is);
            }

        module _ (W' : List ℕ)
            (w : NodesPut st W W' (put_rows (nodes st W) p.slot (rows_at st W p.slot ++ part theirs q.row run))) where
          brought : part theirs q.row run ≡ map entry_row (take run (drop (p.from + done) es))
          unfolding part
          brought = sym (rows_again (take run (drop q.row theirs))) ∙ ap (map entry_row) (spotted_take run s (omega (arith, is)))

          longer : here ++ map entry_row (take run (drop (p.from + done) es)) ≡ map entry_row (take (done + run) (drop p.from es))
          longer =
              sym (map_append entry_row (take done (drop p.from es)) (take run (drop (p.from + done) es)))
              ∙ ap (λ (l : List Entry). map entry_row (take done (drop p.from es) ++ take run l)) (sym (drop-drop done p.from es))
              ∙ ap (map entry_row) (sym (take-add done run (drop p.from es)))

          pub filling_on : Filling W' (done + run)
          unfolding put_rows
          filling_on = (
            record {
              held = w.held;
              is =
                  w.is
                  ∙ ap (λ (n : S.Node). set (nodes st W) p.slot (record { kind = n.kind; rows = n.rows ++ part theirs q.row run })) node
                  ∙ ap (λ (rs : List Row). set (nodes st W) p.slot (record { kind = leaf_kind; rows = here ++ rs })) brought
                  ∙ ap (λ (rs : List Row). set (nodes st W) p.slot (record { kind = leaf_kind; rows = rs })) longer
                  ∙ ap (λ (ns : List S.Node). set ns p.slot (record { kind = leaf_kind; rows = map entry_row (take (done + run) (drop p.from es)) })) g.0.is
                  ∙ set-set (nodes st W₀) p.slot _ _;
              header = w.header ∙ g.0.header;
            },
            omega (arith, is, g.1),
          )

    pub filling_end : (W : List ℕ) (done : ℕ) → Filling W done → p.count ≤ done → Filled st W₀ W p.slot es p.from p.count
    filling_end W done g past =
        let e : done ≡ p.count = omega (arith, g.1) in
        subst (Filled st W₀ W p.slot es p.from) e g.0

    -- THE LEAF IS A TREE

    pub leaf_built : (W : List ℕ) → Filled st W₀ W p.slot es p.from p.count → Built st W₀ W 0 (tree_for st es 0 p) p.next p.next
    leaf_built W w =
        record {
          held = w.held;
          header = w.header;
          tree = one (ap (λ (ns : List S.Node). nth ns p.slot) w.is ∙ get_or-set_same (nodes st W₀) p.slot _ unused inside) (leaf_cells (Stands (nodes st W)) (take p.count (drop p.from es)));
          others = λ x ne side. ap (λ (ns : List S.Node). nth ns x) w.is ∙ get_or-set_other (nodes st W₀) p.slot x _ unused ne;
          end = omega (arith, leaf_bare (take p.count (drop p.from es)));
        }
