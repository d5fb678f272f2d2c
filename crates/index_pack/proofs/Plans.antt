-- A tree of a sound pool that is planned: it can be counted, it can be built where its slots are free, and what is built is the packed tree.
-- Assumes nothing.
use mathlib.Core.Path.{◌≡◌, refl, sym, ap, ◌∙◌, subst}
use mathlib.Core.List.{List}
use Prim.Native.Nat.{ℕ, suc, ◌+◌, ◌≤◌, ◌<◌}
use native.Mathlib.Omega.{arith}
use lib.ListN.{length}
use lib.Seq.{take-length}
use Rattle.words.specs.Words.{words}
use Rattle.slots.specs.Nodes.{nodes, nth, unused}
use Rattle.model.specs.declared.Entry.{Entry}
use Rattle.model.specs.declared.Settings.{Settings}
use Rattle.model.specs.Tree.{Tree, entries_of}
use Rattle.model.specs.Frame.{nodes_in as how_many}
use Rattle.model_pack.specs.Pack.{capacity, height_for, packed}
use Rattle.model_pack.specs.Packing.{Over}
use Rattle.model.specs.Forest.{elsewhere}
use Rattle.model_pack.specs.PackForest.{packed_tree}
use Rattle.model.proofs.Layers.{limits_at_lem}
use Rattle.model_pack.proofs.Pieces.{height_fits, height_most}
use Rattle.model_pack.proofs.Packs.{over_fits}
use Rattle.tree.specs.Pool.{SoundPool, given_in, settings_in, index_of, forest_of}
use Rattle.tree.specs.Promises.{InPool}
use Rattle.tree.proofs.Few.{entries_most}
use Rattle.tree.proofs.Pools.{sound_held, sound_index, sound_holds_index}
use Rattle.pack_plan.specs.Plan.{packed_nodes}
use Rattle.pack_plan.specs.Promises.{ToCount}
use Rattle.pack_plan.proofs.Nodes.{packed_nodes_lem}
use Rattle.pack_plan.proofs.Sums.{nodes_bound}
use Rattle.pack.specs.Build.{tree_for}
use Rattle.pack.specs.Promises.{Readable, Empty, ToBuild}
use Rattle.index_pack.specs.declared.Plan.{Plan}
use Rattle.index_pack.specs.Plan.{plan_for, piece_of}

-- TREE i of the pool l, and the order o that it is packed with, which is its own

module _ (l : List ℕ) (s : SoundPool l) (i o : ℕ) (same : (settings_in l i).order ≡ o) where
  abbrev es : List Entry
  es = entries_of (index_of l i)

  abbrev p : Plan
  p = plan_for l i o

  -- it is an index over its own entries
  pub source_over : Over o es (index_of l i)
  source_over = record { settings = settings_in l i; elsewhere = elsewhere i (forest_of l); order = same; sound = sound_index l s i; entries = refl }

  plan_fits : p.count ≤ capacity o p.height
  plan_fits = height_fits o p.count (over_fits source_over)

  pub plan_narrow : o ≤ 32
  plan_narrow = omega (arith, same, (limits_at_lem (given_in l) s.settings i).narrow)

  -- the nodes can be counted, and are not too many to add
  pub plan_counts : ToCount o p.height p.count
  plan_counts =
      record {
        some = omega (arith, same, (limits_at_lem (given_in l) s.settings i).wide);
        measured = record { narrow = plan_narrow; low = height_most o p.count };
        fit = plan_fits;
      }

  pub plan_few : p.nodes ≤ 4000000
  plan_few = omega (arith, nodes_bound o p.height p.count plan_counts, entries_most (settings_in l i) (index_of l i) (sound_index l s i))

  -- its entries can be read
  readable : Readable p.source (words l)
  readable =
      record {
        held = sound_held l s i;
        stands = (sound_holds_index l s i).tree;
        light = omega (arith, entries_most (settings_in l i) (index_of l i) (sound_index l s i));
        fit = (sound_index l s i).fit;
      }

-- THE PLANNED TREE in a pool with some settings, its other nodes from slot `next` on

module _ (l : List ℕ) (s : SoundPool l) (i : ℕ) (su : Settings) (same : (settings_in l i).order ≡ su.order) (next : ℕ) where
  abbrev plan : Plan
  plan = plan_for l i su.order

  abbrev grown : Tree plan.height
  grown = tree_for su (entries_of (index_of l i)) plan.height (piece_of plan su.root next)

  -- is the packed one
  pub grown_is : grown ≡ (packed_tree su next (entries_of (index_of l i))).root
  grown_is = ap (packed su.order plan.height su.root next) (take-length (entries_of (index_of l i)))

  -- and has as many nodes as were counted
  pub grown_nodes : how_many (suc plan.height) grown ≡ plan.nodes
  grown_nodes =
      ap (λ (t : Tree plan.height). how_many (suc plan.height) t) grown_is
      ∙ packed_nodes_lem su.order plan.height su.root next (entries_of (index_of l i))

  -- it can be built where its slots are free
  pub to_build : (W : List ℕ) → Empty su W su.root → su.root < next → next + plan.nodes ≤ suc su.nodes
      → ((x : ℕ) → next ≤ x → suc x < next + plan.nodes → nth (nodes su W) x ≡ unused)
      → ToBuild su W plan.source (words l) plan.height (piece_of plan su.root next)
  to_build W root before inside free =
      record {
        root = root;
        source = readable l s i su.order same;
        within = omega arith;
        tall = height_most su.order plan.count;
        fits = plan_fits l s i su.order same;
        before = before;
        inside = omega (arith, grown_nodes, inside);
        free = λ x ge lt. free x ge (omega (arith, grown_nodes, lt));
      }

-- AS THE CODE PLANS IT, with the settings and the height of one of a pool's trees

module _ (l : List ℕ) (st : Settings) (height : ℕ) (k : InPool l st height) (n : ℕ) (count : n ≡ length (entries_of (index_of l st.root))) where
  own_order : (settings_in l st.root).order ≡ st.order
  own_order = sym (ap (λ (u : Settings). u.order) k.own)

  pub order_narrow : st.order ≤ 32
  order_narrow = plan_narrow l k.sound st.root st.order own_order

  module _ (h : ℕ) (high : h ≡ height_for st.order n) where
    is : h ≡ height_for st.order (length (entries_of (index_of l st.root)))
    is = high ∙ ap (height_for st.order) count

    pub counts_asked : ToCount st.order h n
    counts_asked =
        subst (λ (j : ℕ). ToCount st.order j n) (sym is)
        (subst (ToCount st.order (height_for st.order (length (entries_of (index_of l st.root))))) (sym count)
        (plan_counts l k.sound st.root st.order own_order))

    pub planned : (c : ℕ) → c ≡ packed_nodes st.order h n
        → record { source = record { settings = st; height = height }; count = n; height = h; nodes = c } ≡ plan_for l st.root st.order
    planned c e =
        let nodes : c ≡ (plan_for l st.root st.order).nodes =
        e ∙ ap (λ (j : ℕ). packed_nodes st.order j n) is ∙ ap (packed_nodes st.order (plan_for l st.root st.order).height) count in
        λ j. record { source = record { settings = k.own j; height = k.tall j }; count = count j; height = is j; nodes = nodes j }
