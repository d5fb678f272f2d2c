-- What is asked of the two pools before the first write: whether a tree is bare, and how many entries it has. Assumes nothing.
use mathlib.Core.Path.{◌≡◌, sym, ap, ◌∙◌}
use mathlib.Core.Bool.{Bool, ◌&&◌}
use mathlib.Core.List.{List}
use Prim.Native.Nat.{ℕ, zero, suc, ◌+◌}
use lib.Dec.{eqb}
use lib.ListN.{length, length-map}
use borrow.Author.Tests.{eq-eqb}
use Rattle.words.specs.Words.{words}
use Rattle.slots.specs.Nodes.{nth, rows_at}
use Rattle.slots.specs.Nodes as S
use Rattle.model.specs.declared.Settings.{Settings}
use Rattle.model.specs.declared.Totals.{Totals}
use Rattle.model.specs.Tree.{len, entries_of, totals_of}
use Rattle.model_pack.specs.Pack.{is_new}
use Rattle.model.specs.Sound.{root_for}
use Rattle.tree.specs.Bridge.{entry_of, child_of, tree_at}
use Rattle.tree.specs.Pool.{nodes_in, index_of}
use Rattle.tree.proofs.ReadOff.{total_count}
use Rattle.tree.specs.Promises.{InPool}

-- WHETHER A TREE IS BARE

root_length : (ns : List S.Node) (h s : ℕ) → len (tree_at ns h s) ≡ length (nth ns s).rows
root_length ns zero s = length-map (nth ns s).rows entry_of
root_length ns (suc h) s = length-map (nth ns s).rows (λ r. tree_at ns h (child_of r))

module _ (l : List ℕ) (st : Settings) (height : ℕ) (k : InPool l st height) where
  pub leaf_bare : height ≡ 0 → (n : ℕ) → n ≡ length (rows_at st (words l) st.root) → eqb n 0 ≡ is_new (index_of l st.root)
  leaf_bare low n e =
      let rows : length (rows_at st (words l) st.root) ≡ len (index_of l st.root).root =
      ap (λ (u : Settings). length (rows_at u (words l) u.root)) k.own
      ∙ sym (root_length (nodes_in l st.root) (index_of l st.root).height (root_for st.root)) in
      ap (λ (m : ℕ). eqb m 0) (e ∙ rows)
      ∙ ap (λ (t : Bool). t && eqb (len (index_of l st.root).root) 0) (sym (eq-eqb (index_of l st.root).height 0 (sym k.tall ∙ low)))

  -- HOW MANY ENTRIES

  pub entries_told : (t : Totals) → t ≡ totals_of (index_of l st.root) → t.live + t.dead ≡ length (entries_of (index_of l st.root))
  entries_told t e = ap (λ (u : Totals). u.live + u.dead) e ∙ total_count (suc (index_of l st.root).height) (index_of l st.root).root
