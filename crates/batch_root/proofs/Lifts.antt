-- A ROOT THAT GIVES WAY to its only child, over nodes: the child's rows and kind in the root's slot, and its slot given up. Then the collapse from here is the
-- collapse from the start. Assumes nothing.
use mathlib.Core.Path.{◌≡◌, refl, sym, ap, ◌∙◌, subst}
use mathlib.Core.Logic.{◌≢◌}
use mathlib.Core.List.{List, [], ◌∷◌, ◌++◌, map, append-nil}
use Prim.Native.Nat.{ℕ, suc, ◌≤◌, ◌<◌}
use native.Mathlib.Omega.{arith}
use lib.ListN.{length, set, get_or, length-map}
use lib.Seq.{set-set, get_or-set_other}
use Rattle.slots_raw.specs.declared.Row.{Row}
use Rattle.slots_raw.specs.Slots.{blank}
use Rattle.slots.specs.Nodes.{nth, unused, put2, with_rows, put_rows, put_kind, without, join_nodes}
use Rattle.slots.specs.Nodes as S
use Rattle.slots.proofs.Nodes.{nth_same}
use Rattle.model.specs.Lists.{times, All, one}
use Rattle.model.specs.Tree.{Tree, slots, slots_of, entries, release}
use Rattle.model.specs.Change.{collapse}
use Rattle.model.specs.Promises.{flat}
use Rattle.model.proofs.Lists.{all_left, all_head, all_tail, hit_same, times_append}
use Rattle.model.proofs.Trees.{slots_in}
use Rattle.tree.specs.Bridge.{tree_at, child_of, kind_for, node_for, cells, cells_of, Stands, Holds, unused_of, Blank, HoldsIndex, Apart, Frame}
use Rattle.tree.proofs.Cells.{agree_items, kind_used}
use Rattle.tree.proofs.Unused.{used_in, unused_released}
use Rattle.batch_share.specs.Children.{child_at}
use Rattle.batch_share.proofs.Places.{node_used}
use Rattle.batch_share.proofs.Puts.{put_first, put_other, blank_set}
use Rattle.batch_root.specs.Roots.{index_at, lifted, collapsed}
use Rattle.batch_root.proofs.Sets.{no_blank, unused_same, kind_set}

-- a list of one element
one_of : {A : Type 0} (l : List A) (d : A) → length l ≡ 1 → l ≡ get_or l 0 d ∷ []
one_of [] d e = absurd (omega arith)
one_of (x ∷ []) d e = refl
one_of (x ∷ (y ∷ l)) d e = absurd (omega arith)

pub none_left : (l : List Row) → length l ≡ 1 → without l 0 1 ≡ []
none_left l e = ap (λ (r : List Row). without r 0 1) (one_of l blank e)

-- WHAT THE CALLS LEAVE
pub raised : (ns : List S.Node) (s c k : ℕ) → c ≢ s → s < length ns → length (nth ns s).rows ≡ 1
    → join_nodes (put_kind (put_rows ns s (without (nth ns s).rows 0 1)) s k) s c ≡ put2 ns s (record { kind = k; rows = (nth ns c).rows }) c unused
unfolding put_rows
raised ns s c k ne h e =
    let l = (nth ns s).rows in
    let bare : S.Node = record { kind = k; rows = [] } in
    let first : put_kind (put_rows ns s (without l 0 1)) s k ≡ set ns s (record { kind = k; rows = [] }) =
    kind_set ns s (record { kind = (nth ns s).kind; rows = without l 0 1 }) k h
    ∙ ap (λ (r : List Row). set ns s (record { kind = k; rows = r })) (none_left l e) in
    ap (λ (ms : List S.Node). join_nodes ms s c) first
    ∙ ap (λ (m : S.Node). put2 (set ns s bare) s (with_rows m (m.rows ++ (nth (set ns s bare) c).rows)) c unused) (nth_same ns s bare h)
    ∙ ap (λ (m : S.Node). put2 (set ns s bare) s (record { kind = k; rows = m.rows }) c unused) (get_or-set_other ns s c bare unused ne)
    ∙ ap (λ (z : List S.Node). set z c unused) (set-set ns s bare (record { kind = k; rows = (nth ns c).rows }))

-- A ROOT WITH ONE CHILD, of height h
pub record Single (r : ℕ) (ns : List S.Node) (h : ℕ) : Type 0 where
  pub holds : Holds ns (suc h) (tree_at ns (suc h) r)
  pub apart : Apart (suc h) (tree_at ns (suc h) r)
  pub one : length (nth ns r).rows ≡ 1

module _ {r : ℕ} {ns : List S.Node} {h : ℕ} (p : Single r ns h) where
  abbrev child : Tree h
  child = child_at ns h r 0

  only : (tree_at ns (suc h) r).items ≡ child ∷ []
  only = ap (map (λ (q : Row). tree_at ns h (child_of q))) (one_of (nth ns r).rows blank p.one)

  child_held : Holds ns h child
  child_held = all_left (cells (suc h) child) [] (subst (λ (l : List (Tree h)). All (Stands ns) (cells_of (suc h) l)) only (all_tail p.holds))

  -- the slots are the root's and the child's
  both_slots : (x : ℕ) → times x (slots (suc (suc h)) (tree_at ns (suc h) r)) ≡ times x (r ∷ slots (suc h) child)
  both_slots x = omega (arith, ap (λ (l : List (Tree h)). times x (r ∷ slots_in (suc h) l)) only, times_append x (slots (suc h) child) [])

  counts : (x : ℕ) → times x (r ∷ slots (suc h) child) ≤ 1
  counts x = omega (arith, p.apart x, both_slots x)

  pub child_root : child.slot ≢ r
  child_root e = absurd (omega (arith, counts r, hit_same r r refl, hit_same r child.slot (sym e)))

  child_used : (nth ns child.slot).kind ≢ 0
  child_used = node_used ns h child.slot child (all_head child_held)

  pub child_in : child.slot < length ns
  child_in = used_in ns child.slot child_used

  root_used : (nth ns r).kind ≢ 0
  root_used = node_used ns (suc h) r (tree_at ns (suc h) r) (all_head p.holds)

  root_in : r < length ns
  root_in = used_in ns r root_used

  -- the child's rows with its kind
  abbrev top : S.Node
  top = record { kind = kind_for h; rows = (nth ns child.slot).rows }

  abbrev pub raise : List S.Node
  raise = put2 ns r top child.slot unused

  top_is : top ≡ node_for h child
  top_is = ap (λ (n : S.Node). record { kind = kind_for h; rows = n.rows }) (all_head child_held)

  still : (nth (set ns r top) child.slot).kind ≢ 0
  still z = child_used (ap (λ (n : S.Node). n.kind) (sym (get_or-set_other ns r child.slot top unused child_root)) ∙ z)

  kept : (x : ℕ) → 0 < times x (slots_in h child.items) → nth raise x ≡ nth ns x
  kept x g =
      put_other ns r top child.slot unused x (λ e. absurd (omega (arith, counts x, g, hit_same x r e)))
      (λ e. absurd (omega (arith, counts x, g, hit_same x child.slot e)))

  pub raise_holds : Blank ns → HoldsIndex raise (lifted r ns h)
  raise_holds empty =
      record {
        tree =
            one (put_first ns r top child.slot unused (λ e. child_root (sym e)) root_in ∙ top_is)
            (agree_items ns raise h child.items kept (all_tail child_held));
        unused = unused_released (set ns r top) child.slot (used_in (set ns r top) child.slot still) still
            ∙ ap (release child.slot) (unused_same ns r top (kind_used h) root_used);
        blank = blank_set (set ns r top) child.slot unused (blank_set ns r top empty (no_blank top (kind_used h))) (λ z. refl);
      }

  pub raise_frame : Frame ns raise (slots (suc (suc h)) (tree_at ns (suc h) r))
  raise_frame x u e =
      put_other ns r top child.slot unused x (λ q. absurd (omega (arith, e, both_slots x, hit_same x r q)))
      (λ q. absurd (omega (arith, e, both_slots x, hit_same x child.slot q)))

  -- the list is the same, and the slots but for the one given up
  pub lifted_list : flat h child.items ≡ entries (suc (suc h)) (tree_at ns (suc h) r)
  lifted_list = sym (append-nil (flat h child.items)) ∙ ap (flat (suc h)) (sym only)

  pub lifted_slots : (x : ℕ) → times x (slots_of (lifted r ns h)) ≤ times x (slots_of (index_at r ns (suc h)))
  lifted_slots x = omega (arith, both_slots x)

  pub lifted_apart : Apart h (lifted r ns h).root
  lifted_apart x = omega (arith, lifted_slots x, p.apart x)

  pub lifted_same : collapsed (lifted r ns h) ≡ collapsed (index_at r ns (suc h))
  lifted_same = ap (λ (l : List (Tree h)). collapse (suc h) r l (unused_of ns)) (sym only)

-- WHERE THE COLLAPSE ENDS

collapse_ends : (h slot : ℕ) (xs : List (Tree h)) (us : List ℕ) → length xs ≢ 1
    → collapse (suc h) slot xs us ≡ record { height = suc h; root = record { slot = slot; items = xs }; unused = us }
collapse_ends h slot [] us ne = refl
collapse_ends h slot (c ∷ []) us ne = absurd (ne refl)
collapse_ends h slot (c ∷ (d ∷ xs)) us ne = refl

pub ends_leaf : (r : ℕ) (ns : List S.Node) → collapsed (index_at r ns 0) ≡ index_at r ns 0
ends_leaf r ns = refl

pub ends_wide : (r : ℕ) (ns : List S.Node) (h : ℕ) → length (nth ns r).rows ≢ 1 → collapsed (index_at r ns (suc h)) ≡ index_at r ns (suc h)
ends_wide r ns h ne =
    collapse_ends h r (tree_at ns (suc h) r).items (unused_of ns) (λ e. ne (sym (length-map (nth ns r).rows (λ q. tree_at ns h (child_of q))) ∙ e))
