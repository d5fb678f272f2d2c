-- A ROOT SPLIT, over nodes, wherever it is cut: its rows moved to the lowest unused slot, the upper part of them to the next, and a parent's two rows put
-- into its slot leave the model's `cut_root`. Assumes nothing.
use mathlib.Core.Path.{◌≡◌, sym, ap, ◌∙◌, subst}
use mathlib.Core.Logic.{◌≢◌}
use mathlib.Core.List.{List, [], ◌∷◌, ◌++◌}
use Prim.Native.Nat.{ℕ, suc, ◌+◌, ◌≤◌, ◌<◌}
use native.Mathlib.Omega.{arith}
use lib.ListN.{length, take, drop, set, take-append-drop}
use lib.Seq.{get_or-set_other}
use Rattle.slots_raw.specs.declared.Row.{Row}
use Rattle.slots.specs.Nodes.{unused_kind, interior_kind, nth, unused, with_rows, split_nodes}
use Rattle.slots.specs.Nodes as S
use Rattle.slots_find.specs.Promises.{Lowest}
use Rattle.slots.proofs.Nodes.{nth_same}
use Rattle.slots_raw.proofs.Over.{map_take, map_drop}
use Rattle.model.specs.Lists.{times, All, none, one}
use Rattle.model.specs.Tree.{Item, Tree, len, lowest, others, slots}
use Rattle.model.specs.Change.{cut_root}
use Rattle.model.proofs.Lists.{all_append, all_left, all_right, all_head, all_tail, hit_same, hit_other}
use Rattle.model.proofs.Trees.{slots_in, slots_append}
use Rattle.tree.specs.Bridge.{kind_for, row_for, node_for, cells_of, Stands, Holds, unused_of, Blank, HoldsIndex, Apart, Frame}
use Rattle.tree.proofs.Cells.{cells_append, agree_items, agree_tree, used_items, kind_used}
use Rattle.tree.proofs.Unused.{used_in, unused_taken}
use Rattle.tree.specs.Sums.{Sums}
use Rattle.tree_node.specs.Ask.{row_over}
use Rattle.batch_share.specs.Promises.{Bounded}
use Rattle.tree_node.proofs.Weights.{row_over_lem}
use Rattle.batch_share.proofs.Weights.{sums_fit, bounded_left, bounded_right}
use Rattle.batch_share.proofs.Places.{node_used, node_len}
use Rattle.batch_share.proofs.Puts.{put_first, put_second, put_other, blank_set}
use Rattle.batch_root.specs.Roots.{moved, crowned}
use Rattle.batch_root.proofs.Sets.{no_blank, unused_same}

-- a root that the nodes hold, and the slot that its lower part takes
pub record Top (r : ℕ) (ns : List S.Node) (h : ℕ) (t : Tree h) (a : ℕ) : Type 0 where
  pub root : t.slot ≡ r
  pub holds : Holds ns h t
  pub apart : Apart h t
  pub bounded : Bounded h t.items
  pub empty : Blank ns
  pub first : Lowest ns a
  pub inside : a < length ns

module _ {r : ℕ} {ns : List S.Node} {h : ℕ} {t : Tree h} {a : ℕ} (p : Top r ns h t a) where
  node : nth ns r ≡ node_for h t
  node = ap (nth ns) (sym p.root) ∙ all_head p.holds

  used : (nth ns r).kind ≢ unused_kind
  used = node_used ns h r t node

  root_in : r < length ns
  root_in = used_in ns r used

  a_free : (nth ns a).kind ≡ unused_kind
  a_free = p.first.here p.inside

  a_root : a ≢ r
  a_root e = used (ap (λ (x : ℕ). (nth ns x).kind) (sym e) ∙ a_free)

  -- THE ROWS MOVED

  abbrev bare : S.Node
  bare = with_rows (nth ns r) []

  moved_here : nth (moved r ns a) a ≡ nth ns r
  moved_here = put_first ns a (nth ns r) r bare a_root p.inside

  moved_root : nth (moved r ns a) r ≡ bare
  moved_root = put_second ns a (nth ns r) r bare root_in

  moved_blank : Blank (moved r ns a)
  moved_blank = blank_set (set ns a (nth ns r)) r bare (blank_set ns a (nth ns r) p.empty (no_blank (nth ns r) used)) (no_blank bare used)

  pub moved_unused : unused_of (moved r ns a) ≡ others (unused_of ns)
  moved_unused =
      let same : nth (set ns a (nth ns r)) r ≡ nth ns r = get_or-set_other ns a r (nth ns r) unused (λ e. a_root (sym e)) in
      unused_same (set ns a (nth ns r)) r bare used (λ z. used (ap (λ (n : S.Node). n.kind) (sym same) ∙ z))
      ∙ (unused_taken ns a (nth ns r) p.first p.inside used).1

  -- THE UPPER PART IN ITS OWN SLOT
  module _ {b : ℕ} (second : Lowest (moved r ns a) b) (b_in : b < length (moved r ns a)) where
    b_free : (nth (moved r ns a) b).kind ≡ unused_kind
    b_free = second.here b_in

    pub a_b : a ≢ b
    a_b e = used (ap (λ (n : S.Node). n.kind) (sym (ap (nth (moved r ns a)) (sym e) ∙ moved_here)) ∙ b_free)

    b_root : b ≢ r
    b_root e = used (ap (λ (n : S.Node). n.kind) (sym (ap (nth (moved r ns a)) e ∙ moved_root)) ∙ b_free)

    pub b_unused : nth (moved r ns a) b ≡ unused
    b_unused = moved_blank b b_free

    abbrev whole : S.Node
    whole = nth (moved r ns a) a

    whole_is : whole ≡ node_for h t
    whole_is = moved_here ∙ node

    whole_used : whole.kind ≢ unused_kind
    whole_used = node_used (moved r ns a) h a t whole_is

    a_in : a < length (moved r ns a)
    a_in = used_in (moved r ns a) a whole_used

    pub whole_long : length whole.rows ≡ len t
    whole_long = node_len (moved r ns a) h a t whole_is

    -- cut at k
    module _ (k : ℕ) where
      abbrev low_items : List (Item h)
      low_items = take k t.items

      abbrev high_items : List (Item h)
      high_items = drop k t.items

      abbrev lower : Tree h
      lower = record { slot = a; items = low_items }

      abbrev upper : Tree h
      upper = record { slot = b; items = high_items }

      abbrev split : List S.Node
      split = split_nodes (moved r ns a) a b k

      abbrev high : S.Node
      high = with_rows whole (drop k whole.rows)

      abbrev low : S.Node
      low = with_rows whole (take k whole.rows)

      split_lower : nth split a ≡ node_for h lower
      split_lower =
          put_second (moved r ns a) b high a low a_in
          ∙ ap (λ (m : S.Node). with_rows m (take k m.rows)) whole_is
          ∙ ap (λ (l : List Row). record { kind = kind_for h; rows = l }) (sym (map_take (row_for h) k t.items))

      split_upper : nth split b ≡ node_for h upper
      split_upper =
          put_first (moved r ns a) b high a low (λ e. a_b (sym e)) b_in
          ∙ ap (λ (m : S.Node). with_rows m (drop k m.rows)) whole_is
          ∙ ap (λ (l : List Row). record { kind = kind_for h; rows = l }) (sym (map_drop (row_for h) k t.items))

      split_root : nth split r ≡ bare
      split_root = put_other (moved r ns a) b high a low r (λ e. b_root (sym e)) (λ e. a_root (sym e)) ∙ moved_root

      pub split_bare : (nth split r).rows ≡ []
      split_bare = ap (λ (m : S.Node). m.rows) split_root

      split_used : (nth split r).kind ≢ unused_kind
      split_used z = used (ap (λ (m : S.Node). m.kind) (sym split_root) ∙ z)

      split_in : r < length split
      split_in = used_in split r split_used

      split_blank : Blank split
      split_blank = blank_set (set (moved r ns a) b high) a low (blank_set (moved r ns a) b high moved_blank (no_blank high whole_used)) (no_blank low whole_used)

      split_unused : unused_of split ≡ others (others (unused_of ns))
      split_unused =
          let same : nth (set (moved r ns a) b high) a ≡ whole = get_or-set_other (moved r ns a) b a high unused a_b in
          unused_same (set (moved r ns a) b high) a low whole_used (λ z. whole_used (ap (λ (m : S.Node). m.kind) (sym same) ∙ z))
          ∙ (unused_taken (moved r ns a) b high second b_in whole_used).1 ∙ ap others moved_unused

      -- a slot in use is neither a nor b
      stood : (x : ℕ) → (nth ns x).kind ≢ unused_kind → x ≢ r → nth split x ≡ nth ns x
      stood x u x-root =
          let x-a : x ≢ a = λ e. u (ap (λ (y : ℕ). (nth ns y).kind) e ∙ a_free) in
          let same : nth (moved r ns a) x ≡ nth ns x = put_other ns a (nth ns r) r bare x x-a x-root in
          let x-b : x ≢ b = λ e. u (ap (λ (m : S.Node). m.kind) (sym same) ∙ ap (λ (y : ℕ). (nth (moved r ns a) y).kind) e ∙ b_free) in
          put_other (moved r ns a) b high a low x x-b x-a ∙ same

      -- the parts are held: no slot below the root is its own
      kept : (x : ℕ) → 0 < times x (slots_in h t.items) → nth split x ≡ nth ns x
      kept x g =
          stood x (used_items ns h t.items (all_tail p.holds) x g)
          (λ e. absurd (omega (arith, p.apart x, g, hit_same x t.slot (e ∙ sym p.root))))

      both : All (Stands split) (cells_of h low_items ++ cells_of h high_items)
      both =
          subst (All (Stands split)) (cells_append h low_items high_items)
          (subst (λ (l : List (Item h)). All (Stands split) (cells_of h l)) (sym (take-append-drop k t.items))
          (agree_items ns split h t.items kept (all_tail p.holds)))

      lower_held : Holds split h lower
      lower_held = one split_lower (all_left (cells_of h low_items) (cells_of h high_items) both)

      upper_held : Holds split h upper
      upper_held = one split_upper (all_right (cells_of h low_items) (cells_of h high_items) both)

      -- THEIR ROWS

      bounded : Bounded h (low_items ++ high_items)
      bounded = subst (Bounded h) (sym (take-append-drop k t.items)) p.bounded

      low_bounded : Bounded h low_items
      low_bounded = bounded_left h low_items high_items bounded

      high_bounded : Bounded h high_items
      high_bounded = bounded_right h low_items high_items bounded

      pub lower_sums : Sums h (nth split a).rows
      lower_sums = subst (λ (m : S.Node). Sums h m.rows) (sym split_lower) (sums_fit h lower low_bounded)

      pub upper_sums : Sums h (nth split b).rows
      upper_sums = subst (λ (m : S.Node). Sums h m.rows) (sym split_upper) (sums_fit h upper high_bounded)

      lower_row : row_over h a (nth split a).rows ≡ row_for (suc h) lower
      lower_row = ap (λ (m : S.Node). row_over h a m.rows) split_lower ∙ row_over_lem h lower low_bounded.small

      upper_row : row_over h b (nth split b).rows ≡ row_for (suc h) upper
      upper_row = ap (λ (m : S.Node). row_over h b m.rows) split_upper ∙ row_over_lem h upper high_bounded.small

      -- THE PARENT

      abbrev parent : Tree (suc h)
      parent = record { slot = t.slot; items = lower ∷ upper ∷ [] }

      abbrev pub above : List S.Node
      above = set split r (node_for (suc h) parent)

      pub crowned_is : crowned r split h a b ≡ above
      crowned_is = λ j. set split r (record { kind = interior_kind; rows = lower_row j ∷ upper_row j ∷ [] })

      -- the root's slot is in neither part
      parted : (x : ℕ) → times x (slots_in h low_items) + times x (slots_in h high_items) ≡ times x (slots_in h t.items)
      parted x = sym (slots_append x h low_items high_items) ∙ ap (λ (l : List (Item h)). times x (slots_in h l)) (take-append-drop k t.items)

      stays : (y : Tree h) → y.slot ≢ r → ((x : ℕ) → times x (slots_in h y.items) ≤ times x (slots_in h t.items)) → Holds split h y → Holds above h y
      stays y ne le k =
          agree_tree split above h y (λ x g. get_or-set_other split r x (node_for (suc h) parent) unused (λ e. absurd (omega (
            arith,
            g,
            hit_other x y.slot (λ q. ne (sym q ∙ e)),
            le x,
            p.apart x,
            hit_same x t.slot (e ∙ sym p.root),
          )))) k

      holds : Holds above (suc h) parent
      holds =
          one (ap (nth above) p.root ∙ nth_same split r (node_for (suc h) parent) split_in)
          (all_append (stays lower a_root (λ x. omega (arith, parted x)) lower_held)
          (all_append (stays upper b_root (λ x. omega (arith, parted x)) upper_held)
          none))

      -- the slots that the parts took are the model's
      taken : cut_root k h t (unused_of ns) ≡ record { height = suc h; root = parent; unused = others (others (unused_of ns)) }
      taken =
          let first : lowest (unused_of ns) ≡ a = (unused_taken ns a (nth ns r) p.first p.inside used).0 in
          let next : lowest (others (unused_of ns)) ≡ b = ap lowest (sym moved_unused) ∙ (unused_taken (moved r ns a) b high second b_in whole_used).0 in
          λ j. record {
            height = suc h;
            root = record { slot = t.slot; items = record { slot = first j; items = low_items } ∷ record { slot = next j; items = high_items } ∷ [] };
            unused = others (others (unused_of ns));
          }

      pub above_frame : Frame ns above (slots (suc h) t)
      above_frame x u e =
          let x-root : x ≢ r = λ q. absurd (omega (arith, e, hit_same x t.slot (q ∙ sym p.root))) in
          get_or-set_other split r x (node_for (suc h) parent) unused x-root ∙ stood x u x-root

      pub above_unused : unused_of above ≡ others (others (unused_of ns))
      above_unused = unused_same split r (node_for (suc h) parent) (kind_used (suc h)) split_used ∙ split_unused

      pub above_holds : HoldsIndex above (cut_root k h t (unused_of ns))
      above_holds =
          subst (HoldsIndex above) (sym taken) (record {
            tree = holds;
            unused = above_unused;
            blank = blank_set split r (node_for (suc h) parent) split_blank (no_blank (node_for (suc h) parent) (kind_used (suc h)));
          })
