-- An interior is built child by child: what stands so far, what a further child asks, and what it leaves. Assumes nothing.
use mathlib.Core.Path.{◌≡◌, refl, sym, ap, ◌∙◌, subst}
use mathlib.Core.Logic.{◌≢◌, ◌⊎◌, inl, inr, ⊎_elim}
use mathlib.Core.List.{List, [], ◌∷◌, ◌++◌, map, append-nil, append_assoc}
use Prim.Native.Nat.{ℕ, zero, suc, ◌+◌, ◌-◌, ◌*◌, ◌≤◌, ◌<◌, min}
use native.Mathlib.Omega.{arith}
use native.Mathlib.Decide.{dec_lt}
use native.Mathlib.Nat.{suc-mul}
use native.Mathlib.Numerals.{add-one}
use lib.ListN.{length, take, drop, length-append, length-map, length-drop, length-take}
use lib.Seq.{get_or-set_same, get_or-set_other}
use Rattle.slots_raw.specs.declared.Row.{Row}
use Rattle.slots_raw.specs.Slots.{head_in}
use Rattle.slots_raw.proofs.Over.{map_append}
use Rattle.slots.specs.Nodes.{interior_kind, nodes, nth, unused, put_rows, Held}
use Rattle.slots.specs.Nodes as S
use Rattle.slots.specs.Promises.{NodesPut}
use Rattle.slots.proofs.Nodes.{length_nodes}
use Rattle.model.specs.declared.Entry.{Entry}
use Rattle.model.specs.declared.Settings.{Settings}
use Rattle.model.specs.Promises.{flat}
use Rattle.model.specs.Lists.{times, up_from, All, none, one}
use Rattle.model.specs.Tree.{Tree, entries, slots}
use Rattle.model.specs.Frame.{nodes_in}
use Rattle.model_pack.specs.Pack.{capacity, pieces, in_preorder, packed}
use Rattle.model.specs.Sound.{Fits}
use Rattle.model.proofs.Lists.{all_append, all_head, all_take, all_drop, parts_append, times_append}
use Rattle.model.proofs.Trees.{slots_in}
use Rattle.model.proofs.Numbers.{run_near}
use Rattle.model_pack.proofs.Packs.{packed_entries, packed_slot, packed_preorder}
use Rattle.tree.specs.Bridge.{Stands, cells_of, node_for, row_for}
use Rattle.tree.specs.Sums.{Sums}
use Rattle.tree.proofs.Sums.{sums_fit}
use Rattle.tree.proofs.Cells.{cells_append, agree_items, agree_tree}
use Rattle.tree_node.specs.Ask.{row_over}
use Rattle.tree_node.proofs.Weights.{row_over_lem}
use Rattle.pack.specs.declared.Source.{Source}
use Rattle.pack.specs.declared.Piece.{Piece}
use Rattle.pack.specs.Build.{entries_in, taken, tree_for, bare, hung}
use Rattle.pack.specs.Promises.{ToBuild, Built, ToHang}
use Rattle.pack.proofs.Cuts.{part_length, piece_taken, rest_left}

module _ (st : Settings) (k : Source) (U : List ℕ) (h : ℕ) (p : Piece) where
  abbrev es : List Entry
  es = taken (entries_in k U) p

  abbrev most : ℕ
  most = capacity st.order h

  -- the children of some entries, at most so many, in the slots from i on
  abbrev pub kids_from : ℕ → ℕ → List Entry → List (Tree h)
  kids_from left i fs = in_preorder h (packed st.order h) i (pieces left (capacity st.order h) fs)

  -- The slot of p holds the first i children, which have the slots up to `at` and the first `done` entries of p; no other slot has changed since W₀.
  pub record Growing (W₀ W : List ℕ) (at done i : ℕ) : Type 0 where
    pub held : Held st W
    pub header : head_in W ≡ head_in W₀
    pub kids : List (Tree h)
    pub left : ℕ
    pub node : nth (nodes st W) p.slot ≡ record { kind = interior_kind; rows = map (row_for (suc h)) kids }
    pub stand : All (Stands (nodes st W)) (cells_of (suc h) kids)
    pub near : (x : ℕ) → 0 < times x (slots_in (suc h) kids) → (p.next ≤ x) × (x < at)
    pub others : (x : ℕ) → x ≢ p.slot → (x < p.next) ⊎ (at ≤ x) → nth (nodes st W) x ≡ nth (nodes st W₀) x
    pub end : at ≡ p.next + length (slots_in (suc h) kids)
    pub number : i ≡ length kids
    pub order : i + left ≡ st.order
    pub whole : kids_from st.order p.next es ≡ kids ++ kids_from left at (drop done es)
    pub few : length (drop done es) ≤ left * most
    pub within : done ≤ p.count

  -- THE CHILDREN of some entries: the first, and the others

  kids_step : (left at : ℕ) (fs : List Entry) → 0 < length fs → let c = packed st.order h at (suc at) (take most fs) in
      kids_from (suc left) at fs ≡ c ∷ kids_from left (at + nodes_in (suc h) c) (drop most fs)
  kids_step left at [] lt = absurd (omega arith)
  kids_step left at (e ∷ fs) lt = refl

  kids_none : (left at : ℕ) (fs : List Entry) → length fs ≡ 0 → kids_from left at fs ≡ []
  kids_none zero at fs e = refl
  kids_none (suc left) at [] e = refl
  kids_none (suc left) at (f ∷ fs) e = absurd (omega arith)

  -- how many nodes children side by side have
  kids_nodes : (a : List (Tree h)) (c : Tree h) (b : List (Tree h))
      → length (slots_in (suc h) (a ++ (c ∷ b))) ≡ length (slots_in (suc h) a) + (nodes_in (suc h) c + length (slots_in (suc h) b))
  kids_nodes a c b =
      ap length (parts_append (slots (suc h)) a (c ∷ b)) ∙ length-append (slots_in (suc h) a) (slots_in (suc h) (c ∷ b))
      ∙ ap (λ (n : ℕ). length (slots_in (suc h) a) + n) (length-append (slots (suc h) c) (slots_in (suc h) b))

  module _ (W₀ : List ℕ) (b : ToBuild st W₀ k U (suc h) p) where
    es_length : length es ≡ p.count
    es_length = part_length (entries_in k U) p.from p.count 0 0 (omega arith) b.within

    -- NO CHILD YET

    pub growing_start : nth (nodes st W₀) p.slot ≡ bare (suc h) → Growing W₀ W₀ p.next 0 0
    growing_start e =
        record {
          held = b.root.held;
          header = refl;
          kids = [];
          left = st.order;
          node = e;
          stand = none;
          near = λ x lt. absurd (omega arith);
          others = λ x ne side. refl;
          end = omega arith;
          number = refl;
          order = omega arith;
          whole = refl;
          few = omega (arith, es_length, b.fits);
          within = omega arith;
        }

    -- a child of n entries more
    module _ (W : List ℕ) (at done i : ℕ) (g : Growing W₀ W at done i) (on : done < p.count) (n : ℕ) (is : n ≡ min most (p.count - done)) where
      abbrev child : Piece
      child = record { height = h; slot = at; next = at + 1; from = p.from + done; count = n }

      abbrev c : Tree h
      c = tree_for st (entries_in k U) h child

      abbrev left : ℕ
      left = g.left - 1

      left_some : g.left ≡ suc left
      left_some = by g.left g.few
        where
          by : (n : ℕ) → length (drop done es) ≤ n * most → n ≡ suc (n - 1)
          by zero le = absurd (omega (arith, le, length-drop done es, es_length))
          by (suc n) le = omega arith

      -- what the child takes, and what is left
      child_takes : taken (entries_in k U) child ≡ take most (drop done es)
      child_takes =
          ap (λ (j : ℕ). take j (drop (p.from + done) (entries_in k U))) is
          ∙ piece_taken (entries_in k U) p.from p.count done most g.within b.within

      c_is : packed st.order h at (suc at) (take most (drop done es)) ≡ c
      c_is =
          ap (λ (n : ℕ). packed st.order h at n (take most (drop done es))) (sym (add-one at))
          ∙ ap (packed st.order h at (at + 1)) (sym child_takes)

      whole_now : kids_from st.order p.next es ≡ g.kids ++ (c ∷ kids_from left (at + nodes_in (suc h) c) (drop (done + n) es))
      whole_now =
          g.whole
          ∙ ap (λ (n : ℕ). g.kids ++ kids_from n at (drop done es)) left_some
          ∙ ap (λ (l : List (Tree h)). g.kids ++ l) (kids_step left at (drop done es) (omega (arith, length-drop done es, es_length)))
          ∙ ap (λ (t : Tree h). g.kids ++ (t ∷ kids_from left (at + nodes_in (suc h) t) (drop most (drop done es)))) c_is
          ∙ ap (λ (l : List Entry). g.kids ++ (c ∷ kids_from left (at + nodes_in (suc h) c) l))
          (rest_left (entries_in k U) p.from p.count done most g.within b.within ∙ ap (λ (j : ℕ). drop (done + j) es) (sym is))

      -- the parent has room for its nodes
      room : at + nodes_in (suc h) c < p.next + nodes_in (suc (suc h)) (tree_for st (entries_in k U) (suc h) p)
      room =
          omega (
            arith,
            g.end,
            ap (λ (l : List (Tree h)). length (slots_in (suc h) l)) whole_now,
            kids_nodes g.kids c (kids_from left (at + nodes_in (suc h) c) (drop (done + n) es)),
          )

      apart : p.slot < at
      apart = omega (arith, g.end, b.before)

      -- a node has itself at least
      some : 0 < nodes_in (suc h) c
      some = omega arith

      free : (x : ℕ) → at ≤ x → x < at + nodes_in (suc h) c → nth (nodes st W) x ≡ unused
      free x ge lt = g.others x (λ e. absurd (omega (arith, apart))) (inr ge) ∙ b.free x (omega (arith, g.end)) (omega (arith, room))

      pub inside : at < st.nodes
      inside = omega (arith, room, some, b.inside)

      pub child_asks : ToBuild st W k U h child
      child_asks =
          record {
            root = record { held = g.held; slot = inside; empty = ap (λ (n : S.Node). n.rows) (free at (omega arith) (omega (arith, some))) };
            source = b.source;
            within = omega (arith, b.within, is);
            tall = omega (arith, b.tall);
            fits = omega (arith, is);
            before = omega arith;
            inside = omega (arith, room, b.inside);
            free = λ x ge lt. free x (omega arith) (omega arith);
          }

      -- THE CHILD IS BUILT

      module _ (W₁ : List ℕ) (r : ℕ) (d : Built st W W₁ h c (at + 1) r) where
        behind : r ≡ at + nodes_in (suc h) c
        behind = omega (arith, d.end)

        c_slot : c.slot ≡ at
        c_slot = packed_slot st.order h at (at + 1) (taken (entries_in k U) child)

        c_node : nth (nodes st W₁) at ≡ node_for h c
        c_node = ap (nth (nodes st W₁)) (sym c_slot) ∙ all_head d.tree

        c_near : (x : ℕ) → 0 < times x (slots (suc h) c) → (at ≤ x) × (x < r)
        c_near x lt =
            let t = packed st.order h at (suc at) (take most (drop done es)) in
            let run : slots (suc h) t ≡ up_from at (nodes_in (suc h) t) = packed_preorder st.order h at (take most (drop done es)) in
            let here : slots (suc h) c ≡ up_from at (nodes_in (suc h) c) = subst (λ (u : Tree h). slots (suc h) u ≡ up_from at (nodes_in (suc h) u)) c_is run in
            let q : (at ≤ x) × (x < at + nodes_in (suc h) c) = run_near x at (nodes_in (suc h) c) (subst (λ (l : List ℕ). 0 < times x l) here lt) in
            (q.0, omega (arith, q.1, behind))

        -- outside its slots nothing has changed
        same : (x : ℕ) → (x < at) ⊎ (r ≤ x) → nth (nodes st W₁) x ≡ nth (nodes st W) x
        same x side =
            d.others x
            (λ e. ⊎_elim {C = ⊥} (λ lt. absurd (omega (arith, c_slot))) (λ ge. absurd (omega (arith, c_slot, behind, some))) side)
            (⊎_elim (λ lt. inl (omega arith)) (λ ge. inr ge) side)

        node_kept : nth (nodes st W₁) p.slot ≡ record { kind = interior_kind; rows = map (row_for (suc h)) g.kids }
        node_kept = same p.slot (inl apart) ∙ g.node

        c_entries : entries (suc h) c ≡ taken (entries_in k U) child
        c_entries = packed_entries st.order h at (at + 1) (taken (entries_in k U) child) (omega (arith, is, length-take n (drop (p.from + done) (entries_in k U))))

        c_light : length (flat h c.items) < 1048576
        c_light = omega (arith, ap length c_entries, length-take n (drop (p.from + done) (entries_in k U)), length-drop (p.from + done) (entries_in k U), b.source.light)

        pub child_hangs : ToHang st W₁ h p.slot i at
        child_hangs =
            record {
              weighs = record {
                held = d.held;
                slot = inside;
                sums = subst (λ (n : S.Node). Sums h n.rows) (sym c_node)
                    (sums_fit h c c_light (subst (All Fits) (sym c_entries) (all_take n (all_drop (p.from + done) b.source.fit))));
              };
              slot = omega (arith, apart, inside);
              rows = g.number ∙ sym (length-map g.kids (row_for (suc h))) ∙ ap (λ (n : S.Node). length n.rows) (sym node_kept);
              room = omega (arith, g.order, left_some, d.held.shape.roomy, d.held.shape.limits.wide);
            }

        -- ITS ROW HANGS IN THE PARENT

        module _ (W₂ : List ℕ) (w : NodesPut st W₁ W₂ (hung (nodes st W₁) h p.slot at)) where
          row_is : row_over h at (nth (nodes st W₁) at).rows ≡ row_for (suc h) c
          row_is = ap (λ (n : S.Node). row_over h at n.rows) c_node ∙ ap (λ (s : ℕ). row_over h s (map (row_for h) c.items)) (sym c_slot) ∙ row_over_lem h c c_light

          other : (x : ℕ) → x ≢ p.slot → nth (nodes st W₂) x ≡ nth (nodes st W₁) x
          unfolding put_rows
          other x ne = ap (λ (ns : List S.Node). nth ns x) w.is ∙ get_or-set_other (nodes st W₁) p.slot x _ unused ne

          node_now : nth (nodes st W₂) p.slot ≡ record { kind = interior_kind; rows = map (row_for (suc h)) (g.kids ++ (c ∷ [])) }
          unfolding put_rows
          node_now =
              ap (λ (ns : List S.Node). nth ns p.slot) w.is
              ∙ get_or-set_same (nodes st W₁) p.slot _ unused (omega (arith, length_nodes st W₁, apart, inside))
              ∙ ap (λ (x : Row). record { kind = (nth (nodes st W₁) p.slot).kind; rows = (nth (nodes st W₁) p.slot).rows ++ (x ∷ []) }) row_is
              ∙ ap (λ (n : S.Node). record { kind = n.kind; rows = n.rows ++ (row_for (suc h) c ∷ []) }) node_kept
              ∙ ap (λ (rs : List Row). record { kind = interior_kind; rows = rs }) (sym (map_append (row_for (suc h)) g.kids (c ∷ [])))

          stand_now : All (Stands (nodes st W₂)) (cells_of (suc h) (g.kids ++ (c ∷ [])))
          stand_now =
              subst (All (Stands (nodes st W₂))) (sym (cells_append (suc h) g.kids (c ∷ [])))
              (all_append
              (agree_items (nodes st W) (nodes st W₂) (suc h) g.kids
              (λ x lt. let q = g.near x lt in other x (λ e. absurd (omega (arith, q.0, b.before))) ∙ same x (inl q.1)) g.stand)
              (all_append
              (agree_tree (nodes st W₁) (nodes st W₂) h c (λ x lt. let q = c_near x lt in other x (λ e. absurd (omega (arith, q.0, apart)))) d.tree)
              none))

          slots_now : (x : ℕ) → times x (slots_in (suc h) (g.kids ++ (c ∷ []))) ≡ times x (slots_in (suc h) g.kids) + times x (slots (suc h) c)
          slots_now x =
              omega (
                arith,
                ap (times x) (parts_append (slots (suc h)) g.kids (c ∷ [])),
                times_append x (slots_in (suc h) g.kids) (slots_in (suc h) (c ∷ [])),
                times_append x (slots (suc h) c) [],
              )

          near_now : (x : ℕ) → 0 < times x (slots_in (suc h) (g.kids ++ (c ∷ []))) → (p.next ≤ x) × (x < r)
          near_now x lt = by (dec_lt 0 (times x (slots_in (suc h) g.kids)))
            where
              by : Dec (0 < times x (slots_in (suc h) g.kids)) → (p.next ≤ x) × (x < r)
              by (yes q) = let n = g.near x q in (n.0, omega (arith, n.1, behind))
              by (no q) = let n = c_near x (omega (arith, slots_now x)) in (omega (arith, n.0, g.end), n.1)

          pub growing_on : Growing W₀ W₂ r (done + n) (i + 1)
          growing_on =
              record {
                held = w.held;
                header = w.header ∙ d.header ∙ g.header;
                kids = g.kids ++ (c ∷ []);
                left = left;
                node = node_now;
                stand = stand_now;
                near = near_now;
                others = λ x ne side.
                    other x ne
                    ∙ same x (⊎_elim (λ lt. inl (omega (arith, g.end))) (λ ge. inr ge) side)
                    ∙ g.others x ne (⊎_elim (λ lt. inl lt) (λ ge. inr (omega (arith, behind))) side);
                end = omega (arith, behind, g.end, kids_nodes g.kids c []);
                number = omega (arith, g.number, length-append g.kids (c ∷ []));
                order = omega (arith, g.order, left_some);
                whole =
                    whole_now ∙ ap (λ (j : ℕ). g.kids ++ (c ∷ kids_from left j (drop (done + n) es))) (sym behind)
                    ∙ sym (append_assoc g.kids (c ∷ []) (kids_from left r (drop (done + n) es)));
                few = few_now;
                within = omega (arith, is);
              }
            where
              few_now : length (drop (done + n) es) ≤ left * most
              few_now =
                  omega (
                    arith,
                    g.few,
                    ap (λ (n : ℕ). n * most) left_some,
                    suc-mul left most,
                    length-drop done es,
                    length-drop (done + n) es,
                    es_length,
                    is,
                  )

    -- NO ENTRY IS LEFT

    pub growing_end : (W : List ℕ) (at done i : ℕ) → Growing W₀ W at done i → p.count ≤ done
        → Built st W₀ W (suc h) (tree_for st (entries_in k U) (suc h) p) p.next at
    growing_end W at done i g past =
        let all : kids_from st.order p.next es ≡ g.kids =
        g.whole ∙ ap (λ (l : List (Tree h)). g.kids ++ l) (kids_none g.left at (drop done es) (omega (arith, length-drop done es, es_length)))
        ∙ append-nil g.kids in
        record {
          held = g.held;
          header = g.header;
          tree = one (g.node ∙ ap (λ (l : List (Tree h)). record { kind = interior_kind; rows = map (row_for (suc h)) l }) (sym all))
              (subst (λ (l : List (Tree h)). All (Stands (nodes st W)) (cells_of (suc h) l)) (sym all) g.stand);
          others = g.others;
          end = omega (arith, g.end, ap (λ (l : List (Tree h)). length (slots_in (suc h) l)) all);
        }
