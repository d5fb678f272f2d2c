-- THE ONE LAW OF SETTLING: some children beside each other become others with the same items in all. Also two steps in a row. Assumes nothing.
use mathlib.Core.Path.{◌≡◌, refl, sym, ap, ◌∙◌, subst}
use mathlib.Core.Logic.{◌≢◌}
use mathlib.Core.List.{List, [], ◌∷◌, ◌++◌, map, reverse_aux}
use Prim.Native.Nat.{ℕ, suc, ◌+◌, ◌<◌}
use native.Mathlib.Omega.{arith}
use native.Mathlib.Decide.{ℕ_discrete}
use lib.ListN.{length}
use Rattle.slots_raw.specs.declared.Row.{Row}
use Rattle.slots.specs.Nodes.{nth, put_rows}
use Rattle.slots.specs.Nodes as S
use Rattle.slots.proofs.Nodes.{nth_rows, nth_put}
use Rattle.model.specs.Lists.{All, none, one, hit, times}
use Rattle.model.specs.Tree.{Item, Tree, slots}
use Rattle.model.specs.Share.{Place}
use Rattle.model.specs.Promises.{joined}
use Rattle.model.proofs.Lists.{all_append, all_left, all_right, all_head, all_tail, hit_same}
use Rattle.model.proofs.Trees.{joined_append, own, own_append, slots_in, slots_append, slots_joined}
use Rattle.tree.specs.Bridge.{row_for, node_for, Cell, cells, cells_of, Stands, Holds, Apart, Blank, unused_of}
use Rattle.tree.proofs.Cells.{agree_items, used_tree, cells_append, turned_cells, cells_rest, cells_before, slots_turned}
use Rattle.tree.proofs.Unused.{used_none}
use Rattle.batch_share.specs.Children.{inner}
use Rattle.batch_share.specs.Promises.{Settled}
use Rattle.batch_share.proofs.Parents.{unused_rows}

-- A FAMILY is its children's own nodes and what stands below them. So a step that keeps the joined items has only own nodes to show.
module _ (ms : List S.Node) (h : ℕ) where
  abbrev pub Own : Tree h → Type 0
  Own y = nth ms y.slot ≡ node_for h y

  family : (ys : List (Tree h)) → All Own ys → All (Stands ms) (cells_of h (joined ys)) → All (Stands ms) (cells_of (suc h) ys)
  family [] none k = none
  family (y ∷ ys) (one o os) k =
      let parts : All (Stands ms) (cells_of h y.items ++ cells_of h (joined ys)) = subst (All (Stands ms)) (cells_append h y.items (joined ys)) k in
      one o (all_append (all_left (cells_of h y.items) (cells_of h (joined ys)) parts)
      (family ys os (all_right (cells_of h y.items) (cells_of h (joined ys)) parts)))

  head : (y : Tree h) (r : List Cell) → All (Stands ms) (cells (suc h) y ++ r) → (nth ms y.slot ≡ node_for h y) × All (Stands ms) (cells_of h y.items ++ r)
  head y r (one o k) = (o, k)

  pub owns : (ys : List (Tree h)) → All (Stands ms) (cells_of (suc h) ys) → All Own ys
  owns [] k = none
  owns (y ∷ ys) k = one (head y (cells_of (suc h) ys) k).0 (owns ys (all_right (cells_of h y.items) (cells_of (suc h) ys) (head y (cells_of (suc h) ys) k).1))

  belows : (ys : List (Tree h)) → All (Stands ms) (cells_of (suc h) ys) → All (Stands ms) (cells_of h (joined ys))
  belows [] k = none
  belows (y ∷ ys) k =
      let q = (head y (cells_of (suc h) ys) k).1 in
      subst (All (Stands ms)) (sym (cells_append h y.items (joined ys)))
      (all_append (all_left (cells_of h y.items) (cells_of (suc h) ys) q) (belows ys (all_right (cells_of h y.items) (cells_of (suc h) ys) q)))

-- THE SLOTS of a family, counted: its own, its children's, and those below them
pub family_counts : (h s : ℕ) (b olds a : List (Tree h)) (x : ℕ) → times x (slots (suc (suc h)) (inner h s (reverse_aux b (olds ++ a))))
    ≡ hit x s + (times x (slots_in (suc h) b) + (own x olds + (own x a + (times x (slots_in h (joined olds)) + times x (slots_in h (joined a))))))
family_counts h s b olds a x =
    omega (
      arith,
      slots_turned x (suc h) b (olds ++ a),
      slots_joined x h (olds ++ a),
      own_append x olds a,
      ap (λ (l : List (Item h)). times x (slots_in h l)) (joined_append olds a),
      slots_append x h (joined olds) (joined a),
    )

-- the olds in ns become the news: ms has their nodes, and all else as it was; then the parent's rows are written
module _ (h s : ℕ) (ns ms : List S.Node) (b olds news a : List (Tree h)) (us : List ℕ)
    (holds : Holds ns (suc h) (inner h s (reverse_aux b (olds ++ a)))) (apart : Apart (suc h) (inner h s (reverse_aux b (olds ++ a))))
    (items : joined news ≡ joined olds) (mine : All (Own ms h) news) (away : own s news ≡ 0)
    (others : (x : ℕ) → (nth ns x).kind ≢ 0 → own x olds ≡ 0 → nth ms x ≡ nth ns x) (ef : unused_of ms ≡ us) (blank : Blank ms) (inside : s < length ms) where
  counts : (x : ℕ) → times x (slots (suc (suc h)) (inner h s (reverse_aux b (olds ++ a))))
      ≡ hit x s + (times x (slots_in (suc h) b) + (own x olds + (own x a + (times x (slots_in h (joined olds)) + times x (slots_in h (joined a))))))
  counts x = family_counts h s b olds a x

  kept : (x : ℕ) → 0 < times x (slots (suc (suc h)) (inner h s (reverse_aux b (olds ++ a)))) → own x olds ≡ 0 → nth ms x ≡ nth ns x
  kept x g o = others x (used_tree ns (suc h) (inner h s (reverse_aux b (olds ++ a))) holds x g) o

  rest_old : All (Stands ns) (cells_of (suc h) (olds ++ a))
  rest_old = cells_rest (Stands ns) (suc h) b (olds ++ a) (all_tail holds)

  parent : nth ms s ≡ nth ns s
  parent = kept s (omega (arith, counts s, hit_same s s refl)) (omega (arith, counts s, apart s, hit_same s s refl))

  module _ (l : List Row) (rows : l ≡ map (row_for (suc h)) (reverse_aux b (news ++ a))) where
    abbrev ls : List S.Node
    ls = put_rows ms s l

    -- every slot but s stands as in ms
    other : (x : ℕ) → hit x s ≡ 0 → nth ls x ≡ nth ms x
    other x z = nth_rows ms x s l (λ e. absurd (omega (arith, z, hit_same x s e)))

    before_new : All (Stands ls) (cells_of (suc h) b)
    before_new =
        agree_items ns ls (suc h) b
        (λ x g. other x (omega (arith, g, counts x, apart x)) ∙ kept x (omega (arith, g, counts x)) (omega (arith, g, counts x, apart x)))
        (cells_before (Stands ns) (suc h) b (olds ++ a) (all_tail holds))

    after_new : All (Stands ls) (cells_of (suc h) a)
    after_new =
        agree_items ns ls (suc h) a
        (λ x g. other x (omega (arith, g, counts x, apart x, slots_joined x h a))
        ∙ kept x (omega (arith, g, counts x, slots_joined x h a)) (omega (arith, g, counts x, apart x, slots_joined x h a)))
        (all_right (cells_of (suc h) olds) (cells_of (suc h) a) (subst (All (Stands ns)) (cells_append (suc h) olds a) rest_old))

    below_counts : (x : ℕ) → times x (slots_in h (joined (olds ++ a))) ≡ times x (slots_in h (joined olds)) + times x (slots_in h (joined a))
    below_counts x = ap (λ (q : List (Item h)). times x (slots_in h q)) (joined_append olds a) ∙ slots_append x h (joined olds) (joined a)

    below_new : All (Stands ls) (cells_of h (joined (news ++ a)))
    below_new =
        subst (λ (q : List (Item h)). All (Stands ls) (cells_of h q))
        (joined_append olds a ∙ ap (λ (q : List (Item h)). q ++ joined a) (sym items) ∙ sym (joined_append news a))
        (agree_items ns ls h (joined (olds ++ a))
        (λ x g. other x (omega (arith, g, counts x, apart x, below_counts x))
        ∙ kept x (omega (arith, g, counts x, below_counts x)) (omega (arith, g, counts x, apart x, below_counts x)))
        (belows ns h (olds ++ a) rest_old))

    news_own : (ys : List (Tree h)) → All (Own ms h) ys → own s ys ≡ 0 → All (Own ls h) ys
    news_own [] none z = none
    news_own (y ∷ ys) (one o os) z =
        one (nth_rows ms y.slot s l (λ e. absurd (omega (arith, z, hit_same s y.slot (sym e)))) ∙ o) (news_own ys os (omega (arith, z)))

    top : nth ls s ≡ node_for (suc h) (inner h s (reverse_aux b (news ++ a)))
    top = nth_put ms s l inside ∙ (λ j. record { kind = ap (λ (n : S.Node). n.kind) (parent ∙ all_head holds) j; rows = rows j })

    blank_new : Blank ls
    blank_new x z = by (ℕ_discrete x s)
      where
        by : Dec (x ≡ s) → nth ls x ≡ S.unused
        by (yes e) =
            let two : (nth ls s).kind ≡ 2 = ap (λ (n : S.Node). n.kind) top in
            let nil : (nth ls s).kind ≡ 0 = ap (λ (y : ℕ). (nth ls y).kind) (sym e) ∙ z in
            absurd (omega arith)
        by (no ne) = let same : nth ls x ≡ nth ms x = nth_rows ms x s l ne in same ∙ blank x (ap (λ (n : S.Node). n.kind) (sym same) ∙ z)

    pub recast_settles : Settled h s ns (put_rows ms s l) (reverse_aux b (olds ++ a)) (record { before = b; rest = news ++ a; unused = us })
    recast_settles =
        record {
          holds =
              one top (turned_cells (Stands ls) (suc h) b (news ++ a) before_new
              (family ls h (news ++ a) (all_append (news_own news mine away) (owns ls h a after_new)) below_new));
          unused = unused_rows ms s l ∙ ef;
          frame = λ x u z. other x (omega (arith, z, counts x)) ∙ others x u (omega (arith, z, counts x));
          empty = blank_new;
        }

-- TWO STEPS IN A ROW are a step
pub then_settled : (h s : ℕ) (ns ms ls : List S.Node) (kids : List (Tree h)) (p q : Place (Tree h)) → Settled h s ns ms kids p
    → Settled h s ms ls (reverse_aux p.before p.rest) q
    → ((x : ℕ) → times x (slots (suc (suc h)) (inner h s (reverse_aux p.before p.rest))) + times x p.unused
    ≡ times x (slots (suc (suc h)) (inner h s kids)) + times x (unused_of ns))
    → Settled h s ns ls kids q
then_settled h s ns ms ls kids p q a b has =
    record {
      holds = b.holds;
      unused = b.unused;
      frame = λ x u e.
          let same : nth ms x ≡ nth ns x = a.frame x u e in
          b.frame x (λ z. u (ap (λ (n : S.Node). n.kind) (sym same) ∙ z)) (omega (arith, has x, e, used_none ns x u)) ∙ same;
      empty = b.empty;
    }
