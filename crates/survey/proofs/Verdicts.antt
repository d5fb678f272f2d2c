-- What the walk over a tree tells; that two trees which it passes, with as many nodes as are in use, are those of a sound pool; and what the survey makes
-- of it. Assumes nothing.
use mathlib.Core.Path.{◌≡◌, refl, sym, ap, ◌∙◌, subst}
use Rattle.std.specs.Prelude.{Option, Some, None}
use Rattle.std.proofs.lemmas.Option.{none-some, same_Some}
use mathlib.Core.Bool.{cond}
use mathlib.Core.List.{List, ◌++◌}
use Prim.Native.Nat.{ℕ, zero, suc, ◌+◌, ◌≤◌, ◌<◌}
use native.Mathlib.Omega.{arith}
use native.Mathlib.Decide.{dec_lt, ℕ_discrete}
use lib.Dec.{ltb}
use lib.ListN.{length, length-append}
use borrow.Author.Tests.{lt-ltb, le-ltb}
use Rattle.words.specs.Words.{words}
use Rattle.slots_raw.proofs.Views.{seen_low}
use Rattle.slots.specs.Nodes.{unused_kind, interior_kind, nth, nodes, raw_for}
use Rattle.slots.specs.Nodes as S
use Rattle.slots.proofs.Nodes.{node_raw, length_nodes}
use Rattle.slots.proofs.Others.{nth_seen, canon_other}
use Rattle.slots_pool.proofs.Canons.{canon_zero, zero_unused}
use Rattle.model.specs.declared.PoolSettings.{PoolSettings}
use Rattle.model.specs.declared.Settings.{Settings}
use Rattle.model.specs.Lists.{times}
use Rattle.model.specs.Tree.{Tree, len, slots, entries_of, slots_of}
use Rattle.model.specs.Sound.{handed, Whole, Rooted, Once}
use Rattle.model.proofs.Answers.{tells_no, tells_yes, told_no}
use Rattle.model.proofs.Lists.{all_every, times_append}
use Rattle.model.proofs.Numbers.{times_all}
use Rattle.model.proofs.Trees.{once_count, slots_leaf, root_few}
use Rattle.tree.specs.Bridge.{tree_at, unused_of}
use Rattle.tree.specs.Pool.{height_at, index_in, given_in, settings_in, nodes_in, index_of, Zeros, SoundNodes, SoundPool}
use Rattle.tree.proofs.Cells.{used_tree, own_tree}
use Rattle.tree.proofs.SoundHolds.{sound_holds}
use Rattle.tree.proofs.Unused.{used_in, used_none, unused_past, unused_once}
use Rattle.tree.proofs.Pools.{tree_sees, sees_unused, sound_held}
use Rattle.survey.specs.declared.Findings.{Findings}
use Rattle.survey_node.specs.declared.Part.{Part}
use Rattle.survey.specs.Promises.{Found, Surveyed, Headed, Idle}
use Rattle.tree_spare.proofs.Spares.{spared_one}
use Rattle.survey_node.specs.Parts.{least_root}
use Rattle.survey_node.specs.Promises.{There, Tail, Right, Checked, SoundTree, Passable, Walked}
use Rattle.survey_node.proofs.Rows.{kinds_there}
use Rattle.survey.proofs.Places.{hit_most, each_once}
use Rattle.survey.proofs.Apart.{slots_once}

-- THE ROOT: the walk has met no key yet, and the root has its own least number of items

root_to : (st : Settings) (h : ℕ) (t : Tree h) → least_root h ≤ len t → len t ≤ st.order → Rooted st h t
root_to st zero t some few = few
root_to st (suc h) t some few = (some, few)

root_some : (st : Settings) (h : ℕ) (t : Tree h) → Rooted st h t → least_root h ≤ len t
root_some st zero t r = omega arith
root_some st (suc h) t r = r.0

-- A TREE

module _ (st : Settings) (W : List ℕ) where
  abbrev high : ℕ
  high = height_at (nodes st W) 8 st.root

  abbrev root_tree : Tree high
  root_tree = tree_at (nodes st W) high st.root

  -- the slots that are reached
  abbrev reached : List ℕ
  reached = slots_of (index_in st.root (nodes st W))

  module _ (left : ℕ) where
    pub right_passable : high ≤ 7 → Right st W high st.root (least_root high) None left → Passable st W left
    right_passable le g =
        record {
          tree = record {
            sound = record {
              kinds = g.kinds;
              shallow = omega arith;
              rooted = root_to st high root_tree g.some g.few;
              whole = g.whole;
              sorted = g.sorted;
              fit = g.fit;
              separators = g.separators;
              totals = g.totals;
            };
            tails = g.tails;
          };
          most = g.most;
        }

    pub passable_right : Passable st W left → Right st W high st.root (least_root high) None left
    passable_right p =
        let n : SoundNodes st (nodes st W) = p.tree.sound in
        record {
          kinds = n.kinds;
          some = root_some st high root_tree n.rooted;
          few = root_few st high root_tree n.rooted;
          whole = n.whole;
          sorted = n.sorted;
          beyond = all_every (entries_of (index_in st.root (nodes st W))) (λ e. tt);
          fit = n.fit;
          separators = n.separators;
          totals = n.totals;
          tails = p.tree.tails;
          most = p.most;
        }

    -- where it ends at a fault
    pub verdict_not : (Passable st W left → ⊥) → Walked st W left None
    verdict_not f = record { passes = tells_no f; rest = λ n e. absurd (none-some n e) }

    -- what the walk from the root tells
    module _ (h : ℕ) (edge : h ≡ high) (le : h ≤ 7) where
      at_high : (r : Option Part) → Checked st W h st.root (least_root h) None left r → Checked st W high st.root (least_root high) None left r
      at_high r = subst (λ (g : ℕ). Checked st W g st.root (least_root g) None left r) edge

      pub verdict_none : Checked st W h st.root (least_root h) None left None → Walked st W left None
      verdict_none chk = verdict_not (λ p. told_no (at_high None chk).right refl (passable_right p))

      pub verdict : (tree : Part) → Checked st W h st.root (least_root h) None left (Some tree) → Walked st W left (Some tree.left)
      verdict tree chk =
          let found = at_high (Some tree) chk in
          record {
            passes = tells_yes (right_passable (omega (arith, edge)) (found.right.holds refl));
            rest = λ n e. subst (λ (m : ℕ). m + length reached ≡ left) (same_Some tree.left n e) (found.found tree refl).rest;
          }

  pub verdict_deep : (h : ℕ) → h ≡ high → 7 < h → SoundTree st W → ⊥
  verdict_deep h e lt s = omega (arith, s.sound.shallow)

  pub verdict_there : (h : ℕ) → h ≡ high → SoundTree st W → There st W h st.root
  verdict_there h e s = rw e (kinds_there st W high st.root s.sound.kinds)

  -- no slot is reached twice
  module _ (t : SoundTree st W) where
    tree_once : (x : ℕ) → times x reached ≤ 1
    tree_once x = by high t.sound.shallow (passable_right (length reached) (record { tree = t; most = omega arith }))
      where
        by : (h : ℕ) → suc h ≤ 8 → Right st W h st.root (least_root h) None (length reached) → times x (slots (suc h) (tree_at (nodes st W) h st.root)) ≤ 1
        by zero le g = omega (arith, hit_most x st.root, slots_leaf x (tree_at (nodes st W) zero st.root).items)
        by (suc h) le g =
            let whole : Whole st (suc (suc h)) (tree_at (nodes st W) (suc h) st.root) = (record { some = omega (arith, g.some); few = g.few }, g.whole) in
            slots_once st (nodes st W) x (suc h) st.root (omega arith) g.kinds whole g.sorted

    -- a slot that is reached is in use, by this tree
    in_use : (x : ℕ) → 0 < times x reached → ((nth (nodes st W) x).kind ≡ unused_kind → ⊥)
    in_use x some = used_tree (nodes st W) high root_tree (sound_holds st (nodes st W) t.sound) x some

    by_this : (x : ℕ) → 0 < times x reached → (nth (nodes st W) x).kind ≤ interior_kind
    by_this x some = own_tree (nodes st W) high root_tree (sound_holds st (nodes st W) t.sound) x some

-- BOTH TREES

module _ (given : PoolSettings) (W : List ℕ) where
  abbrev st : Settings
  st = handed given 0

  abbrev su : Settings
  su = handed given 1

  abbrev ns : List S.Node
  ns = nodes (handed given 0) W

  -- the kind that the second tree sees in a slot
  other_kind : (x : ℕ) → (nth (nodes su W) x).kind ≡ (S.node_seen 1 (nth ns x)).kind
  other_kind x = ap (λ (n : S.Node). n.kind) (ap (λ (l : List S.Node). nth l x) (tree_sees given W 1) ∙ nth_seen 1 ns x)

  module _ (a : SoundTree st W) (b : SoundTree su W) where
    abbrev both : List ℕ
    both = reached st W ++ reached su W

    abbrev all : List ℕ
    all = both ++ unused_of ns

    -- no slot is of both
    of_one : (x : ℕ) → 0 < times x (reached st W) → 0 < times x (reached su W) → ⊥
    of_one x p q =
        let one : ℕ = (nth ns x).kind in
        let some : (nth ns x).kind ≡ 0 → ⊥ = in_use st W a x p in
        omega (arith, by_this st W a x p, by_this su W b x q, other_kind x, seen_low 1 (λ e. absurd (omega arith)) one some (omega (arith, by_this st W a x p)))

    none_unused : (x : ℕ) → 0 < times x both → times x (unused_of ns) ≡ 0
    none_unused x p = by (dec_lt 0 (times x (reached st W)))
      where
        by : Dec (0 < times x (reached st W)) → times x (unused_of ns) ≡ 0
        by (yes some) = used_none ns x (in_use st W a x some)
        by (no none) =
            let q : 0 < times x (reached su W) = omega (arith, times_append x (reached st W) (reached su W)) in
            sym (ap (times x) (sees_unused given W 1)) ∙ used_none (nodes su W) x (in_use su W b x q)

    both_once : (x : ℕ) → times x both ≤ 1
    both_once x = by (dec_lt 0 (times x (reached st W))) (dec_lt 0 (times x (reached su W)))
      where
        by : Dec (0 < times x (reached st W)) → Dec (0 < times x (reached su W)) → times x both ≤ 1
        by (yes p) (yes q) = absurd (of_one x p q)
        by (yes p) (no q) = omega (arith, times_append x (reached st W) (reached su W), tree_once st W a x)
        by (no p) d = omega (arith, times_append x (reached st W) (reached su W), tree_once su W b x)

    all_once : (x : ℕ) → times x all ≤ 1
    all_once x = by (dec_lt 0 (times x both))
      where
        by : Dec (0 < times x both) → times x all ≤ 1
        by (yes p) = omega (arith, times_append x both (unused_of ns), both_once x, none_unused x p)
        by (no p) = omega (arith, times_append x both (unused_of ns), unused_once ns x)

    all_low : (x : ℕ) → given.nodes ≤ x → times x all ≡ 0
    all_low x ge = by (dec_lt 0 (times x (reached st W))) (dec_lt 0 (times x (reached su W)))
      where
        by : Dec (0 < times x (reached st W)) → Dec (0 < times x (reached su W)) → times x all ≡ 0
        by (yes p) d = absurd (omega (arith, used_in ns x (in_use st W a x p), length_nodes st W))
        by (no p) (yes q) = absurd (omega (arith, used_in (nodes su W) x (in_use su W b x q), length_nodes su W))
        by (no p) (no q) =
            let past : length ns ≤ x = omega (arith, length_nodes st W) in
            omega (arith, times_append x both (unused_of ns), times_append x (reached st W) (reached su W), unused_past ns x past)

    -- as many as there are slots: each is reached once from one root, or is unused
    module _ (full : length (reached st W) + length (reached su W) + length (unused_of ns) ≡ given.nodes) where
      both_reached : Once given.nodes both (unused_of ns)
      both_reached x = sym (times_append x both (unused_of ns)) ∙ by (dec_lt x given.nodes)
        where
          long : length all ≡ given.nodes
          long = omega (arith, length-append both (unused_of ns), length-append (reached st W) (reached su W), full)

          by : Dec (x < given.nodes) → times x all ≡ cond (ltb x given.nodes) 1 0
          by (yes lt) = each_once given.nodes all all_once all_low long x lt ∙ rw (lt-ltb x given.nodes lt) refl
          by (no ge) = let past : given.nodes ≤ x = omega arith in all_low x past ∙ rw (le-ltb x given.nodes past) refl

      -- so all slots have their zeros
      all_zeros : ((s : ℕ) → Idle st W s) → (s : ℕ) → Zeros st W s
      all_zeros idle s = by (ℕ_discrete (nth ns s).kind 0)
        where
          by : Dec ((nth ns s).kind ≡ 0) → Zeros st W s
          by (yes z) = record { tail = canon_zero st W s (idle s z); whole = λ q. zero_unused st W s (idle s z) }
          by (no used) = record { tail = tail (dec_lt 0 (times s (reached st W))); whole = λ q. absurd (used q) }
            where
              some : 0 < times s both
              some =
                  let lt : s < given.nodes = omega (arith, used_in ns s used, length_nodes st W) in
                  let one : times s both + times s (unused_of ns) ≡ 1 = both_reached s ∙ rw (lt-ltb s given.nodes lt) refl in
                  omega (arith, used_none ns s used)

              tail : Dec (0 < times s (reached st W)) → Tail st W s
              tail (yes p) = times_all (Tail st W) a.tails s p
              tail (no p) =
                  canon_other st su W refl refl s
                  (times_all (Tail su W) b.tails s (omega (arith, some, times_append s (reached st W) (reached su W))))

-- THE SURVEY

pub survey_not : (l : List ℕ) → (SoundPool l → ⊥) → Surveyed l None
survey_not l f = record { sound = tells_no f; found = λ x e. absurd (none-some x e) }

module _ (l : List ℕ) where
  -- as many nodes are reached as are in use
  abbrev pub Counted : Type 0
  Counted = length (slots_of (index_of l 0)) + length (slots_of (index_of l 1)) + length (unused_of (nodes_in l 0)) ≡ (given_in l).nodes

  pub sound_pool : Headed l → ((s : ℕ) → Idle (settings_in l 0) (words l) s) → SoundTree (settings_in l 0) (words l) → SoundTree (settings_in l 1) (words l)
      → Counted → SoundPool l
  sound_pool h idle a b full =
      record {
        layout = h.layout;
        reserved = h.reserved;
        settings = h.settings;
        exact = h.exact;
        once = both_reached (given_in l) (words l) a b full;
        trees = each;
        zeros = all_zeros (given_in l) (words l) a b full idle;
      }
    where
      each : (i : ℕ) → SoundNodes (settings_in l i) (nodes_in l i)
      each zero = a.sound
      each (suc i) = b.sound

  -- and conversely
  module _ (p : SoundPool l) where
    pub pool_headed : Headed l
    pool_headed = record { layout = p.layout; reserved = p.reserved; settings = p.settings; exact = p.exact }

    pub pool_idle : (s : ℕ) → Idle (settings_in l 0) (words l) s
    pool_idle s z =
        let st : Settings = settings_in l 0 in
        (p.zeros s).tail.same ∙ ap (raw_for st.rows) (node_raw st (words l) s ∙ (p.zeros s).whole z)

    pub pool_tree : (i : ℕ) → SoundTree (settings_in l i) (words l)
    pool_tree i = record { sound = p.trees i; tails = all_every (slots_of (index_of l i)) (λ s. (sound_held l p i).each s) }

    pub pool_counted : Counted
    pool_counted =
        omega (
          arith,
          once_count (given_in l).nodes (slots_of (index_of l 0) ++ slots_of (index_of l 1)) (unused_of (nodes_in l 0)) p.once,
          length-append (slots_of (index_of l 0)) (slots_of (index_of l 1)),
        )

-- two answers that meet the promise are one
pub sound_told : (l : List ℕ) (q r : Option Findings) → Surveyed l q → Surveyed l r → q ≡ r
sound_told l None None a b = refl
sound_told l None (Some g) a b = absurd (told_no a.sound refl (b.sound.holds refl))
sound_told l (Some f) None a b = absurd (told_no b.sound refl (a.sound.holds refl))
sound_told l (Some f) (Some g) a b = ap Some same
  where
    same : f ≡ g
    same =
        let x : Found l f = a.found f refl in
        let y : Found l g = b.found g refl in
        let given : f.given ≡ g.given = x.given ∙ sym y.given in
        let first : f.first ≡ g.first = x.first ∙ sym y.first in
        let second : f.second ≡ g.second = x.second ∙ sym y.second in
        let spare : f.spare ≡ g.spare = spared_one (nodes_in l 0) f.spare g.spare x.spared y.spared in
        λ j. record { given = given j; first = first j; second = second j; spare = spare j }
