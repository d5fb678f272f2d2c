-- Every frame of a sound index can be read back: it has at most 32 entries, its keys ascend, and its numbers fit their bytes.
-- Assumes nothing.
use mathlib.Core.Path.{◌≡◌, refl, ap, ◌∙◌}
use mathlib.Core.Bool.{true}
use mathlib.Core.List.{List, [], ◌∷◌, map}
use Prim.Native.Nat.{ℕ, zero, suc, ◌+◌, ◌^◌, ◌≤◌, ◌<◌}
use native.Mathlib.Omega.{arith}
use native.Mathlib.Nat.{le_trans, mul-le-mul}
use lib.ListN.{length, length-append, length-map}
use borrow.Author.Tests.{lt-ltb, le-ltb}
use Rattle.model.specs.declared.Entry.{Entry}
use Rattle.model.specs.declared.Totals.{Totals}
use Rattle.model.specs.declared.Settings.{Settings}
use Rattle.model.specs.Lists.{All, none, one, Ordered, nil, cons}
use Rattle.model.specs.Tree.{Item, Tree, len, entries, slots, greatest_key, total}
use Rattle.model.specs.Frame.{Frame, leaf, interior, keys_of, nodes_in, branches, in_turn, frames_from, rising, entries_refusal}
use Rattle.model.specs.Sound.{InLimits, Whole, Sorted, Fits, BranchFits, FrameFits}
use Rattle.model.specs.Demands.{FramesRead}
use Rattle.model.specs.Promises.{flat}
use Rattle.model.proofs.Lists.{all_append, all_left, all_right, all_map, all_of, all_head, all_tail, ordered_left, ordered_right}
use Rattle.model.proofs.Trees.{flat_zero, slots_in, Ends, separator_ends, ends_over, list_totals, total_list, totals_count, sizes_few, root_few, entries_few, used_most}
use Rattle.model.proofs.Frames.{read_written}

-- KEYS

ordered_rising : {ks : List ℕ} → Ordered (λ j k. j < k) ks → rising ks ≡ true
ordered_rising nil = refl
ordered_rising (cons h nil) = refl
ordered_rising (cons {x = j} h (cons {x = k} g s)) = rw (lt-ltb j k (all_head h)) (ordered_rising (cons g s))

not_refused : (ks : List ℕ) → length ks ≤ 32 → Ordered (λ j k. j < k) ks → entries_refusal ks ≡ 0
not_refused ks few s = rw (le-ltb 32 (length ks) few, ordered_rising s)

pub entry_keys_lem : {es : List Entry} → Sorted es → Ordered (λ j k. j < k) (map (λ e. e.key) es)
entry_keys_lem nil = nil
entry_keys_lem (cons h s) = cons (all_of (λ e. e.key) h) (entry_keys_lem s)

-- what holds of every key below an item holds of its separator
pub separator_has : (st : Settings) (h : ℕ) (P : ℕ → Type 0) (i : Item h) → Whole st h i → All (λ e. P e.key) (entries h i) → P (greatest_key h i)
separator_has st h P i w g =
    let e : Ends (entries h i) (greatest_key h i) = separator_ends st h i w in
    rw e.key at (all_head (all_right e.init (e.last ∷ []) (rw e.whole at g)))

separators_have : (st : Settings) (h : ℕ) (P : ℕ → Type 0) {cs : List (Item h)} → All (Whole st h) cs → All (λ e. P e.key) (flat h cs) → All (λ c. P (greatest_key h c)) cs
separators_have st h P none g = none
separators_have st h P (one {x = c} {xs = cs} w ws) g =
    one (separator_has st h P c w (all_left (entries h c) (flat h cs) g)) (separators_have st h P ws (all_right (entries h c) (flat h cs) g))

-- so separators ascend
pub separator_keys : (st : Settings) (h : ℕ) {cs : List (Item h)} → All (Whole st h) cs → Sorted (flat h cs) → Ordered (λ j k. j < k) (map (greatest_key h) cs)
separator_keys st h none s = nil
separator_keys st h (one {x = c} {xs = cs} w ws) s =
    cons (all_of (greatest_key h) (separators_have st h (λ k. greatest_key h c < k) ws (ends_over (separator_ends st h c w) s)))
    (separator_keys st h ws (ordered_right (entries h c) (flat h cs) s))

branch_keys : (h i : ℕ) (cs : List (Item h)) → map (λ b. b.key) (branches h i cs) ≡ map (greatest_key h) cs
branch_keys h i [] = refl
branch_keys h i (c ∷ cs) = ap (greatest_key h c ∷◌) (branch_keys h (i + nodes_in h c) cs)

pub branch_count : (h i : ℕ) (cs : List (Item h)) → length (branches h i cs) ≡ length cs
branch_count h i [] = refl
branch_count h i (c ∷ cs) = ap suc (branch_count h (i + nodes_in h c) cs)

-- NUMBERS

module _ (st : Settings) (lim : InLimits st) where
  -- a node and what is below it has at most 2 ^ 19 entries
  few_below : (h : ℕ) (n : Tree h) → len n ≤ st.order → All (Whole st h) n.items → length (slots (suc h) n) ≤ 16384 → length (entries (suc h) n) ≤ 524288
  few_below h n few w nodes = le_trans (entries_few st h n few w) (mul-le-mul lim.narrow nodes)

  branch_fits : (h i : ℕ) (c : Tree h) → Whole st (suc h) c → All Fits (entries (suc h) c) → i + length (slots (suc h) c) ≤ 16384
      → BranchFits (record { key = greatest_key (suc h) c; child = i; totals = total (suc h) c })
  branch_fits h i c w fit nodes =
      let es : List Entry = entries (suc h) c in
      let many : length (entries (suc h) c) ≤ 524288 = few_below h c w.0.few w.1 (omega arith) in
      let sums : total (suc h) c ≡ list_totals es = total_list (suc h) c in
      let both : (list_totals es).live + (list_totals es).dead ≡ length es = totals_count es in
      record {
        key = separator_has st (suc h) (λ k. k < 2 ^ 64) c w (all_map (λ e f. f.key) fit);
        child = omega arith;
        live = omega (arith, ap (λ (t : Totals). t.live) sums);
        dead = omega (arith, ap (λ (t : Totals). t.dead) sums);
        size = omega (arith, ap (λ (t : Totals). t.size) sums, sizes_few fit);
      }

  branches_fit : (h i : ℕ) {cs : List (Tree h)} → All (Whole st (suc h)) cs → All Fits (flat (suc h) cs) → i + length (slots_in (suc h) cs) ≤ 16384
      → All BranchFits (branches (suc h) i cs)
  branches_fit h i none fit nodes = none
  branches_fit h i (one {x = c} {xs = cs} w ws) fit nodes =
      let long : length (slots_in (suc h) (c ∷ cs)) ≡ length (slots (suc h) c) + length (slots_in (suc h) cs) = length-append (slots (suc h) c) (slots_in (suc h) cs) in
      one (branch_fits h i c w (all_left (entries (suc h) c) (flat (suc h) cs) fit) (omega arith))
      (branches_fit h (i + nodes_in (suc h) c) ws (all_right (entries (suc h) c) (flat (suc h) cs) fit) (omega arith))

  -- A FRAME THAT CAN BE READ

  abbrev Readable : Frame → Type 0
  Readable f = FrameFits f × (entries_refusal (keys_of f) ≡ 0)

  pub record Part (h i : ℕ) (xs : List (Item h)) : Type 0 where
    pub whole : All (Whole st h) xs
    pub sorted : Sorted (flat h xs)
    pub fit : All Fits (flat h xs)
    pub nodes : i + length (slots_in h xs) ≤ 16384

  first_part : (h i : ℕ) (c : Item h) (cs : List (Item h)) → Part h i (c ∷ cs) → All Fits (entries h c) × (Sorted (entries h c) × (i + length (slots h c) ≤ 16384))
  first_part h i c cs p =
      (all_left (entries h c) (flat h cs) p.fit, (ordered_left (entries h c) (flat h cs) p.sorted, omega (arith, p.nodes, length-append (slots h c) (slots_in h cs))))

  rest_part : (h i : ℕ) (c : Item h) (cs : List (Item h)) → Part h i (c ∷ cs) → Part h (i + nodes_in h c) cs
  rest_part h i c cs p =
      record {
        whole = all_tail p.whole;
        sorted = ordered_right (entries h c) (flat h cs) p.sorted;
        fit = all_right (entries h c) (flat h cs) p.fit;
        nodes = omega (arith, p.nodes, length-append (slots h c) (slots_in h cs));
      }

  siblings : (h : ℕ) → ((i : ℕ) (n : Tree h) → len n ≤ st.order → Part h (i + 1) n.items → All Readable (frames_from h i n))
      → (i : ℕ) (cs : List (Tree h)) → Part (suc h) i cs → All Readable (in_turn (suc h) (frames_from h) i cs)
  siblings h f i [] p = none
  siblings h f i (c ∷ cs) p =
      let q = first_part (suc h) i c cs p in
      all_append (f i c (all_head p.whole).0.few (record { whole = (all_head p.whole).1; sorted = q.1.0; fit = q.0; nodes = omega (arith, q.1.1) }))
      (siblings h f (i + nodes_in (suc h) c) cs (rest_part (suc h) i c cs p))

  frames_readable : (h i : ℕ) (n : Tree h) → len n ≤ st.order → Part h (i + 1) n.items → All Readable (frames_from h i n)
  frames_readable zero i n few p =
      let fit : All Fits n.items = rw (flat_zero n.items) at p.fit in
      let sorted : Sorted n.items = rw (flat_zero n.items) at p.sorted in
      let few-keys : length (map (λ e. e.key) n.items) ≤ 32 = omega (arith, lim.narrow, length-map n.items (λ e. e.key)) in
      one {x = leaf n.items} (fit, not_refused (map (λ e. e.key) n.items) few-keys (entry_keys_lem sorted)) none
  frames_readable (suc h) i n few p =
      let keys : map (λ b. b.key) (branches (suc h) (i + 1) n.items) ≡ map (greatest_key (suc h)) n.items = branch_keys (suc h) (i + 1) n.items in
      let few-keys : length (map (greatest_key (suc h)) n.items) ≤ 32 = omega (arith, lim.narrow, length-map n.items (greatest_key (suc h))) in
      one {x = interior (branches (suc h) (i + 1) n.items)} (
        branches_fit h (i + 1) p.whole p.fit p.nodes,
        ap entries_refusal keys ∙ not_refused (map (greatest_key (suc h)) n.items) few-keys (separator_keys st (suc h) p.whole p.sorted),
      )
      (siblings h (frames_readable h) (i + 1) n.items p)

pub frames_read_lem : FramesRead
frames_read_lem st elsewhere x s =
    all_map (λ f g. read_written f g.0 g.1)
    (frames_readable st s.settings x.height 0 x.root (root_few st x.height x.root s.rooted)
    (record {
      whole = s.whole;
      sorted = s.sorted;
      fit = s.fit;
      nodes = omega (arith, used_most st x s, s.settings.bounded);
    }))
