-- Every word of a sound index's image is below 2 ^ 64. Assumes nothing.
use mathlib.Core.Path.{◌≡◌, ap}
use mathlib.Core.List.{List, [], ◌∷◌, map}
use Prim.Native.Nat.{ℕ, zero, suc, ◌+◌, ◌-◌, ◌^◌, ◌≤◌, ◌<◌}
use native.Mathlib.Omega.{arith}
use lib.ListN.{length, get_or, replicate, length-append, length-map}
use Rattle.slots_raw.specs.declared.Row.{Row}
use Rattle.slots_raw.specs.Slots.{blank, seen, viewed}
use Rattle.slots_raw.proofs.Views.{seen_few}
use Rattle.slots.specs.Nodes.{nth, pad, raw_for}
use Rattle.slots.specs.Nodes as S
use Rattle.slots_pool.specs.Image.{flat_rows, block, image}
use Rattle.model.specs.declared.Entry.{Entry}
use Rattle.model.specs.declared.Totals.{Totals}
use Rattle.model.specs.declared.PoolSettings.{PoolSettings}
use Rattle.model.specs.declared.Settings.{Settings}
use Rattle.model.specs.Lists.{All, none, one}
use Rattle.model.specs.Tree.{Item, Tree, Index, len, entries, slots, slots_of, total}
use Rattle.model.specs.Sound.{rows_for, handed, Whole, Fits, Sound}
use Rattle.model.specs.Forest.{Forest, tree_of, SoundForest}
use Rattle.model.proofs.Layers.{handed_roomy}
use Rattle.model.specs.Promises.{flat}
use Rattle.model.proofs.Lists.{all_append, all_left, all_right, all_map, all_of, all_head}
use Rattle.model.proofs.Trees.{slots_in, list_totals, total_list, totals_count, sizes_few, root_few}
use Rattle.model.proofs.Readable.{separator_has}
use Rattle.slots_pool.specs.Header.{layout_number}
use Rattle.tree.specs.Bridge.{kind_for, row_for, node_for, Cell, cells, cells_of}
use Rattle.tree.specs.Pool.{seen_cell, nodes_of, words_of}
use Rattle.tree.proofs.Few.{entries_most, slots_low}
use Rattle.tree.proofs.NodesOf.{nodes_of_have}

-- WORDS

abbrev pub Word : ℕ → Type 0
Word w = w < 2 ^ 64

pub record RowFits (r : Row) : Type 0 where
  pub key : Word r.key
  pub body : Word r.body
  pub size : Word r.size

pub record NodeFits (order : ℕ) (n : S.Node) : Type 0 where
  pub kind : n.kind ≤ 4
  pub few : length n.rows ≤ order
  pub rows : All RowFits n.rows

rows_words : {rs : List Row} → All RowFits rs → All Word (flat_rows rs)
unfolding flat_rows
rows_words none = none
rows_words (one r rs) = one r.key (one r.body (one r.size (rows_words rs)))

blanks_fit : (n : ℕ) → All RowFits (replicate n blank)
blanks_fit zero = none
blanks_fit (suc n) = one {x = blank} (record { key = omega arith; body = omega arith; size = omega arith }) (blanks_fit n)

block_words : (root m order : ℕ) (n : S.Node) → order ≤ 32 → NodeFits order n → All Word (block (viewed root (raw_for m n)))
unfolding block raw_for pad
block_words root m order n le f =
    let count : Word (length n.rows) = omega (arith, f.few) in
    let kind : Word (seen root n.kind) = omega (arith, seen_few root n.kind f.kind) in
    one kind (one count (rows_words (all_append f.rows (blanks_fit (m - length n.rows)))))

image_words : (root m order : ℕ) (ns : List S.Node) → order ≤ 32 → ((s : ℕ) → NodeFits order (nth ns s)) → All Word (image root m ns)
unfolding image
image_words root m order [] le f = none
image_words root m order (n ∷ ns) le f = all_append (block_words root m order n le (f zero)) (image_words root m order ns le (λ s. f (suc s)))

pub word_at : {ws : List ℕ} → All Word ws → (i : ℕ) → get_or ws i 0 < 2 ^ 64
word_at none i = omega arith
word_at (one h hs) zero = h
word_at (one h hs) (suc i) = word_at hs i

-- ROWS OF A SOUND TREE

-- an item of a sound index: whole, with few entries, each of which fits, and low slots
pub record Part (st : Settings) (h : ℕ) (i : Item h) : Type 0 where
  pub whole : Whole st h i
  pub fit : All Fits (entries h i)
  pub few : length (entries h i) ≤ 524288
  pub low : All (λ s. s < 16384) (slots h i)

parts : (st : Settings) (h : ℕ) {xs : List (Item h)} → All (Whole st h) xs → All Fits (flat h xs) → length (flat h xs) ≤ 524288 → All (λ s. s < 16384) (slots_in h xs) → All (Part st h) xs
parts st h none fit few low = none
parts st h (one {x = i} {xs = xs} w ws) fit few low =
    let long : length (flat h (i ∷ xs)) ≡ length (entries h i) + length (flat h xs) = length-append (entries h i) (flat h xs) in
    one (record { whole = w; fit = all_left (entries h i) (flat h xs) fit; few = omega arith; low = all_left (slots h i) (slots_in h xs) low })
    (parts st h ws (all_right (entries h i) (flat h xs) fit) (omega arith) (all_right (slots h i) (slots_in h xs) low))

row_fits : (st : Settings) (h : ℕ) (i : Item h) → Part st h i → RowFits (row_for h i)
row_fits st zero e p = let f : Fits e = all_head p.fit in record { key = f.key; body = f.place; size = omega (arith, f.size) }
row_fits st (suc h) n p =
    let es : List Entry = entries (suc h) n in
    let sums : total (suc h) n ≡ list_totals (entries (suc h) n) = total_list (suc h) n in
    let both : (list_totals (entries (suc h) n)).live + (list_totals (entries (suc h) n)).dead ≡ length (entries (suc h) n) = totals_count es in
    record {
      key = separator_has st (suc h) Word n p.whole (all_map (λ e f. f.key) p.fit);
      body = omega (arith, all_head p.low, p.few, ap (λ (t : Totals). t.live) sums, ap (λ (t : Totals). t.dead) sums);
      size = omega (arith, p.few, ap (λ (t : Totals). t.size) sums, sizes_few p.fit);
    }

rows_fit : (st : Settings) (h : ℕ) {xs : List (Item h)} → All (Part st h) xs → All RowFits (map (row_for h) xs)
rows_fit st h ps = all_of (row_for h) (all_map (λ i p. row_fits st h i p) ps)

-- CELLS

abbrev CellFits : Settings → Cell → Type 0
CellFits st c = NodeFits st.order c.node

kind_few : (h : ℕ) → kind_for h ≤ 4
kind_few zero = omega arith
kind_few (suc h) = omega arith

module _ (st : Settings) where
  node_fits : (h : ℕ) (n : Tree h) → len n ≤ st.order → All (Part st h) n.items → NodeFits st.order (node_for h n)
  node_fits h n few ps = record { kind = kind_few h; few = omega (arith, length-map n.items (row_for h)); rows = rows_fit st h ps }

  list_fits : (h : ℕ) → ((i : Item h) → Part st h i → All (CellFits st) (cells h i)) → {xs : List (Item h)} → All (Part st h) xs → All (CellFits st) (cells_of h xs)
  list_fits h f none = none
  list_fits h f (one {x = i} p ps) = all_append (f i p) (list_fits h f ps)

  -- the parts of a node's items
  below : (h : ℕ) (n : Tree h) → All (Whole st h) n.items → All Fits (entries (suc h) n) → length (entries (suc h) n) ≤ 524288 → All (λ s. s < 16384) (slots (suc h) n) → All (Part st h) n.items
  below h n w fit few (one l low) = parts st h w fit few low

  cells_fit : (h : ℕ) (i : Item h) → Part st h i → All (CellFits st) (cells h i)
  cells_fit zero e p = none
  cells_fit (suc h) n p =
      let ps : All (Part st h) n.items = below h n p.whole.1 p.fit p.few p.low in
      one {x = record { slot = n.slot; node = node_for h n }} (node_fits h n p.whole.0.few ps) (list_fits h (cells_fit h) ps)

-- THE IMAGE

module _ (st : Settings) {elsewhere : List ℕ} (x : Index) (s : Sound st elsewhere x) where
  index_fits : All (CellFits st) (cells (suc x.height) x.root)
  index_fits =
      let low : All (λ t. t < 16384) (slots_of x) = all_map (λ t h. omega (arith, s.settings.bounded)) (slots_low st x s) in
      let ps : All (Part st x.height) x.root.items = below st x.height x.root s.whole s.fit (entries_most st x s) low in
      one {x = record { slot = x.root.slot; node = node_for x.height x.root }}
      (node_fits st x.height x.root (root_few st x.height x.root s.rooted) ps) (list_fits st x.height (cells_fit st x.height) ps)

-- of a forest: the second tree's as the first sees them
wider : {a b : ℕ} {n : S.Node} → a ≤ b → NodeFits a n → NodeFits b n
wider le f = record { kind = f.kind; few = omega (arith, f.few); rows = f.rows }

seen_fits : {m : ℕ} {n : S.Node} → NodeFits m n → NodeFits m (S.node_seen 1 n)
seen_fits {n = n} f = record { kind = seen_few 1 n.kind f.kind; few = f.few; rows = f.rows }

module _ (given : PoolSettings) (f : Forest) (s : SoundForest given f) where
  pub nodes_of_fit : (t : ℕ) → NodeFits 32 (nth (nodes_of given.nodes f) t)
  nodes_of_fit =
      nodes_of_have (NodeFits 32) (record { kind = omega arith; few = omega arith; rows = none }) given.nodes f
      (all_append (all_map (λ c g. wider s.limits.0.narrow g) (index_fits (handed given 0) (tree_of 0 f) (s.trees 0)))
      (all_of seen_cell (all_map (λ c g. seen_fits (wider s.limits.1.narrow g)) (index_fits (handed given 1) (tree_of 1 f) (s.trees 1)))))

  -- a slot has room for each
  pub nodes_of_room : (t : ℕ) → length (nth (nodes_of given.nodes f) t).rows ≤ rows_for given
  nodes_of_room =
      nodes_of_have (λ (n : S.Node). length n.rows ≤ rows_for given) (omega arith) given.nodes f
      (all_append (all_map (λ c g. omega (arith, g.few, handed_roomy given 0)) (index_fits (handed given 0) (tree_of 0 f) (s.trees 0)))
      (all_of seen_cell (all_map (λ c g. omega (arith, g.few, handed_roomy given 1)) (index_fits (handed given 1) (tree_of 1 f) (s.trees 1)))))

  pub image_fits : (i : ℕ) → get_or (words_of given f) i 0 < 2 ^ 64
  image_fits =
      let lim = s.limits in
      let layout : Word layout_number = omega arith in
      let zero_word : Word 0 = omega arith in
      let nodes : Word given.nodes = omega (arith, s.limits.0.bounded) in
      let order : Word given.first.order = omega (arith, s.limits.0.narrow) in
      let minimum : Word given.first.minimum = omega (arith, s.limits.0.least, s.limits.0.narrow) in
      let order1 : Word given.second.order = omega (arith, s.limits.1.narrow) in
      let minimum1 : Word given.second.minimum = omega (arith, s.limits.1.least, s.limits.1.narrow) in
      word_at (one layout (one nodes (one order (one minimum (one zero_word (one order1 (one minimum1 (one zero_word
      (image_words 0 (rows_for given) 32 (nodes_of given.nodes f) (omega arith) nodes_of_fit)))))))))
