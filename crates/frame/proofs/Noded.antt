-- The kind and entries of a node, row by row, and the frame of node i of a sound pool. Assumes nothing.
use mathlib.Core.Path.{◌≡◌, refl, sym, ap, subst, ◌∙◌}
use mathlib.Core.List.{List, [], ◌∷◌, ◌++◌, map}
use mathlib.Core.Option.{some}
use Prim.Native.Nat.{ℕ, zero, suc, ◌+◌, ◌≤◌, ◌<◌}
use native.Mathlib.Omega.{arith}
use native.Mathlib.Numerals.{add-one}
use lib.ListN.{length, take, drop, get_or, get_elem?, length-append}
use lib.Seq.{take-suc}
use Rattle.words.specs.Words.{words}
use Rattle.slots_raw.specs.declared.Row.{Row}
use Rattle.slots_raw.specs.Slots.{blank}
use Rattle.slots.specs.Nodes.{nodes, nth}
use Rattle.slots.specs.Nodes as S
use Rattle.model.specs.declared.Settings.{Settings}
use Rattle.model.specs.declared.Entry.{Entry}
use Rattle.model.specs.Answer.{Answer}
use Rattle.model.specs.Lists.{concat, All, one}
use Rattle.model.specs.Tree.{Tree, entries, slots, entries_of, greatest_key, total}
use Rattle.model.specs.Frame.{Branch, Frame, leaf, interior, nodes_in, branches, frames_of, fitted, written, write_node, line_of}
use Rattle.model.specs.Sound.{root_for, Fits, Sound}
use Rattle.model.specs.Forest.{elsewhere}
use Rattle.model.proofs.Lists.{all_head}
use Rattle.tree.specs.Bridge.{entry_of, child_of, child_totals, row_for, tree_at}
use Rattle.tree.specs.Pool.{SoundPool, settings_in, index_of, forest_of}
use Rattle.tree.specs.Promises.{InPool}
use Rattle.tree.proofs.Sums.{child_total}
use Rattle.tree.proofs.Few.{used_few, entries_most, slots_low}
use Rattle.tree.proofs.Pools.{sound_held, sound_holds_index, sound_index, sound_narrow}
use Rattle.frame_text.specs.declared.FrameEntry.{FrameEntry}
use Rattle.frame_text.specs.declared.Kind.TheVariants.{Leaf, Interior}
use Rattle.frame_text.specs.declared.Contents.{Contents}
use Rattle.std.specs.Prelude.{Result, Err}
use Rattle.std.specs.declared.ops.ControlFlow.{ControlFlow}
use Rattle.std.specs.declared.ops.ControlFlow.TheVariants.{Continue, Break}
use Rattle.model.specs.declared.Refusal.{Refusal}
use Rattle.model.specs.declared.Refusal.TheVariants as Why
use Rattle.frame.specs.declared.Stop.{Stop}
use Rattle.frame_text.specs.Contents as C
use Rattle.frame_text.specs.Contents.{of_entry, branch_of, of_branch, held, frame_of, contents_of}
use Rattle.frame_text.specs.Answers.{Writes}
use Rattle.frame.specs.Frames.{item_at, entry_for, kind_at, frame_at}
use Rattle.frame.specs.Promises.{ToFind, Located}
use Rattle.frame_text.proofs.Coded.{frame_held}
use Rattle.frame.proofs.Walks.{passed, frames_long, elem_past}

-- THE ENTRIES OF SOME ROWS, children numbered from n

module _ (ns : List S.Node) (h : ℕ) where
  abbrev pub numbered : ℕ → List Row → List FrameEntry
  numbered n [] = []
  numbered n (r ∷ rs) = entry_for h r n ∷ numbered (n + nodes_in h (item_at ns h r)) rs

  pub numbered_long : (n : ℕ) (rs : List Row) → length (numbered n rs) ≡ length rs
  numbered_long n [] = refl
  numbered_long n (r ∷ rs) = ap suc (numbered_long (n + nodes_in h (item_at ns h r)) rs)

  numbered_append : (n : ℕ) (a : List Row) (r : Row) → numbered n (a ++ (r ∷ [])) ≡ numbered n a ++ (entry_for h r (n + passed ns h a) ∷ [])
  numbered_append n [] r = let z : n + 0 ≡ n = omega arith in rw z refl
  numbered_append n (x ∷ a) r =
      let m : ℕ = nodes_in h (item_at ns h x) in
      let long : passed ns h (x ∷ a) ≡ nodes_in h (item_at ns h x) + passed ns h a =
      length-append (slots h (item_at ns h x)) (concat (map (slots h) (map (item_at ns h) a))) in
      let e : n + nodes_in h (item_at ns h x) + passed ns h a ≡ n + passed ns h (x ∷ a) = omega arith in
      ap (entry_for h x n ∷◌) (numbered_append (n + m) a r ∙ ap (λ (k : ℕ). numbered (n + m) a ++ (entry_for h r k ∷ [])) e)

  pub numbered_more : (n : ℕ) (rs : List Row) (j : ℕ) → j < length rs
      → numbered n (take (j + 1) rs) ≡ numbered n (take j rs) ++ (entry_for h (get_or rs j blank) (n + passed ns h (take j rs)) ∷ [])
  numbered_more n rs j g =
      ap (λ (k : ℕ). numbered n (take k rs)) (add-one j) ∙ ap (numbered n) (take-suc rs j blank g) ∙ numbered_append n (take j rs) (get_or rs j blank)

-- ARE THOSE OF THE NODE'S FRAME

leaf_numbered : (ns : List S.Node) (n : ℕ) (rs : List Row) → map of_entry (map entry_of rs) ≡ numbered ns zero n rs
leaf_numbered ns n [] = refl
leaf_numbered ns n (r ∷ rs) = ap (of_entry (entry_of r) ∷◌) (leaf_numbered ns (n + 0) rs)

module _ (ns : List S.Node) (h : ℕ) where
  abbrev kid : Row → Tree h
  kid r = tree_at ns h (child_of r)

  -- a row is its child's, so it stores the child's separator and totals
  branch_row : (n : ℕ) (r : Row) → row_for (suc h) (kid r) ≡ r → length (entries (suc h) (kid r)) < 1048576
      → of_branch (record { key = greatest_key (suc h) (kid r); child = n; totals = total (suc h) (kid r) }) ≡ entry_for (suc h) r n
  branch_row n r e few =
      let key : greatest_key (suc h) (kid r) ≡ r.key = ap (λ (x : Row). x.key) e in
      let totals : total (suc h) (kid r) ≡ child_totals r = sym (child_total h (kid r) few) ∙ ap child_totals e in
      λ j. of_branch (record { key = key j; child = n; totals = totals j })

  branches_numbered : (n : ℕ) (rs : List Row) → map (row_for (suc h)) (map kid rs) ≡ rs → length (concat (map (entries (suc h)) (map kid rs))) < 1048576
      → map of_branch (branches (suc h) n (map kid rs)) ≡ numbered ns (suc h) n rs
  branches_numbered n [] e few = refl
  branches_numbered n (r ∷ rs) e few =
      let long = length-append (entries (suc h) (kid r)) (concat (map (entries (suc h)) (map kid rs))) in
      let head : row_for (suc h) (kid r) ≡ r = ap (λ (l : List Row). get_or l 0 blank) e in
      let one = branch_row n r head (omega (arith, long)) in
      let rest = branches_numbered (n + nodes_in (suc h) (kid r)) rs (ap (drop 1) e) (omega (arith, long)) in
      λ j. one j ∷ rest j

pub contents_numbered : (st : Settings) (W : List ℕ) (h s i : ℕ) → ToFind st W h s
    → contents_of (frame_at h i (tree_at (nodes st W) h s)) ≡ held (kind_at h) (numbered (nodes st W) h (i + 1) (nth (nodes st W) s).rows)
contents_numbered st W zero s i p = ap (held Leaf) (leaf_numbered (nodes st W) (i + 1) (nth (nodes st W) s).rows)
contents_numbered st W (suc h) s i p =
    ap (held Interior)
    (branches_numbered (nodes st W) h (i + 1) (nth (nodes st W) s).rows (sym (ap (λ (n : S.Node). n.rows) (all_head p.stands))) p.light)

-- a leaf's sizes have 4 bytes
sizes_fit : (rs : List Row) (j : ℕ) → j < length rs → All Fits (concat (map (entries zero) (map entry_of rs))) → (get_or rs j blank).size < 4294967296
sizes_fit [] j g p = absurd (omega arith)
sizes_fit (r ∷ rs) zero g (one f fs) = f.size
sizes_fit (r ∷ rs) (suc j) g (one f fs) = sizes_fit rs j (omega arith) fs

pub size_fits : (st : Settings) (W : List ℕ) (h s j : ℕ) → ToFind st W h s → j < length (nth (nodes st W) s).rows → h ≡ 0
    → (get_or (nth (nodes st W) s).rows j blank).size < 4294967296
size_fits st W zero s j p g e = sizes_fit (nth (nodes st W) s).rows j g p.fit
size_fits st W (suc h) s j p g e = absurd (omega arith)

pub kind_high : (h : ℕ) → (h ≡ 0 → ⊥) → Interior ≡ kind_at h
kind_high zero n = absurd (n refl)
kind_high (suc h) n = refl

pub entry_low : (h n : ℕ) (r : Row) → h ≡ 0 → of_entry (entry_of r) ≡ entry_for h r n
entry_low zero n r e = refl
entry_low (suc h) n r e = absurd (omega arith)

pub entry_high : (h n : ℕ) (r : Row) → (h ≡ 0 → ⊥) → of_branch (record { key = r.key; child = n; totals = child_totals r }) ≡ entry_for h r n
entry_high zero n r e = absurd (e refl)
entry_high (suc h) n r e = refl

pub under_leaf : (ns : List S.Node) (h : ℕ) (r : Row) → h ≡ 0 → 0 ≡ nodes_in h (item_at ns h r)
under_leaf ns zero r e = refl
under_leaf ns (suc h) r e = absurd (omega arith)

-- what a frame's values say is the frame
leaf_back : (es : List Entry) → map C.entry_of (map of_entry es) ≡ es
leaf_back [] = refl
leaf_back (e ∷ es) = ap (e ∷◌) (leaf_back es)

branch_back : (bs : List Branch) → map branch_of (map of_branch bs) ≡ bs
branch_back [] = refl
branch_back (b ∷ bs) = ap (b ∷◌) (branch_back bs)

pub frame_contents : (f : Frame) → frame_of (contents_of f) ≡ f
frame_contents (leaf es) = frame_held Leaf (map of_entry es) ∙ ap leaf (leaf_back es)
frame_contents (interior bs) = frame_held Interior (map of_branch bs) ∙ ap interior (branch_back bs)

-- A SOUND POOL

-- a tree of a sound pool stands in its slot
module _ (l : List ℕ) (s : SoundPool l) (tree : ℕ) where
  pub sound_standing : ToFind (settings_in l tree) (words l) (index_of l tree).height (root_for tree)
  sound_standing =
      let st = settings_in l tree in
      let x = index_of l tree in
      let sound : Sound (settings_in l tree) (elsewhere tree (forest_of l)) (index_of l tree) = sound_index l s tree in
      let many : length (entries_of (index_of l tree)) ≤ 524288 = entries_most st x sound in
      record {
        held = sound_held l s tree;
        stands = (sound_holds_index l s tree).tree;
        low = slots_low st x sound;
        few = used_few st x sound;
        fit = sound.fit;
        light = omega (arith, many);
        narrow = sound_narrow l s tree;
      }

-- the same of settings and a height that are a tree's own
module _ (l : List ℕ) (st : Settings) (h : ℕ) (k : InPool l st h) where
  pub node_standing : ToFind st (words l) h st.root
  node_standing =
      subst (λ (x : Settings). ToFind x (words l) h x.root) (sym k.own)
      (subst (λ (y : ℕ). ToFind (settings_in l st.root) (words l) y (settings_in l st.root).root) (sym k.tall) (sound_standing l k.sound st.root))

  own : (i : ℕ) (r : ControlFlow Stop ℕ) → Located st (words l) h st.root i r
      → Located (settings_in l st.root) (words l) (index_of l st.root).height (settings_in l st.root).root i r
  own i r f =
      subst (λ (y : ℕ). Located (settings_in l st.root) (words l) y (settings_in l st.root).root i r) k.tall
      (subst (λ (x : Settings). Located x (words l) h x.root i r) k.own f)

  -- there is no node i
  pub node_none : (i left : ℕ) (r : ControlFlow Stop ℕ) (line : List ℕ) → r ≡ Continue left → Located st (words l) h st.root i r
      → Writes (write_node i (length line) (index_of l st.root)) line (Err Why.NoSuchNode) line
  node_none i left r line e f =
      let behind = subst (λ (x : ControlFlow Stop ℕ). Located st (words l) h st.root i x) e f in
      let past : length (frames_of (index_of l st.root)) ≤ i = omega (arith, frames_long (index_of l st.root).height 0 (index_of l st.root).root, own i (Continue left) behind) in
      subst (λ (a : Answer (List ℕ)). Writes a line (Err Why.NoSuchNode) line) (sym (ap (written (length line)) (elem_past (frames_of (index_of l st.root)) i past)))
      (record { answer = refl; line = refl })

  -- where the walk stops
  pub node_found : (i : ℕ) (r : ControlFlow Stop ℕ) (node : Stop) → r ≡ Break node → Located st (words l) h st.root i r → Located st (words l) h st.root i (Break node)
  node_found i r node e f = subst (λ (x : ControlFlow Stop ℕ). Located st (words l) h st.root i x) e f

  pub node_low : (i : ℕ) (node : Stop) → Located st (words l) h st.root i (Break node) → i ≤ 16384
  node_low i node f = omega (arith, f.1.0, node_standing.few)

  -- the frame of node i
  pub node_written : (i : ℕ) (node : Stop) (c : Contents) (line after : List ℕ) (r : Result ℕ Refusal) → Located st (words l) h st.root i (Break node)
      → c ≡ contents_of (frame_at node.height i (tree_at (nodes st (words l)) node.height node.slot))
      → Writes (fitted (length line) (line_of (frame_of c))) line r after
      → Writes (write_node i (length line) (index_of l st.root)) line r after
  node_written i node c line after r f e w =
      let g = node.height in
      let t = node.slot in
      let x : Frame = frame_at g i (tree_at (nodes st (words l)) g t) in
      let z : 0 + i ≡ i = omega arith in
      let same : frame_of c ≡ frame_at g i (tree_at (nodes st (words l)) g t) = ap frame_of e ∙ frame_contents x in
      let there : get_elem? (frames_of (index_of l st.root)) i ≡ some (frame_at g i (tree_at (nodes st (words l)) g t)) =
      (own i (Break node) f).1.1 0 ∙ ap (λ (j : ℕ). some (frame_at g j (tree_at (nodes (settings_in l st.root) (words l)) g t))) z
      ∙ ap (λ (y : Settings). some (frame_at g i (tree_at (nodes y (words l)) g t))) (sym k.own) in
      subst (λ (a : Answer (List ℕ)). Writes a line r after)
      (ap (λ (y : Frame). fitted (length line) (line_of y)) same ∙ sym (ap (written (length line)) there)) w

pub contents_few : (st : Settings) (W : List ℕ) (h s i : ℕ) (c : Contents) → ToFind st W h s
    → c ≡ contents_of (frame_at h i (tree_at (nodes st W) h s)) → c.count ≤ 32
contents_few st W h s i c p e =
    let rs = (nth (nodes st W) s).rows in
    let same : c.count ≡ length (numbered (nodes st W) h (i + 1) (nth (nodes st W) s).rows) =
    ap (λ (x : Contents). x.count) (e ∙ contents_numbered st W h s i p) in
    omega (arith, numbered_long (nodes st W) h (i + 1) rs, p.narrow s)
