-- The frames of the desk's tree have room in its text: at most 16 nodes, and an entry of order more makes fewer of them. Assumes nothing.
use Prim.Native.Nat.{ℕ, zero, suc, ◌+◌, ◌*◌, ◌≤◌}
use native.Mathlib.Omega.{arith}
use native.Mathlib.Nat.{suc-mul, mul-le-mul_right, mul-le-mul_left, mul-add, mul_left_comm}
use mathlib.Core.Path.{◌≡◌, sym, ap, ◌∙◌}
use mathlib.Core.List.{List, [], ◌∷◌}
use lib.ListN.{length, length-append, length-map}
use Rattle.model.specs.declared.Settings.{Settings}
use Rattle.model.specs.Lists.{All, none, one}
use Rattle.model.specs.Tree.{Tree, len}
use Rattle.model.specs.Frame.{Frame, leaf, interior, nodes_in, branches, in_turn, frames_from, frames_of, line_of}
use Rattle.model.specs.Sound.{Whole, Sound}
use Rattle.model.specs.Forest.{elsewhere}
use Rattle.model.proofs.Lists.{all_append, all_head, all_tail, all_map}
use Rattle.model.proofs.Layers.{handed_roomy}
use Rattle.model.proofs.Trees.{root_few, used_most}
use Rattle.model.proofs.Readable.{branch_count}
use Rattle.frame_text.specs.Entries.{start_of}
use Rattle.frame_text.specs.Contents.{of_entry, of_branch, contents_of}
use Rattle.frame_text.proofs.Coded.{line_long}
use Rattle.frame.proofs.Noded.{frame_contents}
use Rattle.frame.proofs.Walks.{frames_long}
use Rattle.tree.specs.Pool.{SoundPool, given_in, settings_in, index_of, forest_of}
use Rattle.tree.proofs.Pools.{sound_index}
use Rattle.desk_promise.specs.Replies.{frame_text, dump_text}

-- A FRAME of at most so many entries

abbrev entries_in : Frame → ℕ
entries_in (leaf es) = length es
entries_in (interior bs) = length bs

abbrev Few : ℕ → Frame → Type 0
Few o f = entries_in f ≤ o

module _ (st : Settings) where
  siblings : (h : ℕ) → ((i : ℕ) (n : Tree h) → len n ≤ st.order → All (Whole st h) n.items → All (Few st.order) (frames_from h i n))
      → (i : ℕ) (cs : List (Tree h)) → All (Whole st (suc h)) cs → All (Few st.order) (in_turn (suc h) (frames_from h) i cs)
  siblings h f i [] w = none
  siblings h f i (c ∷ cs) w =
      all_append (f i c (all_head w).0.few (all_head w).1) (siblings h f (i + nodes_in (suc h) c) cs (all_tail w))

  frames_few : (h i : ℕ) (n : Tree h) → len n ≤ st.order → All (Whole st h) n.items → All (Few st.order) (frames_from h i n)
  frames_few zero i n few w = one {x = leaf n.items} few none
  frames_few (suc h) i n few w =
      one {x = interior (branches (suc h) (i + 1) n.items)} (omega (arith, few, branch_count (suc h) (i + 1) n.items))
      (siblings h (frames_few h) (i + 1) n.items w)

-- its line: two digits for the header and for each byte of an entry, and a line feed
line_is : (f : Frame) → length (line_of f) ≡ 2 * start_of (contents_of f).kind (contents_of f).count
line_is f = ap (λ g. length (line_of g)) (sym (frame_contents f)) ∙ line_long (contents_of f)

line_short : (o : ℕ) (f : Frame) → Few o f → length (frame_text f) ≤ 3 + 56 * o
line_short o (leaf es) few =
    omega (arith, few, length-append (line_of (leaf es)) (10 ∷ []), line_is (leaf es), length-map es of_entry)
line_short o (interior bs) few =
    omega (arith, few, length-append (line_of (interior bs)) (10 ∷ []), line_is (interior bs), length-map bs of_branch)

-- AS MANY of them
text_short : (w : ℕ) (fs : List Frame) → All (λ f. length (frame_text f) ≤ w) fs → length (dump_text fs) ≤ length fs * w
text_short w [] none = omega arith
text_short w (f ∷ fs) (one h hs) = omega (arith, h, text_short w fs hs, length-append (frame_text f) (dump_text fs), suc-mul (length fs) w)

-- THE DESK'S POOL
module _ (l : List ℕ) (s : SoundPool l) (long : length l ≡ 3392) where
  abbrev st : Settings
  st = settings_in l 0

  abbrev fs : List Frame
  fs = frames_of (index_of l 0)

  index : Sound st (elsewhere 0 (forest_of l)) (index_of l 0)
  index = sound_index l s 0

  times : (a b c : ℕ) → st.nodes * (a + b * c) ≡ st.nodes * a + b * (st.nodes * c)
  times a b c = mul-add st.nodes a (b * c) ∙ ap (st.nodes * a +◌) (mul_left_comm st.nodes b c)

  -- slots for nodes of at least four rows, in 416 words
  roomy : 2 * (st.nodes * st.order) ≤ st.nodes * st.rows
  roomy = omega (arith, mul-le-mul_left st.nodes (handed_roomy (given_in l) 0), mul_left_comm st.nodes 2 st.order)

  sized : st.nodes * 2 + 6 * (st.nodes * st.order) ≤ 416
  sized = omega (arith, long, s.exact, times 2 3 st.rows, roomy)

  four : st.nodes * 4 ≤ st.nodes * st.order
  four = mul-le-mul_left st.nodes s.settings.0.wide

  many : length fs ≤ st.nodes
  many = omega (arith, frames_long (index_of l 0).height 0 (index_of l 0).root, used_most st (index_of l 0) index)

  pub frames_16 : length fs ≤ 16
  frames_16 = omega (arith, many, sized, four)

  pub frames_fit : length (dump_text fs) ≤ 4096
  frames_fit =
      let w = 3 + 56 * st.order in
      let short : All (λ f. length (frame_text f) ≤ w) fs =
      all_map (line_short st.order)
      (frames_few st (index_of l 0).height 0 (index_of l 0).root (root_few st (index_of l 0).height (index_of l 0).root index.rooted) index.whole) in
      omega (arith, text_short w fs short, mul-le-mul_right w many, times 3 56 st.order, sized)
