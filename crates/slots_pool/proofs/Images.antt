-- From words to nodes and back: a pool in m is its header and the image of its nodes, and a header with the image of some nodes is a pool in
-- m that holds these nodes. Assumes nothing.
use mathlib.Core.Path.{◌≡◌, refl, sym, ap, ◌∙◌}
use Prim.Native.Nat.{ℕ, zero, suc, ◌+◌, ◌*◌, ◌≤◌, ◌<◌}
use native.Mathlib.Nat.{suc-mul, zero-mul}
use native.Mathlib.Omega.{arith}
use mathlib.Core.List.{List, [], ◌∷◌, ◌++◌, map}
use lib.ListN.{length, take, drop, get_or, length-append, length-drop, take-append-drop, get_or-map}
use lib.Seq.{length-take-le, take_at, drop_at}
use Rattle.words.proofs.Laws.{nil_of_length}
use Rattle.model.specs.declared.PoolSettings.{PoolSettings}
use Rattle.model.specs.declared.Settings.{Settings}
use Rattle.model.specs.Sound.{rows_for, handed, InLimits, PoolLimits}
use Rattle.model.proofs.Layers.{handed_roomy, handed_most}
use Rattle.slots_raw.specs.declared.Row.{Row}
use Rattle.slots_raw.specs.Slots.{chunks, rows_of, width, head_len, row_len, head_in, Raw, raw_of, viewed, slot_of, slots, raw_at}
use Rattle.slots.specs.Nodes.{Node, unused, node_of, nodes, nth, pad, raw_for, Canon, Held}
use Rattle.slots_pool.specs.Header.{header_of}
use Rattle.slots_pool.specs.Image.{flat_rows, block, image}
use Rattle.slots_raw.proofs.Views.{seen_back, viewed_back}
use Rattle.slots.proofs.Pads.{length_pad}
use Rattle.slots.proofs.Nodes.{node_back, canon_for}
use Rattle.slots_pool.proofs.Canons.{raw_empty, held_each}

-- ---- words, slots, and the same words

pub flat_rows_lem : (n : ℕ) (l : List ℕ) → length l ≡ n * row_len → flat_rows (rows_of n l) ≡ l
unfolding flat_rows rows_of chunks
flat_rows_lem zero l e = sym (nil_of_length l e)
flat_rows_lem (suc n) [] e = absurd (omega arith)
flat_rows_lem (suc n) (x ∷ []) e = absurd (omega arith)
flat_rows_lem (suc n) (x ∷ y ∷ []) e = absurd (omega arith)
flat_rows_lem (suc n) (x ∷ y ∷ z ∷ l) e = ap (λ (r : List ℕ). x ∷ y ∷ z ∷ r) (flat_rows_lem n l (omega arith))

pub block_back : (m : ℕ) (b : List ℕ) → length b ≡ width m → block (raw_of m b) ≡ b
unfolding block raw_of
block_back m [] e = absurd (omega arith)
block_back m (x ∷ []) e = absurd (omega arith)
block_back m (x ∷ y ∷ b) e = ap (λ (r : List ℕ). x ∷ y ∷ r) (flat_rows_lem (m) b (omega arith))

image_chunks : (st : Settings) (n : ℕ) (l : List ℕ) → let m = st.rows in length l ≡ n * width m
    → ((s : ℕ) → Canon m (get_or (map (slot_of st) (chunks (width m) n l)) s (raw_of m [])))
    → image st.root m (map node_of (map (slot_of st) (chunks (width m) n l))) ≡ l
unfolding image chunks
image_chunks st zero l e h = sym (nil_of_length l (e ∙ zero-mul (width st.rows)))
image_chunks st (suc n) l e h =
    let m = st.rows in
    let S = width m in
    let b = take S l in
    let long : width st.rows ≤ length l = omega (arith, suc-mul n (width st.rows)) in
    let first : block (viewed st.root (raw_for m (node_of (slot_of st (take (width m) l))))) ≡ take (width m) l =
    ap (λ (r : Raw). block (viewed st.root r)) (sym (h zero).same) ∙ ap block (viewed_back st.root (raw_of m b)) ∙ block_back m b (length-take-le S l long) in
    let rest : image st.root m (map node_of (map (slot_of st) (chunks (width m) n (drop (width m) l)))) ≡ drop (width m) l =
    image_chunks st n (drop S l) (length-drop S l ∙ omega (arith, suc-mul n (width st.rows))) (λ s. h (suc s)) in
    rw (first, rest, take-append-drop)

-- the words are the header and the image of the nodes
pub image_of_lem : (st : Settings) (W : List ℕ) → Held st W → head_in W ++ image st.root st.rows (nodes st W) ≡ W
unfolding nodes slots raw_at
image_of_lem st W h =
    let size : length W ≡ head_len + st.nodes * width st.rows = h.shape.size in
    ap (head_in W ++◌) (image_chunks st st.nodes (drop head_len W) (length-drop head_len W ∙ omega arith) h.each) ∙ take-append-drop head_len W

-- two pools with one header and the same nodes have the same words
pub words_same : (st : Settings) (W X : List ℕ) → Held st W → Held st X → head_in W ≡ head_in X → nodes st W ≡ nodes st X → W ≡ X
words_same st W X h g e n =
    sym (image_of_lem st W h)
    ∙ ap (λ (l : List ℕ). l ++ image st.root st.rows (nodes st W)) e ∙ ap (λ (ns : List Node). head_in X ++ image st.root st.rows ns) n ∙ image_of_lem st X g

-- ---- nodes, words, and the same nodes

length_flat : (l : List Row) → length (flat_rows l) ≡ length l * row_len
unfolding flat_rows
length_flat [] = refl
length_flat (r ∷ l) = omega (arith, length_flat l)

rows_back : (l : List Row) → rows_of (length l) (flat_rows l) ≡ l
unfolding flat_rows rows_of chunks
rows_back [] = refl
rows_back (r ∷ l) = ap (r ∷◌) (rows_back l)

module _ (root m : ℕ) (n : Node) (fits : length n.rows ≤ m) where
  pub length_block : length (block (viewed root (raw_for m n))) ≡ width m
  unfolding block raw_for
  length_block = omega (arith, length_flat (pad (m) n.rows), length_pad (m) n.rows fits)

  -- the slot of a node is read as it was written
  pub raw_back : viewed root (raw_of m (block (viewed root (raw_for m n)))) ≡ raw_for m n
  unfolding block raw_for raw_of
  raw_back =
      let l = pad (m) n.rows in
      let cells : rows_of (m) (flat_rows l) ≡ l =
      ap (λ (m : ℕ). rows_of m (flat_rows l)) (sym (length_pad (m) n.rows fits)) ∙ rows_back l in
      λ j. record { kind = seen_back root n.kind j; count = length n.rows; cells = cells j }

-- each node has at most m rows
abbrev pub Fit : ℕ → List Node → Type 0
Fit m ns = (s : ℕ) → s < length ns → length (nth ns s).rows ≤ m

fit_head : (m : ℕ) (n : Node) (ns : List Node) → Fit m (n ∷ ns) → length n.rows ≤ m
fit_head m n ns f = f zero (omega arith)

fit_tail : (m : ℕ) (n : Node) (ns : List Node) → Fit m (n ∷ ns) → Fit m ns
fit_tail m n ns f s h = f (suc s) (omega arith)

length_image : (root m : ℕ) (ns : List Node) → Fit m ns → length (image root m ns) ≡ length ns * width m
unfolding image
length_image root m [] f = omega arith
length_image root m (n ∷ ns) f =
    length-append (block (viewed root (raw_for m n))) (image root m ns)
    ∙ omega (arith, length_block root m n (fit_head m n ns f), length_image root m ns (fit_tail m n ns f), suc-mul (length ns) (width m))

image_slots : (st : Settings) (ns : List Node) → let m = st.rows in Fit m ns
    → map (slot_of st) (chunks (width m) (length ns) (image st.root m ns)) ≡ map (raw_for m) ns
unfolding image chunks
image_slots st [] f = refl
image_slots st (n ∷ ns) f =
    let m = st.rows in
    let S = width m in
    let b = block (viewed st.root (raw_for m n)) in
    let one = fit_head m n ns f in
    let first : take S (b ++ image st.root m ns) ≡ b = take_at b (image st.root m ns) S (length_block st.root m n one) in
    let rest : drop S (b ++ image st.root m ns) ≡ image st.root m ns = drop_at b (image st.root m ns) S (length_block st.root m n one) in
    rw (first, rest, raw_back st.root m n one, image_slots st ns (fit_tail m n ns f))

nodes_back : (m : ℕ) (ns : List Node) → map node_of (map (raw_for m) ns) ≡ ns
nodes_back m [] = refl
nodes_back m (n ∷ ns) = rw (node_back m n, nodes_back m ns)

module _ (st : Settings) (H : List ℕ) (ns : List Node) (limits : InLimits st) (roomy : 2 * st.order ≤ st.rows) (most : st.rows ≤ 64) (four : length H ≡ head_len) (all : length ns ≡ st.nodes) (fit : Fit st.rows ns) where
  slots_of : slots st (H ++ image st.root st.rows ns) ≡ map (raw_for st.rows) ns
  unfolding slots
  slots_of =
      ap (λ (l : List ℕ). map (slot_of st) (chunks (width st.rows) st.nodes l)) (drop_at H (image st.root st.rows ns) head_len four)
      ∙ ap (λ (m : ℕ). map (slot_of st) (chunks (width st.rows) m (image st.root st.rows ns))) (sym all) ∙ image_slots st ns fit

  raw_of_lem : (s : ℕ) → raw_at st (H ++ image st.root st.rows ns) s ≡ raw_for st.rows (nth ns s)
  unfolding raw_at
  raw_of_lem s =
      ap (λ (l : List Raw). get_or l s (raw_of st.rows [])) slots_of
      ∙ ap (get_or (map (raw_for st.rows) ns) s) (raw_empty st.rows) ∙ get_or-map (raw_for st.rows) ns s unused

  -- as many words as a header has, and the image of some nodes, are a pool in m that holds them
  pub image_held : Held st (H ++ image st.root st.rows ns)
  image_held =
      held_each st (H ++ image st.root st.rows ns)
      (record { limits = limits; roomy = roomy; most = most; size = length-append H (image st.root st.rows ns) ∙ omega (arith, length_image st.root st.rows ns fit, ap (◌* width st.rows) all) })
      (λ s h. rw (raw_of_lem s) (canon_for st.rows (nth ns s) (fit s (omega arith))))

  pub image_is : nodes st (H ++ image st.root st.rows ns) ≡ ns
  unfolding nodes
  image_is = ap (map node_of) slots_of ∙ nodes_back st.rows ns

-- a header and the image of some nodes, as the first tree sees them
pub image_nodes : (given : PoolSettings) (ns : List Node) → let st = handed given 0 in PoolLimits given → length ns ≡ st.nodes → Fit st.rows ns
    → Held st (header_of given ++ image 0 st.rows ns) × (nodes st (header_of given ++ image 0 st.rows ns) ≡ ns)
image_nodes given ns limits all fit =
    let st : Settings = handed given 0 in
    let roomy : 2 * (handed given 0).order ≤ (handed given 0).rows = handed_roomy given 0 in
    let most : rows_for given ≤ 64 = handed_most given limits in (
      image_held st (header_of given) ns limits.0 roomy most refl all fit,
      image_is st (header_of given) ns limits.0 roomy most refl all fit,
    )
