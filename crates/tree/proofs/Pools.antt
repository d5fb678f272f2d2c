-- Sound pools and sound forests are one and the same: a sound pool is the image of its forest, and the image of a sound forest is a sound pool of
-- that forest. Assumes nothing.
use mathlib.Core.Path.{◌≡◌, refl, sym, ap, ◌∙◌, subst}
use mathlib.Core.List.{List, [], ◌∷◌, ◌++◌, map}
use Prim.Native.Nat.{ℕ, zero, suc, ◌+◌, ◌*◌, ◌≤◌, ◌<◌}
use native.Mathlib.Omega.{arith}
use lib.ListN.{length, get_or}
use Rattle.words.specs.Words.{words, bytes_of}
use Rattle.words.proofs.Laws.{Bytes, length_words, length_bytes_of, bytes_of_words, bytes_of_bytes, words_bytes_of}
use Rattle.slots_raw.specs.Slots.{width, head_len, head_in, seen}
use Rattle.slots_raw.specs.Promises.{Shape}
use Rattle.slots_raw.proofs.Views.{seen_unused}
use Rattle.slots_pool.specs.Header.{layout_of, settings_of, header_of}
use Rattle.slots.specs.Nodes.{node_seen, nodes, nth, Held}
use Rattle.slots.specs.Nodes as S
use Rattle.slots_pool.specs.Image.{image}
use Rattle.slots_pool.proofs.Images.{image_of_lem, image_nodes}
use Rattle.slots_pool.proofs.Fresh.{both_held}
use Rattle.slots.proofs.Nodes.{length_nodes}
use Rattle.slots.proofs.Others.{seen_nodes, seen_none, nth_seen}
use Rattle.model.specs.declared.PoolSettings.{PoolSettings}
use Rattle.model.specs.declared.Settings.{Settings}
use Rattle.model.specs.Tree.{Index, slots_of}
use Rattle.model.specs.Sound.{rows_for, root_for, handed, PoolLimits, Once, Sound}
use Rattle.model.specs.Forest.{Forest, planted_of, planted, tree_of, elsewhere, SoundForest}
use Rattle.model.proofs.Layers.{limits_at_lem, handed_roomy, handed_most}
use Rattle.model.proofs.Forest.{once_each}
use Rattle.tree.specs.Bridge.{Holds, Blank, unused_of, HoldsIndex, HoldsForest}
use Rattle.tree.specs.Pool.{pool_len, nodes_of, words_of, image_of, given_in, settings_in, nodes_in, index_of, forest_of, Zeros, SoundNodes, SoundPool}
use Rattle.tree.specs.Promises.{InPool}
use Rattle.tree.proofs.Unused.{unused_up, unused_seen}
use Rattle.tree.proofs.SoundHolds.{slot_read, sound_holds}
use Rattle.tree.proofs.HoldsSound.{held_index, held_sound}
use Rattle.tree.proofs.NodesOf.{length_nodes_of, nodes_of_hold, held_nodes_of}
use Rattle.tree.proofs.Fitting.{nodes_of_fit, nodes_of_room, image_fits}

-- WHAT TREE i SEES of nodes that the first tree sees

pub tree_sees : (given : PoolSettings) (W : List ℕ) (i : ℕ) → nodes (handed given i) W ≡ map (node_seen (root_for i)) (nodes (handed given 0) W)
tree_sees given W i = seen_nodes (handed given i) (handed given 0) W refl refl refl

pub sees_unused : (given : PoolSettings) (W : List ℕ) (i : ℕ) → unused_of (nodes (handed given i) W) ≡ unused_of (nodes (handed given 0) W)
sees_unused given W i = ap unused_of (tree_sees given W i) ∙ unused_seen (root_for i) (nodes (handed given 0) W)

pub blank_seen : (root : ℕ) (ns : List S.Node) → Blank ns → Blank (map (node_seen root) ns)
blank_seen root ns b s e =
    let here = nth_seen root ns s in
    here ∙ ap (node_seen root) (b s (seen_unused root (nth ns s).kind (sym (ap (λ (n : S.Node). n.kind) here) ∙ e))) ∙ seen_none root

-- nodes that hold a forest hold each of its trees, as that sees them
pub holds_tree : (given : PoolSettings) (W : List ℕ) (f : Forest) → HoldsForest (nodes (handed given 0) W) f → (i : ℕ)
    → HoldsIndex (nodes (handed given i) W) (tree_of i f)
holds_tree given W f k i =
    record {
      tree = rw (tree_sees given W i) (k.trees i);
      unused = sees_unused given W i ∙ k.unused;
      blank = rw (tree_sees given W i) (blank_seen (root_for i) (nodes (handed given 0) W) k.blank);
    }

-- FROM NODES TO BYTES: a pool that holds a sound forest is its image

module _ (given : PoolSettings) (f : Forest) where
  pub held_words : (W : List ℕ) → Held (handed given 0) W → head_in W ≡ header_of given → HoldsForest (nodes (handed given 0) W) f → SoundForest given f
      → W ≡ words_of given f
  held_words W h e k s =
      let st : Settings = handed given 0 in
      sym (image_of_lem st W h) ∙ ap (λ (l : List ℕ). l ++ image 0 (rows_for given) (nodes st W)) e
      ∙ ap (λ (ns : List S.Node). header_of given ++ image 0 (rows_for given) ns) (held_nodes_of given f s (nodes st W) (length_nodes st W) k)

  pub held_bytes : (W l : List ℕ) → Held (handed given 0) W → head_in W ≡ header_of given → HoldsForest (nodes (handed given 0) W) f → SoundForest given f
      → words l ≡ W → length l ≡ pool_len given → Bytes l → l ≡ image_of given f
  held_bytes W l h e k s w n b =
      sym (bytes_of_words (head_len + given.nodes * width (rows_for given)) l n b) ∙ ap bytes_of (w ∙ held_words W h e k s)

-- A SOUND POOL

-- a pool of the exact length has the shape of its settings
pub exact_shape : (given : PoolSettings) (i : ℕ) (l : List ℕ) → PoolLimits given → length l ≡ pool_len given → Shape (handed given i) (words l)
exact_shape given i l lim e =
    record { limits = limits_at_lem given lim i; roomy = handed_roomy given i; most = handed_most given lim; size = omega (arith, length_words l) }

-- the trees of the forest are those that were read
pub tree_of_lem : (l : List ℕ) (i : ℕ) → tree_of i (forest_of l) ≡ index_of l i
tree_of_lem l zero = refl
tree_of_lem l (suc i) =
    ap (λ (us : List ℕ). record { height = (index_of l 1).height; root = (index_of l 1).root; unused = us }) (sym (sees_unused (given_in l) (words l) 1))

module _ (l : List ℕ) (s : SoundPool l) where
  pub sound_held : (i : ℕ) → Held (settings_in l i) (words l)
  sound_held i =
      both_held (given_in l) (words l) 0 i s.settings
      (record { shape = exact_shape (given_in l) 0 l s.settings s.exact; each = λ t. (s.zeros t).tail })

  -- its nodes hold its forest
  pub sound_holds_forest : HoldsForest (nodes_in l 0) (forest_of l)
  sound_holds_forest =
      record {
        trees = both;
        unused = refl;
        blank = λ t. (s.zeros t).whole;
      }
    where
      each : (i : ℕ) → Holds (map (node_seen (root_for i)) (nodes_in l 0)) (index_of l i).height (index_of l i).root
      each i = subst (λ (ns : List S.Node). Holds ns (index_of l i).height (index_of l i).root) (tree_sees (given_in l) (words l) i) (sound_holds (settings_in l i) (nodes_in l i) (s.trees i))

      both : (i : ℕ) → Holds (map (node_seen (root_for i)) (nodes_in l 0)) (planted i (forest_of l)).height (planted i (forest_of l)).root
      both zero = each 0
      both (suc i) = each 1

  pub sound_holds_index : (i : ℕ) → HoldsIndex (nodes_in l i) (index_of l i)
  sound_holds_index i = subst (HoldsIndex (nodes_in l i)) (tree_of_lem l i) (holds_tree (given_in l) (words l) (forest_of l) sound_holds_forest i)

  -- each tree is sound beside the other
  pub sound_index : (i : ℕ) → Sound (settings_in l i) (elsewhere i (forest_of l)) (index_of l i)
  sound_index i =
      let n : SoundNodes (settings_in l i) (nodes_in l i) = s.trees i in
      record {
        settings = limits_at_lem (given_in l) s.settings i;
        root_slot = slot_read (nodes_in l i) (index_of l i).height (root_for i);
        once = subst (λ (x : Index). Once (given_in l).nodes (elsewhere i (forest_of l) ++ slots_of x) x.unused) (tree_of_lem l i)
            (once_each (given_in l).nodes (forest_of l) s.once i);
        shallow = n.shallow;
        rooted = n.rooted;
        whole = n.whole;
        sorted = n.sorted;
        fit = n.fit;
        ascending = unused_up (nodes_in l i);
      }

  pub sound_forest : SoundForest (given_in l) (forest_of l)
  sound_forest =
      record { limits = s.settings; trees = λ i. subst (Sound (settings_in l i) (elsewhere i (forest_of l))) (sym (tree_of_lem l i)) (sound_index i) }

  -- no node of it has more than 32 rows, whoever sees them
  pub sound_narrow : (i t : ℕ) → length (nth (nodes_in l i) t).rows ≤ 32
  sound_narrow i t =
      let f : Forest = forest_of l in
      let same : nodes_in l 0 ≡ nodes_of (given_in l).nodes (forest_of l) =
      held_nodes_of (given_in l) f sound_forest (nodes_in l 0) (length_nodes (settings_in l 0) (words l)) sound_holds_forest in
      let seen : length (nth (nodes_in l i) t).rows ≡ length (nth (nodes_in l 0) t).rows =
      ap (λ (ns : List S.Node). length (nth ns t).rows) (tree_sees (given_in l) (words l) i) ∙ ap (λ (n : S.Node). length n.rows) (nth_seen (root_for i) (nodes_in l 0) t) in
      omega (arith, seen, ap (λ (ns : List S.Node). length (nth ns t).rows) same, (nodes_of_fit (given_in l) f sound_forest t).few)

-- the words that begin a list
head_words : (W : List ℕ) → head_len ≤ length W
    → head_in W ≡ get_or W 0 0 ∷ get_or W 1 0 ∷ get_or W 2 0 ∷ get_or W 3 0 ∷ get_or W 4 0 ∷ get_or W 5 0 ∷ get_or W 6 0 ∷ get_or W 7 0 ∷ []
head_words [] h = absurd (omega arith)
head_words (a ∷ []) h = absurd (omega arith)
head_words (a ∷ b ∷ []) h = absurd (omega arith)
head_words (a ∷ b ∷ c ∷ []) h = absurd (omega arith)
head_words (a ∷ b ∷ c ∷ d ∷ []) h = absurd (omega arith)
head_words (a ∷ b ∷ c ∷ d ∷ e ∷ []) h = absurd (omega arith)
head_words (a ∷ b ∷ c ∷ d ∷ e ∷ f ∷ []) h = absurd (omega arith)
head_words (a ∷ b ∷ c ∷ d ∷ e ∷ f ∷ g ∷ []) h = absurd (omega arith)
head_words (a ∷ b ∷ c ∷ d ∷ e ∷ f ∷ g ∷ z ∷ W) h = refl

pub sound_header : (l : List ℕ) → SoundPool l → head_in (words l) ≡ header_of (given_in l)
sound_header l s =
    let W : List ℕ = words l in
    head_words (words l) (omega (arith, length_words l, s.exact))
    ∙ (λ j. s.layout j ∷ get_or W 1 0 ∷ get_or W 2 0 ∷ get_or W 3 0 ∷ s.reserved.0 j ∷ get_or W 5 0 ∷ get_or W 6 0 ∷ s.reserved.1 j ∷ [])

pub sound_image : (l : List ℕ) → SoundPool l → Bytes l → l ≡ image_of (given_in l) (forest_of l)
sound_image l s b =
    held_bytes (given_in l) (forest_of l) (words l) l (sound_held l s 0) (sound_header l s) (sound_holds_forest l s) (sound_forest l s) refl s.exact b

-- THE IMAGE OF A SOUND FOREST

module _ (given : PoolSettings) (f : Forest) (s : SoundForest given f) where
  abbrev img : List ℕ
  img = image_of given f

  words_held : Held (handed given 0) (words_of given f)
  words_held = (image_nodes given (nodes_of given.nodes f) s.limits (length_nodes_of given.nodes f) (λ t g. nodes_of_room given f s t)).0

  words_nodes : nodes (handed given 0) (words_of given f) ≡ nodes_of given.nodes f
  words_nodes = (image_nodes given (nodes_of given.nodes f) s.limits (length_nodes_of given.nodes f) (λ t g. nodes_of_room given f s t)).1

  -- its words are its header and nodes again
  pub image_spells : words img ≡ words_of given f
  image_spells = words_bytes_of (words_of given f) (image_fits given f s)

  pub image_given : given_in img ≡ given
  image_given = ap settings_of image_spells

  pub image_settings : (i : ℕ) → settings_in img i ≡ handed given i
  image_settings i = ap (λ (g : PoolSettings). handed g i) image_given

  image_read : nodes_in img 0 ≡ nodes_of given.nodes f
  image_read = ap (λ (W : List ℕ). nodes (handed (settings_of W) 0) W) image_spells ∙ words_nodes

  pub image_holds_forest : HoldsForest (nodes_in img 0) f
  image_holds_forest = subst (λ (ns : List S.Node). HoldsForest ns f) (sym image_read) (nodes_of_hold given f s)

  pub image_holds : (i : ℕ) → HoldsIndex (nodes_in img i) (tree_of i f)
  image_holds i = holds_tree (given_in img) (words img) f image_holds_forest i

  pub image_index : (i : ℕ) → index_of img i ≡ tree_of i f
  image_index i = held_index (handed given i) (nodes_in img i) (tree_of i f) (s.trees i) (image_holds i).tree (image_holds i).unused

  pub image_forest : forest_of img ≡ f
  image_forest = λ j. record { first = planted_of (image_index 0 j); second = planted_of (image_index 1 j); unused = image_holds_forest.unused j }

  pub image_bytes : Bytes img
  image_bytes = bytes_of_bytes (words_of given f)

  pub image_length : length img ≡ pool_len given
  image_length = length_bytes_of (words_of given f) ∙ omega (arith, words_held.shape.size)

  each_once : Once (given_in img).nodes (slots_of (index_of img 0) ++ slots_of (index_of img 1)) (unused_of (nodes_in img 0))
  each_once =
      subst (λ (g : PoolSettings). Once g.nodes (slots_of (index_of img 0) ++ slots_of (index_of img 1)) (unused_of (nodes_in img 0))) (sym image_given)
      (subst (λ (x : Index). Once given.nodes (slots_of x ++ slots_of (index_of img 1)) (unused_of (nodes_in img 0))) (sym (image_index 0))
      (subst (λ (x : Index). Once given.nodes (slots_of (tree_of 0 f) ++ slots_of x) (unused_of (nodes_in img 0))) (sym (image_index 1))
      (subst (Once given.nodes (slots_of (tree_of 0 f) ++ slots_of (tree_of 1 f))) (sym image_holds_forest.unused) (s.trees 1).once)))

  pub image_sound : SoundPool img
  image_sound =
      record {
        layout = ap layout_of image_spells;
        reserved = (ap (λ (W : List ℕ). get_or W 4 0) image_spells, ap (λ (W : List ℕ). get_or W 7 0) image_spells);
        settings = subst PoolLimits (sym image_given) s.limits;
        exact = image_length ∙ ap pool_len (sym image_given);
        once = each_once;
        trees = λ i. subst (λ (g : PoolSettings). SoundNodes (handed g i) (nodes_in img i)) (sym image_given)
            (held_sound (handed given i) (nodes_in img i) (tree_of i f) (s.trees i) (image_holds i).tree (image_holds i).unused);
        zeros = λ t. subst (λ (W : List ℕ). Zeros (handed (settings_of W) 0) W t) (sym image_spells)
            (record { tail = words_held.each t; whole = rw words_nodes ((nodes_of_hold given f s).blank t) });
      }

-- BOTH DETERMINE EACH OTHER

pub forest_unique : (given theirs : PoolSettings) (f g : Forest) → SoundForest given f → SoundForest theirs g → image_of given f ≡ image_of theirs g
    → (given ≡ theirs) × (f ≡ g)
forest_unique given theirs f g s t e =
    (sym (image_given given f s) ∙ ap given_in e ∙ image_given theirs g t, sym (image_forest given f s) ∙ ap forest_of e ∙ image_forest theirs g t)

pub pool_unique : (k l : List ℕ) → SoundPool k → SoundPool l → Bytes k → Bytes l → given_in k ≡ given_in l → forest_of k ≡ forest_of l → k ≡ l
pool_unique k l s t a b e x =
    sound_image k s a ∙ ap (λ (given : PoolSettings). image_of given (forest_of k)) e ∙ ap (image_of (given_in l)) x ∙ sym (sound_image l t b)

-- A TREE OF A POOL is 0 or 1

pub number_below : {l : List ℕ} {st : Settings} {height : ℕ} → InPool l st height → st.root < 2
number_below {st = st} p = by st.root (ap (λ (u : Settings). u.root) p.own)
  where
    by : (i : ℕ) → i ≡ root_for i → i < 2
    by zero e = omega arith
    by (suc i) e = omega (arith, e)
