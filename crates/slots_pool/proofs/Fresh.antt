-- A new pool: zeros, a header, and a leaf of each tree in slots 0 and 1. Assumes nothing.
use mathlib.Core.Path.{◌≡◌, refl, sym, ap, ◌∙◌}
use Prim.Native.Nat.{ℕ, zero, suc, ◌+◌, ◌-◌, ◌*◌, ◌≤◌}
use native.Mathlib.Nat.{suc-mul, zero-mul}
use native.Mathlib.Omega.{arith}
use mathlib.Core.List.{List, [], ◌∷◌, ◌++◌, map, append-nil}
use lib.ListN.{length, drop, set, replicate, length-replicate, replicate-append-replicate}
use lib.Seq.{drop-length}
use Rattle.words_runs.specs.Moves.{cleared}
use Rattle.model.specs.declared.Limits.{Limits}
use Rattle.model.specs.declared.PoolSettings.{PoolSettings}
use Rattle.model.specs.declared.Settings.{Settings}
use Rattle.model.specs.Sound.{rows_for, handed, PoolLimits}
use Rattle.model.proofs.Layers.{limits_at_lem, handed_roomy, handed_most}
use Rattle.slots_raw.specs.Slots.{seen, width, head_len, head_in}
use Rattle.slots_raw.specs.Promises.{Shape}
use Rattle.slots.specs.Nodes.{Node, leaf_kind, unused, node_seen, nodes, nth, Held, put_kind}
use Rattle.slots.proofs.Others.{nodes_twice, seen_nodes, first_nodes, held_seen}
use Rattle.slots.specs.Promises.{NodesPut}
use Rattle.slots_pool.specs.Header.{layout_number, header_of}
use Rattle.slots_pool.specs.Image.{image, empty_leaf, new_nodes}
use Rattle.slots_raw.proofs.Over.{drop_replicate}
use Rattle.slots_pool.proofs.Images.{Fit, image_of_lem, image_nodes}
use Rattle.slots_pool.proofs.Zeros.{block_unused}

-- ---- unused nodes

nth_unused : (n s : ℕ) → nth (replicate n unused) s ≡ unused
nth_unused zero s = refl
nth_unused (suc n) zero = refl
nth_unused (suc n) (suc s) = nth_unused n s

fit_unused : (m n : ℕ) → Fit m (replicate n unused)
fit_unused m n s h = rw (nth_unused n s) (omega arith)

image_unused : (root m n : ℕ) → image root m (replicate n unused) ≡ replicate (n * width m) 0
unfolding image
image_unused root m zero = ap (λ (j : ℕ). replicate j 0) (sym (zero-mul (width m)))
image_unused root m (suc n) =
    let e : width m + n * width m ≡ suc n * width m = omega (arith, suc-mul n (width m)) in
    rw (block_unused root m, image_unused root m n) (replicate-append-replicate (width m) (n * width m) 0 ∙ ap (λ (j : ℕ). replicate j 0) e)

-- ---- the words of a new pool

-- what `write_header` stores
abbrev pub limits_put : List ℕ → ℕ → Limits → List ℕ
limits_put W i t = set (set (set W i t.order) (i + 1) t.minimum) (i + 2) 0

pub header_put : (W : List ℕ) (given : PoolSettings) → head_len ≤ length W
    → limits_put (limits_put (set (set W 0 layout_number) 1 given.nodes) 2 given.first) 5 given.second ≡ header_of given ++ drop head_len W
header_put [] given h = absurd (omega arith)
header_put (a ∷ []) given h = absurd (omega arith)
header_put (a ∷ b ∷ []) given h = absurd (omega arith)
header_put (a ∷ b ∷ c ∷ []) given h = absurd (omega arith)
header_put (a ∷ b ∷ c ∷ d ∷ []) given h = absurd (omega arith)
header_put (a ∷ b ∷ c ∷ d ∷ e ∷ []) given h = absurd (omega arith)
header_put (a ∷ b ∷ c ∷ d ∷ e ∷ f ∷ []) given h = absurd (omega arith)
header_put (a ∷ b ∷ c ∷ d ∷ e ∷ f ∷ g ∷ []) given h = absurd (omega arith)
header_put (a ∷ b ∷ c ∷ d ∷ e ∷ f ∷ g ∷ z ∷ W) given h = refl

cleared_all : (W : List ℕ) (n : ℕ) → n ≡ length W → cleared W 0 n ≡ replicate n 0
unfolding cleared
cleared_all W n e =
    let z : 0 + n ≡ length W = omega arith in
    rw (z, drop-length W, append-nil {A = ℕ} (replicate n 0))

-- cleared, and with a header: every slot is unused
pub blank_words : (given : PoolSettings) (W₀ W₁ W₂ : List ℕ) (n : ℕ) → Shape (handed given 0) W₀ → n ≡ length W₀ → W₁ ≡ cleared W₀ 0 n → W₂ ≡ header_of given ++ drop head_len W₁
    → W₂ ≡ header_of given ++ image 0 (rows_for given) (replicate given.nodes unused)
blank_words given W₀ W₁ W₂ n sh all clear head =
    let e : n - head_len ≡ given.nodes * width (rows_for given) = omega (arith, sh.size) in
    head ∙ ap (λ (l : List ℕ). header_of given ++ drop head_len l) (clear ∙ cleared_all W₀ n all)
    ∙ ap (header_of given ++◌)
    (drop_replicate {A = ℕ} 0 head_len n (omega (arith, sh.size)) ∙ ap (λ (j : ℕ). replicate j 0) e ∙ sym (image_unused 0 (rows_for given) given.nodes))

-- both trees of a pool in order for one are
pub both_held : (given : PoolSettings) (W : List ℕ) (i j : ℕ) → PoolLimits given → Held (handed given i) W → Held (handed given j) W
both_held given W i j lim h =
    held_seen (handed given j) (handed given i) W refl refl
    (record { limits = limits_at_lem given lim j; roomy = handed_roomy given j; most = handed_most given lim; size = h.shape.size }) h

module _ (given : PoolSettings) (W : List ℕ) (lim : PoolLimits given)
    (blank : W ≡ header_of given ++ image 0 (rows_for given) (replicate given.nodes unused)) where
  abbrev st : Settings
  st = handed given 0

  abbrev su : Settings
  su = handed given 1

  blank_nodes : Held st W × (nodes st W ≡ replicate given.nodes unused)
  blank_nodes =
      rw blank
      (image_nodes given (replicate given.nodes unused) lim (length-replicate given.nodes unused) (fit_unused (rows_for given) given.nodes))

  pub blank_held : Held st W
  blank_held = blank_nodes.0

  -- and then a leaf of each tree in its root's slot
  pub new_words : (X Y : List ℕ) → NodesPut st W X (put_kind (nodes st W) 0 leaf_kind) → NodesPut su X Y (put_kind (nodes su X) 1 leaf_kind)
      → Y ≡ header_of given ++ image 0 (rows_for given) (new_nodes given.nodes)
  unfolding put_kind seen
  new_words X Y one two =
      let e : given.nodes ≡ suc (suc (given.nodes - 2)) = omega (arith, lim.0.many) in
      let first : nodes st X ≡ put_kind (replicate (suc (suc (given.nodes - 2))) unused) 0 leaf_kind =
      one.is ∙ ap (λ (ns : List Node). put_kind ns 0 leaf_kind) blank_nodes.1 ∙ ap (λ (m : ℕ). put_kind (replicate m unused) 0 leaf_kind) e in
      let is : nodes st Y ≡ new_nodes given.nodes =
      first_nodes su st Y refl refl refl
      ∙ ap (map (node_seen 1)) (two.is ∙ ap (λ (ns : List Node). put_kind ns 1 leaf_kind) (seen_nodes su st X refl refl refl ∙ ap (map (node_seen 1)) first))
      ∙ ap (λ (l : List Node). empty_leaf ∷ node_seen 1 empty_leaf ∷ l) (nodes_twice 1 (replicate (given.nodes - 2) unused)) in
      sym (image_of_lem st Y (both_held given Y 1 0 lim two.held))
      ∙ ap (◌++ image 0 (rows_for given) (nodes st Y)) (two.header ∙ one.header ∙ ap head_in blank)
      ∙ ap (λ (ns : List Node). header_of given ++ image 0 (rows_for given) ns) is

-- ---- a new pool is in m, with these nodes

fit_new : (m n : ℕ) → Fit m (new_nodes n)
fit_new m n zero h = omega arith
fit_new m n (suc zero) h = omega arith
fit_new m n (suc (suc s)) h = rw (nth_unused (n - 2) s) (omega arith)

pub new_nodes_lem : (given : PoolSettings) → let st = handed given 0 in PoolLimits given
    → Held st (header_of given ++ image 0 st.rows (new_nodes st.nodes))
    × (nodes st (header_of given ++ image 0 st.rows (new_nodes st.nodes)) ≡ new_nodes st.nodes)
new_nodes_lem given lim =
    image_nodes given (new_nodes given.nodes) lim (omega (arith, length-replicate (given.nodes - 2) unused, lim.0.many)) (fit_new (rows_for given) given.nodes)
