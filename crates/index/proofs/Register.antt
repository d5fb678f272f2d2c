-- From any pool whose tree answers from a list, after any sequence of batches on either tree, the calls that name that tree answer from its plain list, and
-- so from a newly opened pool; and two neighbouring batches may change places. Assumes nothing.
use mathlib.Core.Path.{◌≡◌, refl, sym, ap, ◌∙◌, subst}
use mathlib.Core.Bool.{Bool, true, false, cond}
use mathlib.Core.List.{List, [], ◌∷◌}
use Prim.Native.Nat.{ℕ, zero, suc, ◌<◌}
use lib.Dec.{eqb}
use Rattle.model.specs.declared.PoolSettings.{PoolSettings}
use Rattle.std.specs.Prelude.{Result, Ok, Err}
use Rattle.model.specs.declared.Counts.{Counts}
use Rattle.model.specs.declared.Refusal.{Refusal}
use Rattle.model.specs.declared.Entry.{Entry}
use Rattle.model.specs.Lists.{All, none, one}
use Rattle.model.specs.Tree.{entries_of}
use Rattle.model.specs.Plain.{plain_counts, no_counts}
use Rattle.model.specs.Answer.{refused, done, unless, told, number}
use Rattle.model.specs.Look.{Listing, get_all, scan}
use Rattle.model.specs.Refuse.{Call, tasks_of, descend, get}
use Rattle.model.specs.Forest.{Forest, tree_of, replant, new_forest, SoundForest, refusal_at, batch_at, forest_after}
use Rattle.model.specs.Demands as D
use Rattle.model.specs.TwoTrees.{done_at, BatchesAt, BothAccepted, ChangePlacesAt}
use Rattle.model.proofs.Answers.{refused_done}
use Rattle.model.proofs.Demands as M
use Rattle.model.proofs.Forest.{new_forest_sound_lem, one_batch_at_lem}
use Rattle.model.proofs.TwoTrees as T
use Rattle.tree.specs.Pool.{SoundPool, given_in, index_of, forest_of, image_of}
use Rattle.tree.proofs.Pools.{tree_of_lem, sound_forest, image_sound, image_given, image_forest}
use Rattle.look_output.specs.Output.{room_in}
use Rattle.index_promise.specs.Promise.{holds, fails, Left, ◌leaving◌, leaves, Opens, Batches, written, listed, shown}
use Rattle.index_promise.proofs.Unique.{by_sound}
use Rattle.index_promise.proofs.Dones.{done_is, named_is}
use Rattle.look_portion.specs.Portion.{upwards, portion}
use Rattle.index.specs.Register.{AnswersFrom, swept_of, portion_of, Turn, Runs, rest, next, plain_after, plain_turn, plain_run, CountedBy, Counted, Onwards, Demand3, Swapped, Swap, SwapTrees}

-- WHAT A PROMISE SAYS OF A SOUND POOL

pub answers_from : (i : ℕ) (es : List Entry) (l : List ℕ) → i < 2 → SoundPool l → entries_of (index_of l i) ≡ es → AnswersFrom i es l
answers_from i es l low s e =
    let m : D.AnswersFrom es (index_of l i) = M.answers_from (index_of l i) es e in
    record {
      sound = s;
      holds = e;
      totals = λ r p. by_sound s p ∙ named_is i _ low ∙ ap done m.totals;
      gets = λ ks out r out' d p.
          let q = by_sound s p ∙ ap (leaves listed (written out) out) (named_is i (get ks (room_in out) (index_of l i)) low)
          ∙ ap (λ n. leaves listed (written out) out (unless n (get_all ks (room_in out) (index_of l i)))) (descends ks d)
          ∙ ap (λ (g : Listing). done (listed g) leaving written out g) (m.gets ks (room_in out)) in
          (ap (λ w. w.answer) q, ap (λ w. w.bytes) q);
      scans = λ q out r out' p.
          let n = (scan q (room_in out) (index_of l i)).opened in
          let e = by_sound s p ∙ ap (leaves (λ s. swept_of s.listed s.opened) (λ s. written out s.listed) out) (named_is i (done (scan q (room_in out) (index_of l i))) low)
          ∙ ap (λ (g : Listing). done (swept_of g n) leaving written out g) (m.scans q (room_in out)) in
          ((n, ap (λ w. w.answer) e), ap (λ w. w.bytes) e);
      portions = λ start end sift out r out' p.
          let n = (scan (upwards start end sift) (room_in out) (index_of l i)).opened in
          let e = by_sound s p ∙ ap (leaves shown (λ x. written out x.scanned.listed) out) (named_is i (done (portion start end sift (room_in out) (index_of l i))) low)
          ∙ ap (λ (g : Listing). done (portion_of start (room_in out) g n) leaving written out g) (m.scans (upwards start end sift) (room_in out)) in
          ((n, ap (λ w. w.answer) e), ap (λ w. w.bytes) e);
    }
  where
    descends : (ks : List ℕ) → descend ks ≡ false → ◌≡◌ {A = ℕ} (cond (descend ks) 5 0) 0
    descends ks d = rw d refl

-- A BATCH

-- it was accepted: its counts and the pool are the model's
pub record Accepted (i : ℕ) (c : Call) (l : List ℕ) (k : Counts) (m : List ℕ) : Type 0 where
  pub sound : SoundPool l
  pub passed : refusal_at (given_in l) i c (forest_of l) ≡ 0
  pub counts : k ≡ (batch_at (given_in l) i c (forest_of l)).counts
  pub bytes : m ≡ image_of (given_in l) (done_at (given_in l) i c (forest_of l))

module _ (i : ℕ) (c : Call) (l : List ℕ) where
  -- what is left where its refusal is n, 0 for none
  abbrev pub left_by : ℕ → Left Counts
  left_by n = leaves (λ b. b.counts) (λ b. image_of (given_in l) (replant i b.index (forest_of l))) l (unless n (batch_at (given_in l) i c (forest_of l)))

  pub accepted : {k : Counts} {m : List ℕ} → Batches i c l (Ok k) m → Accepted i c l k m
  accepted {k} {m} (fails u e) = absurd (refused_done 2 k (sym (ap (λ (w : Left Counts). w.answer) e)))
  accepted {k} {m} (holds s e) = by (refusal_at (given_in l) i c (forest_of l)) refl e
    where
      by : (n : ℕ) → refusal_at (given_in l) i c (forest_of l) ≡ n → (done k leaving m) ≡ left_by n → Accepted i c l k m
      by zero q f = record { sound = s; passed = q; counts = done_is (ap (λ (w : Left Counts). w.answer) f); bytes = ap (λ (w : Left Counts). w.bytes) f }
      by (suc n) q f = absurd (refused_done (suc n) k (sym (ap (λ (w : Left Counts). w.answer) f)))

  -- it was refused: the pool is as it was
  pub refused_same : (why : Refusal) {m : List ℕ} → Batches i c l (Err why) m → m ≡ l
  refused_same why (fails u e) = ap (λ (w : Left Counts). w.bytes) e
  refused_same why {m} (holds s e) = by (refusal_at (given_in l) i c (forest_of l)) e
    where
      by : (k : ℕ) → (refused (number why) leaving m) ≡ left_by k → m ≡ l
      by zero f = absurd (refused_done (number why) (batch_at (given_in l) i c (forest_of l)).counts (ap (λ (w : Left Counts). w.answer) f))
      by (suc k) f = ap (λ (w : Left Counts). w.bytes) f

-- the pool after an accepted batch
pub record After (i : ℕ) (c : Call) (l : List ℕ) (m : List ℕ) : Type 0 where
  pub sound : SoundPool m
  pub given : given_in m ≡ given_in l
  pub forest : forest_of m ≡ done_at (given_in l) i c (forest_of l)
  pub batch : BatchesAt (given_in l) i c (forest_of l)

pub after : (i : ℕ) (c : Call) (l : List ℕ) (k : Counts) (m : List ℕ) → D.Lent c → Accepted i c l k m → After i c l m
after i c l k m lent a =
    let b : BatchesAt (given_in l) i c (forest_of l) = one_batch_at_lem (given_in l) i c (forest_of l) (sound_forest l a.sound) lent a.passed in
    let f : Forest = done_at (given_in l) i c (forest_of l) in
    record {
      sound = subst SoundPool (sym a.bytes) (image_sound (given_in l) f b.sound);
      given = ap given_in a.bytes ∙ image_given (given_in l) f b.sound;
      forest = ap forest_of a.bytes ∙ image_forest (given_in l) f b.sound;
      batch = b;
    }

-- ANY SEQUENCE

-- tree i holds a list
record Kept (i : ℕ) (es : List Entry) (l : List ℕ) : Type 0 where
  sound : SoundPool l
  list : entries_of (index_of l i) ≡ es

-- so does the tree of its forest, and conversely
in_forest : (i : ℕ) (l : List ℕ) → entries_of (tree_of i (forest_of l)) ≡ entries_of (index_of l i)
in_forest i l = ap entries_of (tree_of_lem l i)

turn : (i j : ℕ) (c : Call) (r : Result Counts Refusal) (l m : List ℕ) (es : List Entry) → i < 2 → D.Lent c → Kept i es l → Batches j c l r m
    → Kept i (cond (eqb j i) (plain_after c (told r) es) es) m × (j ≡ i → CountedBy c (told r) es)
turn i j c (Ok k) l m es low lent g b =
    let a : Accepted j c l k m = accepted j c l b in
    let now : After j c l m = after j c l k m lent a in
    let f : Forest = forest_of l in
    let list : entries_of (tree_of i (forest_of l)) ≡ es = in_forest i l ∙ g.list in
    let next : D.AnswersFrom _ _ =
    (T.onwards (given_in l) (record { tree = j; call = c } ∷ []) f i es low (one lent none) (sound_forest l a.sound) list).1 in (
      record {
        sound = now.sound;
        list = sym (in_forest i m) ∙ ap (λ (h : Forest). entries_of (tree_of i h)) now.forest
            ∙ ap (λ (n : ℕ). entries_of (tree_of i (forest_after j f (unless n (batch_at (given_in l) j c f))))) (sym a.passed) ∙ next.holds
            ∙ ap (λ (n : ℕ). cond (eqb j i) (D.plain_after n (tasks_of c) es) es) a.passed;
      },
      λ e. a.counts ∙ now.batch.counts
          ∙ ap (λ (fs : List Entry). plain_counts (tasks_of c) fs no_counts) (ap (λ (t : ℕ). entries_of (tree_of t f)) e ∙ list),
    )
turn i j c (Err why) l m es low lent g b =
    let same : m ≡ l = refused_same j c l why b in
    (subst (λ (fs : List Entry). Kept i fs m) (sym (either (eqb j i))) (subst (Kept i es) (sym same) g), λ e. tt)
  where
    either : (t : Bool) → cond t es es ≡ es
    either true = refl
    either false = refl

run : {ts : List Turn} {l k : List ℕ} (i : ℕ) (es : List Entry) → i < 2 → All (λ t. D.Lent t.call) ts → Kept i es l → Runs ts l k
    → Kept i (plain_run i ts es) k × Counted i ts es
run i es low lent g rest = (g, tt)
run i es low (one h hs) g (next {t = t} {l = l} {m = m} b bs) =
    let one : Kept i (plain_turn i t es) m × (t.tree ≡ i → CountedBy t.call (told t.answer) es) =
    turn i t.tree t.call t.answer l m es low h g b in
    let on = run i (plain_turn i t es) low hs one.0 bs in
    (on.0, (one.1, on.1))

pub onwards : Onwards
onwards i es l now ts low lent a runs =
    let k = run i es low lent (record { sound = a.sound; list = a.holds }) runs in
    (answers_from i (plain_run i ts es) now low k.0.sound k.0.list, k.1)

-- an opened pool has no entries
opened : (given : PoolSettings) (i : ℕ) (l new : List ℕ) → i < 2 → Opens given l (Ok tt) new → AnswersFrom i [] new
opened given i l new low (fails u e) = absurd (refused_done 1 tt (sym (ap (λ w. w.answer) e)))
opened given i l new low (holds (lim, exact) e) =
    let f : Forest = new_forest given.nodes in
    let s : SoundForest given f = new_forest_sound_lem given lim in
    let is : new ≡ image_of given f = ap (λ w. w.bytes) e in
    answers_from i [] new low (subst SoundPool (sym is) (image_sound given f s))
    (sym (in_forest i new) ∙ ap (λ (h : Forest). entries_of (tree_of i h)) (ap forest_of is ∙ image_forest given f s) ∙ bare i)
  where
    bare : (i : ℕ) → entries_of (tree_of i (new_forest given.nodes)) ≡ []
    bare zero = refl
    bare (suc i) = refl

pub demand_3 : Demand3
demand_3 given i l new now ts low lent o runs = onwards i [] new now ts low lent (opened given i l new low o) runs

-- TWO NEIGHBOURS

-- what was accepted and what it left, said of the settings and the forest that its pool has
passed_at : {i : ℕ} {c : Call} {l m : List ℕ} {k : Counts} {g : PoolSettings} {f : Forest} → given_in l ≡ g → forest_of l ≡ f → Accepted i c l k m
    → (refusal_at g i c f ≡ 0) × (k ≡ (batch_at g i c f).counts)
passed_at {i = i} {c = c} {k = k} e h a = (rw (sym e, sym h) a.passed, rw (sym e, sym h) a.counts)

forest_at : {i : ℕ} {c : Call} {l m : List ℕ} {g : PoolSettings} {f : Forest} → given_in l ≡ g → forest_of l ≡ f → After i c l m → forest_of m ≡ done_at g i c f
forest_at {i = i} {c = c} e h a = rw (sym e, sym h) a.forest

module _ (i j : ℕ) (c d : Call) (l m k m' k' : List ℕ) (x y x' y' : Counts) (lc : D.Lent c) (ld : D.Lent d)
    (b₁ : Batches i c l (Ok x) m) (b₂ : Batches j d m (Ok y) k) (b₃ : Batches j d l (Ok y') m') (b₄ : Batches i c m' (Ok x') k') where
  abbrev g : PoolSettings
  g = given_in l

  abbrev f : Forest
  f = forest_of l

  a₁ : Accepted i c l x m
  a₁ = accepted i c l b₁

  a₃ : Accepted j d l y' m'
  a₃ = accepted j d l b₃

  f₁ : After i c l m
  f₁ = after i c l x m lc a₁

  f₃ : After j d l m'
  f₃ = after j d l y' m' ld a₃

  f₂ : After j d m k
  f₂ = after j d m y k ld (accepted j d m b₂)

  f₄ : After i c m' k'
  f₄ = after i c m' x' k' lc (accepted i c m' b₄)

  second : (refusal_at g j d (done_at g i c f) ≡ 0) × (y ≡ (batch_at g j d (done_at g i c f)).counts)
  second = passed_at f₁.given f₁.forest (accepted j d m b₂)

  fourth : (refusal_at g i c (done_at g j d f) ≡ 0) × (x' ≡ (batch_at g i c (done_at g j d f)).counts)
  fourth = passed_at f₃.given f₃.forest (accepted i c m' b₄)

  both : BothAccepted g i c j d f
  both = record { first = a₁.passed; then_second = second.0; second = a₃.passed; then_first = fourth.0 }

  swapped : ChangePlacesAt g i c j d f → Swapped x y x' y' k k'
  swapped p =
      let here : forest_of k ≡ done_at g j d (done_at g i c f) = forest_at f₁.given f₁.forest f₂ in
      let there : forest_of k' ≡ done_at g i c (done_at g j d f) = forest_at f₃.given f₃.forest f₄ in
      record {
        one = a₁.counts ∙ p.first ∙ sym fourth.1;
        other = second.1 ∙ p.second ∙ sym a₃.counts;
        entries = λ t. entries_of (index_of k' t);
        this = λ t low. answers_from t (entries_of (index_of k' t)) k low f₂.sound
            (sym (in_forest t k) ∙ ap (λ (h : Forest). entries_of (tree_of t h)) here ∙ (p.same t).holds
            ∙ ap (λ (h : Forest). entries_of (tree_of t h)) (sym there) ∙ in_forest t k');
        that = λ t low. answers_from t (entries_of (index_of k' t)) k' low f₄.sound refl;
      }

pub swap : Swap
swap i c d l m k m' k' x y x' y' lc ld apart b₁ b₂ b₃ b₄ =
    let all = both i i c d l m k m' k' x y x' y' lc ld b₁ b₂ b₃ b₄ in
    swapped i i c d l m k m' k' x y x' y' lc ld b₁ b₂ b₃ b₄
    (T.swap_same_lem (given_in l) i c d (forest_of l) (sound_forest l (accepted i c l b₁).sound) lc ld apart all)

pub swap_trees_lem : SwapTrees
swap_trees_lem i j c d l m k m' k' x y x' y' ne lc ld b₁ b₂ b₃ b₄ =
    let all = both i j c d l m k m' k' x y x' y' lc ld b₁ b₂ b₃ b₄ in
    swapped i j c d l m k m' k' x y x' y' lc ld b₁ b₂ b₃ b₄
    (T.swap_trees_lem (given_in l) i j c d (forest_of l) ne (sound_forest l (accepted i c l b₁).sound) lc ld all)
