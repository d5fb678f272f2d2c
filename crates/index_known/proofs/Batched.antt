-- What the root has done to a tree that is known keeps the promise of a batch, and the tree is known again. Assumes nothing.
use Prim.Native.Nat.{ℕ, zero, suc, ◌≤◌, ◌<◌}
use mathlib.Core.Path.{◌≡◌, refl, sym, ap, ◌∙◌, subst}
use mathlib.Core.Logic.{◌≢◌}
use mathlib.Core.List.{List}
use lib.ListN.{length}
use borrow.Author.Tests.{lt-ltb}
use Rattle.words.specs.Words.{words}
use Rattle.words.proofs.Laws.{Bytes}
use Rattle.slots.specs.Nodes.{nodes}
use Rattle.slots_pool.proofs.Fresh.{both_held}
use Rattle.model.specs.declared.PoolSettings.{PoolSettings}
use Rattle.model.specs.declared.Settings.{Settings}
use Rattle.std.specs.Prelude.{Ok, Err}
use Rattle.model.specs.declared.Counts.{Counts}
use Rattle.model.specs.declared.Refusal.{Refusal}
use Rattle.model.specs.Tree.{Index, slots_of}
use Rattle.model.specs.Change.{Batched, batch}
use Rattle.model.specs.Answer.{refused, done, unless, number}
use Rattle.model.specs.Refuse.{Call, tasks_of, refusal}
use Rattle.model.specs.Sound.{handed}
use Rattle.model.specs.Demands.{Lent}
use Rattle.model.specs.Forest.{Forest, tree_of, elsewhere, replant, refusal_at, batch_at}
use Rattle.model.specs.TwoTrees.{BatchesAt}
use Rattle.model.proofs.Refusals.{number_some}
use Rattle.model.proofs.Layers.{limits_at_lem}
use Rattle.model.proofs.Forest.{replant_tree, accepted, one_batch_at_lem}
use Rattle.tree.specs.Bridge.{HoldsIndex, HoldsForest, Frame}
use Rattle.tree.specs.Pool.{given_in, settings_in, nodes_in, index_of, forest_of, image_of, SoundPool}
use Rattle.tree.proofs.Pools.{
  number_below,
  tree_of_lem,
  sound_held,
  sound_holds_forest,
  sound_holds_index,
  sound_forest,
  sound_index,
  sound_header,
  held_bytes,
  image_settings,
  image_index,
  image_sound,
}
use Rattle.tree_spare.specs.Spared.{Spared}
use Rattle.batch_root.specs.Roots.{index_at}
use Rattle.batch.specs.declared.Ran.{Ran}
use Rattle.batch.specs.Promises.{ToBatch, Changed}
use Rattle.index_promise.specs.Promise.{holds, Left, ◌leaving◌, leaves, Batches}
use Rattle.index_refuse.specs.Refusals.{BatchRefused}
use Rattle.index_known.specs.declared.Known.{Known}
use Rattle.index_known.specs.Promises.{Knows}
use Rattle.index_known.proofs.Replanted.{replanted}

module _ {l : List ℕ} {k : Known} (w : Knows l k) where
  -- the tree's number, its settings, and the forest that it stands in
  abbrev i : ℕ
  i = k.settings.root

  abbrev given : PoolSettings
  given = given_in l

  abbrev st : Settings
  st = settings_in l i

  abbrev f : Forest
  f = forest_of l

  -- what the code reads is the tree's
  pub narrow : k.settings.order ≤ 32
  narrow = rw w.pool.own (limits_at_lem given w.pool.sound.settings i).narrow

  there : i < 2
  there = number_below w.pool

  -- the index that the root is handed
  same : index_at st.root (nodes_in l i) k.height ≡ index_of l i
  same = ap (index_at st.root (nodes_in l i)) w.pool.tall

  module _ (c : Call) where
    abbrev left : ℕ → Left Counts
    left n = leaves (λ b. b.counts) (λ b. image_of given (replant i b.index f)) l (unless n (batch_at given i c f))

    module _ (n : ℕ) (r : BatchRefused k.settings k.height k.spare.unused c n) where
      refusal_is : n ≡ refusal_at given i c f
      refusal_is =
          let by : BatchRefused st k.height k.spare.unused c n =
          subst (λ (u : Settings). BatchRefused u k.height k.spare.unused c n) w.pool.own r in
          rw (lt-ltb i 2 there)
          (by (tree_of i f) (ap (λ (x : Index). x.height) (tree_of_lem l i) ∙ sym w.pool.tall)
          (ap (λ (x : Index). length x.unused) (tree_of_lem l i) ∙ sym w.spared.count))

    -- REFUSED
    pub store_refused : (why : Refusal) → BatchRefused k.settings k.height k.spare.unused c (number why) → Batches i c l (Err why) l
    store_refused why r = holds w.pool.sound (by (number why) (number_some why) ∙ ap left (refusal_is (number why) r))
      where
        by : (n : ℕ) → n ≢ 0 → (refused n leaving l) ≡ left n
        by zero h = absurd (h refl)
        by (suc n) h = refl

    -- NOT REFUSED
    module _ (r : BatchRefused k.settings k.height k.spare.unused c 0) (lent : Lent c) where
      passed : refusal_at given i c f ≡ 0
      passed = sym (refusal_is 0 r)

      own : ToBatch st (words l) (record { height = k.height; spare = k.spare }) c
      own =
          record {
            held = sound_held l w.pool.sound i;
            holds = rw same (sound_holds_index l w.pool.sound i);
            elsewhere = elsewhere i f;
            sound = rw same (sound_index l w.pool.sound i);
            spared = w.spared;
            lent = lent;
            accepted = subst (λ (x : Index). refusal st c x ≡ 0) (tree_of_lem l i ∙ sym same) (accepted given i c f passed).1;
          }

      pub store_accepted : ToBatch k.settings (words l) (record { height = k.height; spare = k.spare }) c
      store_accepted = subst (λ (u : Settings). ToBatch u (words l) (record { height = k.height; spare = k.spare }) c) (sym w.pool.own) own

      module _ (m : List ℕ) (ran : Ran) (d : Changed k.settings (words l) (words m) k.height c ran) (len : length m ≡ length l) (bytes : Bytes m) where
        did : Changed st (words l) (words m) k.height c ran
        did = subst (λ (u : Settings). Changed u (words l) (words m) k.height c ran) w.pool.own d

        abbrev b : Batched
        b = batch_at given i c f

        before : index_at st.root (nodes_in l i) k.height ≡ tree_of i f
        before = same ∙ sym (tree_of_lem l i)

        from : batch st (tasks_of c) (index_at st.root (nodes_in l i) k.height) ≡ b
        from = ap (batch st (tasks_of c)) before

        good : BatchesAt given i c f
        good = one_batch_at_lem given i c f (sound_forest l w.pool.sound) lent passed

        -- the forest afterwards
        abbrev after : Forest
        after = replant i b.index f

        forest : HoldsForest (nodes (handed given 0) (words m)) after
        forest =
            replanted given f (sound_forest l w.pool.sound) (words l) (words m) (sound_holds_forest l w.pool.sound) i
            (subst (λ (x : Index). Frame (nodes_in l i) (nodes st (words m)) (slots_of x)) before did.frame) b.index
            (subst (λ (x : Batched). HoldsIndex (nodes st (words m)) x.index) from did.holds)

        image : m ≡ image_of given after
        image =
            held_bytes given after (words m) m (both_held given (words m) i 0 w.pool.sound.settings did.held)
            (did.header ∙ sound_header l w.pool.sound) forest good.sound refl (len ∙ w.pool.sound.exact) bytes

        pub store_done : Batches i c l (Ok ran.counts) m
        store_done =
            let counts : ran.counts ≡ b.counts = did.counts ∙ ap (λ (x : Batched). x.counts) from in
            holds w.pool.sound
            (ap (λ (x : Counts). done x leaving m) counts ∙ ap (λ (x : List ℕ). done b.counts leaving x) image
            ∙ ap left (sym passed))

        settings_kept : settings_in m i ≡ st
        settings_kept = ap (λ (x : List ℕ). settings_in x i) image ∙ image_settings given after good.sound i

        index_now : index_of m i ≡ b.index
        index_now = ap (λ (x : List ℕ). index_of x i) image ∙ image_index given after good.sound i ∙ replant_tree i b.index f

        pub store_known : Knows m (record { settings = k.settings; height = ran.root.height; spare = ran.root.spare })
        store_known =
            record {
              pool = record {
                sound = subst SoundPool (sym image) (image_sound given after good.sound);
                own = w.pool.own ∙ sym settings_kept;
                tall = did.height ∙ ap (λ (x : Batched). x.index.height) from ∙ ap (λ (x : Index). x.height) (sym index_now);
              };
              spared = subst (λ (u : Settings). Spared (nodes u (words m)) ran.root.spare) (sym settings_kept) did.spared;
            }
