-- Whatever keeps the promise is one answer, and lines that are answered one after the other write what the program is to write. Assumes nothing.
use Prim.Native.Nat.{ℕ, zero, suc, ◌^◌, ◌<◌}
use native.Mathlib.Omega.{arith}
use mathlib.Core.Path.{◌≡◌, refl, sym, ap, ◌∙◌, subst}
use mathlib.Core.List.{List, [], ◌∷◌, ◌++◌, map}
use lib.ListN.{take}
use lib.Seq.{take-append_seam}
use Rattle.model.specs.declared.Settings.{Settings}
use Rattle.model.specs.declared.Entry.{Entry}
use Rattle.model.specs.Lists.{All, none}
use Rattle.model.specs.Tree.{Index}
use Rattle.model.specs.Change.{Batched, batch}
use Rattle.model.specs.Answer.{Answer, refused, done, unless}
use Rattle.model.specs.Refuse.{Call, answer, refusal, tasks_of}
use Rattle.model.specs.Sound.{rows_for, handed, InLimits, PoolLimits, Fits, Sound}
use Rattle.model.specs.Forest.{Forest, tree_of, elsewhere, replant, new_forest, SoundForest}
use Rattle.model.specs.Demands.{Lent}
use Rattle.model.proofs.Demands as M
use Rattle.model.proofs.Forest.{new_forest_sound_lem, replant_sound}
use Rattle.model.proofs.Lists.{all_of, all_map}
use Rattle.tree.specs.Pool.{SoundPool, settings_in, index_of, image_of}
use Rattle.tree.proofs.Pools.{image_sound, image_index, image_forest, image_given}
use Rattle.index_promise.specs.Promise.{Where}
use Rattle.index_promise.proofs.Unique.{where_unique, by_sound}
use Rattle.desk_lines.specs.Lines.{lines_of}
use Rattle.desk_lines.specs.Parts.{kept}
use Rattle.desk_orders.specs.Orders.{Wanted, set, drops, dump, malformed, wanted}
use Rattle.desk_orders.proofs.Bounds.{WantedFits, wanted_fits}
use Rattle.desk_promise.specs.Replies.{Reply, refusing, batch_reply, reply, set_call, drop_call}
use Rattle.desk_promise.specs.Program.{desk, answered, answers}
use Rattle.desk_promise.specs.Promise.{Outcome, outcome, with_first, Answers, Session, rest, next, WritesTheProgram, OneAnswer}

-- ONE ANSWER

pub one_answer : OneAnswer
one_answer (set es) l t a b p q = where_unique p q
one_answer (drops ks) l t a b p q = where_unique p q
one_answer dump l t a b p q = where_unique p q
one_answer malformed l t a b p q = p ∙ sym q

-- A REPLY IS THE SAME, however the index is held
module _ {A : Type 0} (f : Index → A) (x : Index) where
  abbrev held : Reply Index → Reply A
  held y = record { text = y.text; after = f y.after }

  batch_held : (a : Answer Batched) → batch_reply f (f x) a ≡ held (batch_reply (λ y. y) x a)
  batch_held (refused n) = refl
  batch_held (done b) = refl

  reply_held : (st : Settings) (w : Wanted) → reply f (f x) st w x ≡ held (reply (λ y. y) x st w x)
  reply_held st (set es) = batch_held (answer st (set_call es) x)
  reply_held st (drops ks) = batch_held (answer st (drop_call ks) x)
  reply_held st dump = refl
  reply_held st malformed = refl

-- A REPLY LEAVES A SOUND INDEX

lent_set : {es : List Entry} → All Fits es → Lent (set_call es)
lent_set f =
    record {
      operation = tt;
      places = all_of (λ e. e.place) (all_map (λ e h. h.place) f);
      sizes = all_of (λ e. e.size) (all_map (λ e h. h.size) f);
      keys = all_of (λ e. e.key) (all_map (λ e h. h.key) f);
    }

lent_drop : {ks : List ℕ} → All (λ k. k < 2 ^ 64) ks → Lent (drop_call ks)
lent_drop f = record { operation = tt; places = none; sizes = none; keys = f }

-- of a pool that holds the forest f, whose first tree is x
module _ (f : Forest) (s : SoundForest desk f) where
  abbrev x : Index
  x = tree_of 0 f

  abbrev Stays : Index → Type 0
  Stays y = Sound (handed desk 0) (elsewhere 0 f) y

  batch_sound : (c : Call) → Lent c → Stays (batch_reply (λ y. y) x (answer (handed desk 0) c x)).after
  batch_sound c lent = by (refusal (handed desk 0) c x) refl
    where
      by : (n : ℕ) → refusal (handed desk 0) c x ≡ n → Stays (batch_reply (λ y. y) x (unless n (batch (handed desk 0) (tasks_of c) x))).after
      by zero e = (M.one_batch_lem (handed desk 0) (elsewhere 0 f) c x (s.trees 0) lent e).sound
      by (suc n) e = s.trees 0

  reply_sound : (w : Wanted) → WantedFits w → Stays (reply (λ y. y) x (handed desk 0) w x).after
  reply_sound (set es) h = batch_sound (set_call es) (lent_set h)
  reply_sound (drops ks) h = batch_sound (drop_call ks) (lent_drop h)
  reply_sound dump h = s.trees 0
  reply_sound malformed h = s.trees 0

  -- AN ANSWER on that pool

  abbrev pool : List ℕ
  pool = image_of desk f

  -- with y as its first tree
  abbrev image : Index → List ℕ
  image y = image_of desk (replant 0 y f)

  image_is : with_first pool ≡ image
  image_is = λ j y. image_of (image_given desk f s j) (replant 0 y (image_forest desk f s j))

  on_sound : (w : Wanted) (t : List ℕ) (a : Outcome)
      → Where (SoundPool pool) (outcome t (reply (with_first pool) pool (settings_in pool 0) w (index_of pool 0))) (outcome t (refusing pool 2)) a
      → a ≡ outcome t (held image x (reply (λ y. y) x (handed desk 0) w x))
  on_sound w t a p =
      by_sound (image_sound desk f s) p
      ∙ ap (λ (g : Index → List ℕ). outcome t (reply g pool (settings_in pool 0) w (index_of pool 0))) image_is
      ∙ ap (λ given. outcome t (reply image pool (handed given 0) w (index_of pool 0))) (image_given desk f s)
      ∙ ap (λ i. outcome t (reply image pool (handed desk 0) w i)) (image_index desk f s 0)
      ∙ ap (outcome t) (reply_held image x (handed desk 0) w)

  answer_is : (w : Wanted) (t : List ℕ) (a : Outcome) → Answers w pool t a → a ≡ outcome t (held image x (reply (λ y. y) x (handed desk 0) w x))
  answer_is (set es) t a p = on_sound (set es) t a p
  answer_is (drops ks) t a p = on_sound (drops ks) t a p
  answer_is dump t a p = on_sound dump t a p
  answer_is malformed t a p = p

-- LINES ONE AFTER THE OTHER

run : (ls : List (List ℕ)) (f : Forest) (written : List ℕ) → SoundForest desk f → Session (map kept ls) (image_of desk f) written
    → written ≡ answers ls (tree_of 0 f)
run [] f written s rest = refl
run (l ∷ ls) f written s (next {written = behind} t a p q) =
    let y = answered l (tree_of 0 f) in
    let is : a ≡ outcome t (held (image f s) (tree_of 0 f) y) = answer_is f s (wanted l) t a p in
    let text : take a.count a.text ≡ y.text = ap (λ (o : Outcome). take o.count o.text) is ∙ take-append_seam y.text _ in
    let after : SoundForest desk (replant 0 y.after f) =
    replant_sound desk 0 y.after f s (reply_sound f s (wanted l) (wanted_fits l)) in
    let on : behind ≡ answers ls y.after =
    run ls (replant 0 y.after f) behind after (subst (λ m. Session (map kept ls) m behind) (ap (λ (o : Outcome). o.pool) is) q) in
    ap (◌++ behind) text ∙ ap (y.text ++◌) on

pub desk_limits : PoolLimits desk
desk_limits = (each 0, each 1)
  where
    each : (root : ℕ) → InLimits (record { nodes = 16; order = 4; minimum = 2; rows = rows_for desk; root = root })
    each root = record { many = omega arith; bounded = omega arith; wide = omega arith; narrow = omega arith; some = omega arith; least = omega arith }

pub writes_the_program : WritesTheProgram
writes_the_program text written s = run (lines_of text) (new_forest desk.nodes) written (new_forest_sound_lem desk desk_limits) s
