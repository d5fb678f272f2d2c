-- What a batch answers is told as text. Assumes nothing.
use Prim.Native.Nat.{ℕ}
use mathlib.Core.Path.{◌≡◌, refl, sym, ap, ◌∙◌, subst}
use mathlib.Core.List.{List}
use lib.ListN.{length}
use Rattle.std.specs.Prelude.{Result, Ok, Err}
use Rattle.model.specs.declared.Counts.{Counts}
use Rattle.model.specs.declared.Refusal.{Refusal}
use Rattle.model.specs.Change.{Batched}
use Rattle.model.specs.Answer.{Answer, refused, done, number}
use Rattle.model.specs.Refuse.{Call}
use Rattle.model.specs.Forest.{answer_at}
use Rattle.model.proofs.Answers.{refused_done}
use Rattle.tree.specs.Pool.{given_in, forest_of}
use Rattle.index_promise.specs.Promise.{holds, fails, Left, ◌leaving◌, leaves, Batches}
use Rattle.desk_text.specs.Texts.{over, done_text, refused_text}
use Rattle.desk_text.proofs.Overs.{over_first}
use Rattle.desk_promise.specs.Replies.{Reply, refusing, batch_reply}
use Rattle.desk_promise.specs.Promise.{outcome, with_first, Changes}

-- a text that was put into the first bytes
pub told : (y : Reply (List ℕ)) (k : ℕ) (l t t' : List ℕ) → k ≡ length y.text → l ≡ y.after → t' ≡ over 0 y.text t
    → record { count = k; pool = l; text = t' } ≡ outcome t y
told y k l t t' a b c = rw (a, b, c ∙ over_first y.text t) refl

-- A BATCH

module _ (c : Call) (l m t t' : List ℕ) (k : ℕ) where
  abbrev left : Answer Batched → Left Counts
  left = leaves (λ b. b.counts) (λ b. with_first l b.index) l

  abbrev replied : Answer Batched → Reply (List ℕ)
  replied = batch_reply (with_first l) l

  module _ (n : Counts) (a : k ≡ length (done_text n)) (b : t' ≡ over 0 (done_text n) t) where
    by_done : (x : Answer Batched) → (done n leaving m) ≡ left x → record { count = k; pool = m; text = t' } ≡ outcome t (replied x)
    by_done (refused i) e = absurd (refused_done i n (sym (ap (λ (w : Left Counts). w.answer) e)))
    by_done (done y) e =
        let counts : n ≡ y.counts = same (ap (λ (w : Left Counts). w.answer) e) in
        told (replied (done y)) k m t t' (a ∙ ap (λ x. length (done_text x)) counts) (ap (λ (w : Left Counts). w.bytes) e)
        (b ∙ ap (λ x. over 0 (done_text x) t) counts)
      where
        same : done n ≡ done y.counts → n ≡ y.counts
        same h = cc

    pub batch_done : (r : Result Counts Refusal) → r ≡ Ok n → Batches 0 c l r m → Changes c l t (record { count = k; pool = m; text = t' })
    batch_done r e p = by (subst (λ q. Batches 0 c l q m) e p)
      where
        by : Batches 0 c l (Ok n) m → Changes c l t (record { count = k; pool = m; text = t' })
        by (fails u f) = absurd (refused_done 2 n (sym (ap (λ (w : Left Counts). w.answer) f)))
        by (holds s f) = holds s (by_done (answer_at (given_in l) 0 c (forest_of l)) f)

  module _ (why : Refusal) (a : k ≡ length (refused_text (number why))) (b : t' ≡ over 0 (refused_text (number why)) t) where
    abbrev n : ℕ
    n = number why

    refusing_by : (i : ℕ) → ◌≡◌ {A = Left Counts} (refused n leaving m) (refused i leaving l)
        → record { count = k; pool = m; text = t' } ≡ outcome t (refusing l i)
    refusing_by i e =
        let is : n ≡ i = same (ap (λ (w : Left Counts). w.answer) e) in
        told (refusing l i) k m t t' (a ∙ ap (λ x. length (refused_text x)) is) (ap (λ (w : Left Counts). w.bytes) e)
        (b ∙ ap (λ x. over 0 (refused_text x) t) is)
      where
        same : ◌≡◌ {A = Answer Counts} (refused n) (refused i) → n ≡ i
        same h = cc

    by_refused : (x : Answer Batched) → (refused n leaving m) ≡ left x → record { count = k; pool = m; text = t' } ≡ outcome t (replied x)
    by_refused (refused i) e = refusing_by i e
    by_refused (done y) e = absurd (refused_done n y.counts (ap (λ (w : Left Counts). w.answer) e))

    pub batch_refused : (r : Result Counts Refusal) → r ≡ Err why → Batches 0 c l r m → Changes c l t (record { count = k; pool = m; text = t' })
    batch_refused r e p = by (subst (λ q. Batches 0 c l q m) e p)
      where
        by : Batches 0 c l (Err why) m → Changes c l t (record { count = k; pool = m; text = t' })
        by (fails u f) = fails u (refusing_by 2 f)
        by (holds s f) = holds s (by_refused (answer_at (given_in l) 0 c (forest_of l)) f)
