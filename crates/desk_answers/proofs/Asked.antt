-- What a line asks for is what was read of it. Assumes nothing.
use Prim.Native.Nat.{ℕ, ◌-◌, ◌≤◌, ◌<◌}
use native.Mathlib.Omega.{arith}
use mathlib.Core.Path.{◌≡◌, refl, sym, ap, ◌∙◌, subst}
use mathlib.Core.List.{List, [], map}
use lib.ListN.{length, take, replicate, length-append, length-take, length-map}
use lib.Seq.{take_at}
use borrow.Author.Tests.{lt-leb, le-leb}
use Rattle.model.specs.declared.Entry.{Entry}
use Rattle.model.specs.declared.Operation.TheVariants as Op
use Rattle.model.specs.Refuse.{call}
use Rattle.desk_orders.specs.declared.Reading.{Reading}
use Rattle.desk_orders.specs.declared.Order.{Order}
use Rattle.desk_orders.specs.declared.Order.TheVariants as Read
use Rattle.desk_lines.specs.Parts.{longest, held}
use Rattle.desk_orders.specs.Orders.{Wanted, set, drops, dump, malformed, ordered, wanted, placed, reading_of}
use Rattle.desk_orders.proofs.Asks.{short}
use Rattle.desk_promise.specs.Replies.{refusing, malformed_line}
use Rattle.desk_promise.specs.Promise.{Outcome, outcome, Changes, Replies, Answers}

-- A LINE

module _ (line : List ℕ) (n : ℕ) where
  pub too_long : longest < n → ordered (held (record { count = n; bytes = line })) ≡ malformed
  too_long h = simp (lt-leb n longest h) refl

  pub not_too_long : n ≤ longest → wanted (take n line) ≡ ordered (held (record { count = n; bytes = line }))
  not_too_long h = short (take n line) (omega (arith, length-take n line)) ∙ sym (simp (le-leb n longest h) refl)

-- WHAT WAS READ OF IT

-- an order by its kind
abbrev tag : Order → ℕ
tag (Read.Set n) = 0
tag (Read.Drop n) = 1
tag Read.Dump = 2
tag Read.Malformed = 3

other : {A : Type 0} {o p : Order} → o ≡ p → (tag o ≡ tag p → ⊥) → A
other e differ = absurd (differ (ap tag e))

is_set : (w : Wanted) (m : ℕ) → (reading_of w).order ≡ Read.Set m → (es : List Entry) × ((w ≡ set es) × (m ≡ length es))
is_set (set es) m e = (es, (refl, same e))
  where
    same : Read.Set (length es) ≡ Read.Set m → m ≡ length es
    same h = cc
is_set (drops ks) m e = other e (λ (z : ◌≡◌ {A = ℕ} 1 0). omega arith)
is_set dump m e = other e (λ (z : ◌≡◌ {A = ℕ} 2 0). omega arith)
is_set malformed m e = other e (λ (z : ◌≡◌ {A = ℕ} 3 0). omega arith)

is_drop : (w : Wanted) (m : ℕ) → (reading_of w).order ≡ Read.Drop m → (ks : List ℕ) × ((w ≡ drops ks) × (m ≡ length ks))
is_drop (drops ks) m e = (ks, (refl, same e))
  where
    same : Read.Drop (length ks) ≡ Read.Drop m → m ≡ length ks
    same h = cc
is_drop (set es) m e = other e (λ (z : ◌≡◌ {A = ℕ} 0 1). omega arith)
is_drop dump m e = other e (λ (z : ◌≡◌ {A = ℕ} 2 1). omega arith)
is_drop malformed m e = other e (λ (z : ◌≡◌ {A = ℕ} 3 1). omega arith)

is_dump : (w : Wanted) → (reading_of w).order ≡ Read.Dump → w ≡ dump
is_dump dump e = refl
is_dump (set es) e = other e (λ (z : ◌≡◌ {A = ℕ} 0 2). omega arith)
is_dump (drops ks) e = other e (λ (z : ◌≡◌ {A = ℕ} 1 2). omega arith)
is_dump malformed e = other e (λ (z : ◌≡◌ {A = ℕ} 3 2). omega arith)

is_malformed : (w : Wanted) → (reading_of w).order ≡ Read.Malformed → w ≡ malformed
is_malformed malformed e = refl
is_malformed (set es) e = other e (λ (z : ◌≡◌ {A = ℕ} 0 3). omega arith)
is_malformed (drops ks) e = other e (λ (z : ◌≡◌ {A = ℕ} 1 3). omega arith)
is_malformed dump e = other e (λ (z : ◌≡◌ {A = ℕ} 2 3). omega arith)

-- the numbers of an order stand in the first places
first : (xs ps : List ℕ) (m : ℕ) → ps ≡ placed xs → m ≡ length xs → (take m ps ≡ xs) × (m ≤ length ps)
first xs ps m e h =
    let rest : List ℕ = replicate (128 - length xs) 0 in
    (ap (take m) e ∙ take_at xs rest m (sym h), omega (arith, ap length e, length-append xs rest))

module _ (r : Reading) (w : Wanted) (e : r ≡ reading_of w) where
  kind : {o : Order} → r.order ≡ o → (reading_of w).order ≡ o
  kind o = ap (λ (x : Reading). x.order) (sym e) ∙ o

  -- so many rows are there, and make the batch that the line asks for
  pub record Rows (m : ℕ) : Type 0 where
    pub keys : m ≤ length r.keys
    pub places : m ≤ length r.places
    pub sizes : m ≤ length r.sizes
    pub answers : (l t : List ℕ) (a : Outcome)
        → Changes (call Op.SetEach (take m r.places) (take m r.sizes) (take m r.keys)) l t a → Answers w l t a

  pub rows : (m : ℕ) → r.order ≡ Read.Set m → Rows m
  rows m o =
      let (es, (is, many)) = is_set w m (kind o) in
      let read : r ≡ reading_of (set es) = e ∙ ap reading_of is in
      let ks = first (map (λ x. x.key) es) r.keys m (ap (λ (x : Reading). x.keys) read) (many ∙ sym (length-map es (λ x. x.key))) in
      let ps = first (map (λ x. x.place) es) r.places m (ap (λ (x : Reading). x.places) read) (many ∙ sym (length-map es (λ x. x.place))) in
      let zs = first (map (λ x. x.size) es) r.sizes m (ap (λ (x : Reading). x.sizes) read) (many ∙ sym (length-map es (λ x. x.size))) in
      record { keys = ks.1; places = ps.1; sizes = zs.1; answers = λ l t a p. subst (λ v. Answers v l t a) (sym is) (rw (ks.0, ps.0, zs.0) at p) }

  pub record Keys (m : ℕ) : Type 0 where
    pub keys : m ≤ length r.keys
    pub answers : (l t : List ℕ) (a : Outcome) → Changes (call Op.Remove [] [] (take m r.keys)) l t a
        → Answers w l t a

  pub keys_alone : (m : ℕ) → r.order ≡ Read.Drop m → Keys m
  keys_alone m o =
      let (ks, (is, many)) = is_drop w m (kind o) in
      let read : r ≡ reading_of (drops ks) = e ∙ ap reading_of is in
      let f = first ks r.keys m (ap (λ (x : Reading). x.keys) read) many in
      record { keys = f.1; answers = λ l t a p. subst (λ v. Answers v l t a) (sym is) (rw f.0 at p) }

  pub dumps : r.order ≡ Read.Dump → (l t : List ℕ) (a : Outcome) → Replies dump l t a → Answers w l t a
  dumps o l t a p = subst (λ v. Answers v l t a) (sym (is_dump w (kind o))) p

  pub is_refused : r.order ≡ Read.Malformed → (l t : List ℕ) (a : Outcome) → a ≡ outcome t (refusing l malformed_line) → Answers w l t a
  is_refused o l t a p = subst (λ v. Answers v l t a) (sym (is_malformed w (kind o))) p
